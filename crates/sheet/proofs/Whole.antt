-- The reading as a whole: the text's length, its heading, and the rows behind. Assumes nothing.
use Prim.Native.Nat.{ℕ, ◌≤◌, ◌<◌}
use native.Mathlib.Omega.{arith}
use mathlib.Core.Path.{◌≡◌, sym, ◌∙◌, ap}
use mathlib.Core.Logic.{◌⊎◌, inl, inr}
use mathlib.Core.Bool.{Bool, true, false}
use mathlib.Core.List.{List, ◌∷◌}
use mathlib.Core.Option.{none, some}
use borrow.Author.Tests.{eqb-true, eq-eqb, lt-ltb, le-leb, lt-leb}
use lib.Dec.{eqb}
use lib.ListN.{length, drop}
use Rattle.std.specs.Prelude.{Result, Some, None, Err}
use Rattle.outcome.specs.declared.Reason.TheVariants as reason
use Rattle.outcome.specs.declared.Refusal.{Refusal}
use Rattle.outcome.specs.Refusals.{refused_in}
use Rattle.model.proofs.Bounded.{not_both}
use Rattle.model.specs.Limits.{text_most}
use Rattle.model.specs.Refusal.{and_then}
use Rattle.model.specs.Text.{lines_of, heading_of}
use Rattle.model.specs.Place.{outside, rows_from, complete, body_of, read_with}
use Rattle.line.specs.Scan.{first_line, behind_line}
use Rattle.line.proofs.Lines.{lines_at}
use Rattle.heading.specs.Names.{columns_from, HeadingAs}
use Rattle.heading.specs.declared.Heading.{Heading}
use Rattle.sheet.specs.Bridge.{store_of, ReadAs}
use Rattle.sheet.specs.Store.{BodyAs}
use Rattle.sheet.proofs.Body.{no_rows}

-- the text: its length, its heading, and the rows behind
module _ (choices : Bool) (text kind one two start : List ℕ) where
  refused_as : (r : Refusal) → read_with choices text ≡ refused_in r → ReadAs choices text kind one two start (Err r)
  refused_as r e = record { outcome = sym e; starts = λ rs h. no_rows (read_with choices text) _ r.line rs e h; kept = tt }

  read_empty : length text ≡ 0 → ReadAs choices text kind one two start (Err (record { reason = reason.Length; line = 0 }))
  unfolding read_with
  read_empty h = refused_as (record { reason = reason.Length; line = 0 }) (rw h)

  read_long : text_most < length text → ReadAs choices text kind one two start (Err (record { reason = reason.Length; line = 0 }))
  unfolding read_with
  read_long h =
      refused_as (record { reason = reason.Length; line = 0 }) (rw (lt-ltb 0 (length text) (omega arith), lt-leb (length text) text_most h))

  pub read_unmeasured : (r : Bool) → r ≡ eqb (length text) 0 → (r ≡ true) ⊎ ((r ≡ false) × (text_most < length text))
      → ReadAs choices text kind one two start (Err (record { reason = reason.Length; line = 0 }))
  read_unmeasured r e (inl h) = read_empty (eqb-true (length text) 0 (sym e ∙ h))
  read_unmeasured r e (inr h) = read_long h.1

  module _ (r : Bool) (measured : r ≡ eqb (length text) 0) (bytes : r ≡ false) (few_bytes : length text ≤ text_most) where
    some_bytes : length text ≡ 0 → ⊥
    some_bytes e = not_both r (measured ∙ eq-eqb (length text) 0 e) bytes

    read_body : read_with choices text ≡ body_of choices (first_line text ∷ lines_of (behind_line text))
    unfolding read_with
    read_body =
        rw (lt-ltb 0 (length text) (omega (arith, some_bytes)), le-leb (length text) text_most few_bytes) (ap (body_of choices) (lines_at text 0 (omega (arith, some_bytes))))

    pub read_unnamed : HeadingAs text None → ReadAs choices text kind one two start (Err (record { reason = reason.Heading; line = 1 }))
    unfolding body_of
    read_unnamed p = let q : heading_of (first_line text) ≡ none = sym p.heading in refused_as (record { reason = reason.Heading; line = 1 }) (read_body ∙ rw (q, body_of))

    pub read_named : (h : Heading) (v : Result ℕ Refusal) → HeadingAs text (Some h)
        → BodyAs choices (columns_from h.columns) text h.first_row (store_of kind one two start) v → ReadAs choices text kind one two start v
    unfolding body_of
    read_named h v p b =
        let q : heading_of (first_line text) ≡ some (columns_from h.columns) = sym p.heading in
        let r : read_with choices text ≡ and_then (rows_from choices (columns_from h.columns) 0 outside (lines_of (drop h.first_row text))) complete =
        read_body
        ∙ rw (q, body_of) (ap (λ (l : List ℕ). and_then (rows_from choices (columns_from h.columns) 0 outside (lines_of l)) complete) (sym p.named.0.behind)) in
        record { outcome = b.outcome ∙ sym r; starts = λ rs g. b.starts rs (sym r ∙ g); kept = b.kept }
