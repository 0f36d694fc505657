-- The reading as a whole: the table's length, its names, and the rules behind. Assumes nothing.
use Prim.Native.Nat.{ℕ, ◌≤◌, ◌<◌}
use native.Mathlib.Omega.{arith}
use mathlib.Core.Path.{◌≡◌, sym, ◌∙◌, ap}
use mathlib.Core.Logic.{◌⊎◌, inl, inr}
use mathlib.Core.Bool.{Bool, true, false}
use mathlib.Core.List.{List, ◌∷◌}
use borrow.Author.Tests.{eqb-true, eq-eqb, lt-ltb, le-leb, lt-leb}
use lib.Dec.{eqb}
use lib.ListN.{length, drop}
use Rattle.std.specs.Prelude.{Result, Some, None, Err}
use Rattle.outcome.specs.declared.Refusal.{Refusal}
use Rattle.model.proofs.Bounded.{not_both}
use Rattle.model.specs.Limits.{text_most}
use Rattle.model.specs.Refusal.{refusal, sender_table_refusal}
use Rattle.model.specs.Text.{lines_of}
use Rattle.model.specs.Senders.{is_names_line, rules_from, rules_behind, rules_of}
use Rattle.line.specs.Scan.{first_line, behind_line}
use Rattle.line.proofs.Lines.{lines_at}
use Rattle.sender_table.specs.Table.{NamesAs, RulesAs, TableAs}
use Rattle.sender_table.specs.declared.Table.{Table}
use Rattle.sender_table.proofs.Storing.{bad_line}

module _ (text : List ℕ) where
  refused_whole : (line : ℕ) → rules_of text ≡ refusal sender_table_refusal line → TableAs text (Err (bad_line line))
  refused_whole line f = record { outcome = sym f; few = tt }

  table_empty : length text ≡ 0 → TableAs text (Err (bad_line 0))
  unfolding rules_of
  table_empty h = refused_whole 0 (rw h)

  table_long : text_most < length text → TableAs text (Err (bad_line 0))
  unfolding rules_of
  table_long h = refused_whole 0 (rw (lt-ltb 0 (length text) (omega arith), lt-leb (length text) text_most h))

  pub table_unmeasured : (r : Bool) → r ≡ eqb (length text) 0 → (r ≡ true) ⊎ ((r ≡ false) × (text_most < length text)) → TableAs text (Err (bad_line 0))
  table_unmeasured r e (inl h) = table_empty (eqb-true (length text) 0 (sym e ∙ h))
  table_unmeasured r e (inr h) = table_long h.1

  module _ (r : Bool) (measured : r ≡ eqb (length text) 0) (bytes : r ≡ false) (few_bytes : length text ≤ text_most) where
    some_bytes : length text ≡ 0 → ⊥
    some_bytes e = not_both r (measured ∙ eq-eqb (length text) 0 e) bytes

    whole_lines : rules_of text ≡ rules_behind (first_line text ∷ lines_of (behind_line text))
    unfolding rules_of
    whole_lines =
        rw (lt-ltb 0 (length text) (omega (arith, some_bytes)), le-leb (length text) text_most few_bytes)
        (ap rules_behind (lines_at text 0 (omega (arith, some_bytes))))

    pub table_unnamed : NamesAs text None → TableAs text (Err (bad_line 1))
    unfolding rules_behind
    table_unnamed p = let f : is_names_line (first_line text) ≡ false = p in refused_whole 1 (whole_lines ∙ rw f)

    pub table_named : (first : ℕ) (t : Result Table Refusal) → NamesAs text (Some first) → RulesAs text first t → TableAs text t
    unfolding rules_behind
    table_named first t f r =
        let e : rules_of text ≡ rules_from 0 (lines_of (drop first text)) =
        whole_lines ∙ rw f.0 (ap (λ (l : List ℕ). rules_from 0 (lines_of l)) (sym f.1.behind)) in
        record { outcome = r.outcome ∙ sym e; few = r.few }
