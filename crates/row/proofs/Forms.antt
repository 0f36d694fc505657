-- A row's letter and numbers, as the code tests them, are the model's row. Assumes nothing.
use Prim.Native.Nat.{ℕ, ◌+◌, ◌^◌, ◌<◌}
use native.Mathlib.Omega.{arith}
use Prim.Native.Char.{code}
use mathlib.Core.Path.{◌≡◌, refl, sym, ◌∙◌, ap}
use mathlib.Core.Logic.{◌⊎◌, inl, inr}
use mathlib.Core.Bool.{Bool, true, false, cond, ◌&&◌}
use mathlib.Core.List.{List, [], ◌∷◌}
use mathlib.Core.Option.{Option, none, some}
use borrow.Author.Rules.{Fits-under}
use mir.Syntax.{w64}
use mir.Val.{Fits, bits}
use borrow.Author.Tests.{ne_eqb}
use lib.Dec.{T, eqb, leb}
use lib.ListN.{length, drop, get_or}
use Rattle.std.specs.Prelude.{Some, None}
use Rattle.model.specs.Text.{number_of}
use Rattle.model.specs.Rows.{Row, sheet, call, block, choice, formed, from_fields, row_of}
use Rattle.line.specs.Scan.{first_line}
use Rattle.line.specs.Parts.{fields_in, SplitAs}
use Rattle.fields.specs.Fields.{letter_of}
use Rattle.line.specs.declared.Cuts.{Cuts}
use Rattle.line.proofs.Lines.{cut_known, line_ended, line_fields, line_other, onward}
use Rattle.heading.specs.Names.{columns_from}
use Rattle.heading.specs.declared.Columns.{Columns}
use Rattle.place.specs.Letters.{row_from}
use Rattle.row.specs.Form.{RowAs}

-- each way through the cases of the letter
pub form_pair : (t : Bool) (k a b : ℕ) → (k ≡ code "M") ⊎ (k ≡ code "P") → some (row_from k a b) ≡ formed t k a b
unfolding row_from formed
form_pair t k a b (inl e) = rw e
form_pair t k a b (inr e) = rw e

pub form_choice : (t : Bool) (k a b : ℕ) → k ≡ code "A" → cond t (some (row_from k a b)) none ≡ formed t k a b
unfolding row_from formed
form_choice t k a b e = rw e (go t)
  where
    go : (t : Bool) → cond t (some (choice a b)) none ≡ cond (t && true) (some (choice a b)) none
    go true = refl
    go false = refl

unused : (t : Bool) → (t && false) ≡ false
unused true = refl
unused false = refl

one_row : (t u : Bool) (r q : Row) → cond u (some r) none ≡ cond u (some r) (cond (t && false) (some q) none)
one_row t true r q = refl
one_row t false r q = rw (unused t)

pub form_one : (t : Bool) (k a b : ℕ) → (k ≡ code "C") ⊎ (k ≡ code "S") → cond (eqb b 0) (some (row_from k a b)) none ≡ formed t k a b
unfolding row_from formed
form_one t k a b (inl e) = rw e (one_row t (eqb b 0) (call a) (choice a b))
form_one t k a b (inr e) = rw e (one_row t (eqb b 0) (sheet a) (choice a b))

pub form_block : (t : Bool) (k a b : ℕ) → k ≡ code "B" → a ≡ 0 → cond (eqb b 0) (some (row_from k a b)) none ≡ formed t k a b
unfolding row_from formed
form_block t k a b e f = rw (e, f) (one_row t (eqb b 0) block (choice 0 b))

pub form_used : (t : Bool) (k a b : ℕ) → k ≡ code "B" → (a ≡ 0 → ⊥) → cond (eqb a 0) (some (row_from k a b)) none ≡ formed t k a b
unfolding row_from formed
form_used t k a b e f = rw (e, ne_eqb a 0 f, unused t)

pub form_none : (t : Bool) (k a b : ℕ) → (k ≡ code "M" → ⊥) → (k ≡ code "P" → ⊥) → (k ≡ code "S" → ⊥) → (k ≡ code "C" → ⊥) → (k ≡ code "B" → ⊥) → (k ≡ code "A" → ⊥)
    → none ≡ formed t k a b
unfolding formed
form_none t k a b f g h i j l =
    simp (ne_eqb k (code "M") f, ne_eqb k (code "P") g, ne_eqb k (code "S") h, ne_eqb k (code "C") i, ne_eqb k (code "B") j, ne_eqb k (code "A") l, unused)

-- a letter that is none, and a field that is no number
no_one : (t : Bool) (f : List ℕ) (two : Option ℕ) → from_fields t f none two ≡ none
unfolding from_fields
no_one t [] two = refl
no_one t (k ∷ []) two = refl
no_one t (k ∷ l ∷ f) two = refl

no_two : (t : Bool) (f : List ℕ) (one : Option ℕ) → from_fields t f one none ≡ none
unfolding from_fields
no_two t [] one = refl
no_two t (k ∷ []) none = refl
no_two t (k ∷ []) (some a) = refl
no_two t (k ∷ l ∷ f) one = refl

by_letter : (t : Bool) (f : List ℕ) (a b : ℕ) → from_fields t f (some a) (some b) ≡ formed t (letter_of f) a b
unfolding from_fields letter_of formed
by_letter t [] a b = rw (unused t)
by_letter t (k ∷ []) a b = refl
by_letter t (k ∷ l ∷ f) a b = rw (unused t)

-- the line at a position, by its split
module _ (t : Bool) (text : List ℕ) (at : ℕ) (c : Columns) where
  pub row_unsplit : SplitAs text at None → RowAs t (columns_from c) text at None
  unfolding row_of
  row_unsplit p = let unread : row_of t (columns_from c) (first_line (drop at text)) ≡ none = rw (line_other text at p) in record { row = sym unread; next = tt }

  module _ (cuts : Cuts) (p : SplitAs text at (Some cuts)) where
    abbrev at_place : ℕ → List ℕ
    at_place place = get_or (fields_in text cuts) place []

    -- the next row's position fits its type, as the text's length does
    pub next_fits : (m : ℕ) → length text < m → T (leb m (2 ^ bits w64)) → Fits w64 (cuts.end + 1)
    next_fits m h t = Fits-under w64 (cuts.end + 1) m (omega (arith, h, (cut_known text at cuts p).inside)) t

    by_fields : row_of t (columns_from c) (first_line (drop at text)) ≡ from_fields t (at_place c.kind) (number_of (at_place c.one)) (number_of (at_place c.two))
    unfolding row_of
    by_fields = rw (line_ended text at cuts p, line_fields text at cuts p)

    pub row_no_one : none ≡ number_of (at_place c.one) → RowAs t (columns_from c) text at None
    row_no_one h = record { row = sym (by_fields ∙ rw (sym h) (no_one t _ _)); next = tt }

    pub row_no_two : none ≡ number_of (at_place c.two) → RowAs t (columns_from c) text at None
    row_no_two h = record { row = sym (by_fields ∙ rw (sym h) (no_two t _ _)); next = tt }

    module _ (k a b : ℕ) (r : Bool) (letter : k ≡ letter_of (at_place c.kind))
        (h : some a ≡ number_of (at_place c.one)) (h' : some b ≡ number_of (at_place c.two))
        (f : cond r (some (row_from k a b)) none ≡ formed t k a b) where
      by_form : row_of t (columns_from c) (first_line (drop at text)) ≡ cond r (some (row_from k a b)) none
      by_form =
          by_fields ∙ rw (sym h, sym h') (by_letter t (at_place c.kind) a b)
          ∙ ap (λ (x : ℕ). formed t x a b) (sym letter) ∙ sym f

      pub row_formed : r ≡ true → RowAs t (columns_from c) text at (Some (record { kind = k; one = a; two = b; next = cuts.end + 1 }))
      row_formed o = record { row = sym (by_form ∙ rw o); next = onward text at cuts p }

      pub row_unformed : r ≡ false → RowAs t (columns_from c) text at None
      row_unformed o = record { row = sym (by_form ∙ rw o); next = tt }
