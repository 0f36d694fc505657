-- The way of a cut: behind the first field, behind the second, and at the line's end. Assumes nothing.
use Prim.Native.Nat.{ℕ, suc, ◌+◌, ◌≤◌, ◌<◌}
use native.Mathlib.Numerals.{add-one}
use native.Mathlib.Omega.{arith}
use mathlib.Core.Path.{◌≡◌, refl, sym, ◌∙◌, ap}
use mathlib.Core.Bool.{Bool, true, false, not}
use mathlib.Core.List.{List, [], ◌∷◌}
use borrow.Author.Tests.{eq-eqb, ltb-true, ltb-false, eqb-true, not-true, not-false}
use lib.Dec.{eqb, ltb}
use lib.ListN.{length, drop, get_or, drop_of_length-le}
use lib.Seq.{drop-cons}
use Rattle.std.specs.Prelude.{Some, None}
use Rattle.model.proofs.Bounded.{not_both}
use Rattle.model.specs.Text.{line_end, space}
use Rattle.line.specs.Scan.{behind_field, begins_with, behind_byte, Parts, other, parts_of}
use Rattle.line.specs.Parts.{FieldEnd, SplitAs}

-- behind a byte that is there, and where it is not
not_begun : (b : ℕ) (s : List ℕ) (f : List ℕ → Parts) → begins_with b s ≡ false → behind_byte b s f ≡ other
unfolding begins_with behind_byte
not_begun b [] f h = refl
not_begun b (c ∷ s) f h = rw h

begun_cases : (text : List ℕ) (b at : ℕ) → begins_with b (drop at text) ≡ true
    → (at < length text) × (drop at text ≡ b ∷ drop (at + 1) text)
unfolding begins_with
begun_cases text b at h = go (ltb at (length text)) refl
  where
    go : (t : Bool) → ltb at (length text) ≡ t → (at < length text) × (drop at text ≡ b ∷ drop (at + 1) text)
    go true e =
        let l : at < length text = ltb-true at (length text) e in
        let d : drop at text ≡ get_or text at 0 ∷ drop (suc at) text = drop-cons text at 0 l in
        let k : eqb (get_or text at 0) b ≡ true = rw d at h in
        let m : get_or text at 0 ≡ b = eqb-true (get_or text at 0) b k in
        (l, rw (add-one, d, m))
    go false e =
        let d : drop at text ≡ [] = drop_of_length-le text (ltb-false at (length text) e) in
        let k : false ≡ true = rw d at h in
        not_both false k refl

begun_at : (text : List ℕ) (b at : ℕ) (f : List ℕ → Parts) → begins_with b (drop at text) ≡ true
    → behind_byte b (drop at text) f ≡ f (drop (at + 1) text)
unfolding behind_byte
begun_at text b at f h = rw ((begun_cases text b at h).1, eq-eqb b b refl)

pub begun_inside : (text : List ℕ) (b at : ℕ) (r : Bool) → r ≡ begins_with b (drop at text) → not r ≡ false → at + 1 ≤ length text
begun_inside text b at r e h = let l : at < length text = (begun_cases text b at (sym e ∙ not-false r h)).0 in omega arith

module _ (text : List ℕ) (at a : ℕ) (f : FieldEnd text at a) where
  stop : (b : ℕ) (k : List ℕ → Parts) → begins_with b (drop a text) ≡ false → behind_byte b (behind_field (drop at text)) k ≡ other
  stop b k h = ap (λ (s : List ℕ). behind_byte b s k) (sym f.behind) ∙ not_begun b (drop a text) k h

  go : (b : ℕ) (k : List ℕ → Parts) → begins_with b (drop a text) ≡ true → behind_byte b (behind_field (drop at text)) k ≡ k (drop (a + 1) text)
  go b k h = ap (λ (s : List ℕ). behind_byte b s k) (sym f.behind) ∙ begun_at text b a k h

pub cut_one : (text : List ℕ) (at a : ℕ) (r : Bool) → FieldEnd text at a → r ≡ begins_with space (drop a text) → not r ≡ true → SplitAs text at None
unfolding parts_of
cut_one text at a r f e h = record { parts = sym (stop text at a f space _ (sym e ∙ not-true r h)); cut = tt }

pub cut_two : (text : List ℕ) (at a b : ℕ) (r r' : Bool) → FieldEnd text at a → r ≡ begins_with space (drop a text) → not r ≡ false
    → FieldEnd text (a + 1) b → r' ≡ begins_with space (drop b text) → not r' ≡ true → SplitAs text at None
unfolding parts_of
cut_two text at a b r r' f e h g e' h' =
    record { parts = sym (go text at a f space _ (sym e ∙ not-false r h) ∙ stop text (a + 1) b g space _ (sym e' ∙ not-true r' h')); cut = tt }

pub cut_three : (text : List ℕ) (at a b e : ℕ) (r r' r'' : Bool) → FieldEnd text at a → r ≡ begins_with space (drop a text) → not r ≡ false
    → FieldEnd text (a + 1) b → r' ≡ begins_with space (drop b text) → not r' ≡ false
    → FieldEnd text (b + 1) e → r'' ≡ begins_with line_end (drop e text) → not r'' ≡ true → SplitAs text at None
unfolding parts_of
cut_three text at a b e r r' r'' f p h g p' h' l p'' h'' =
    record {
      parts = sym (go text at a f space _ (sym p ∙ not-false r h) ∙ go text (a + 1) b g space _ (sym p' ∙ not-false r' h')
          ∙ stop text (b + 1) e l line_end _ (sym p'' ∙ not-true r'' h''));
      cut = tt;
    }

pub cut_whole : (text : List ℕ) (at a b e : ℕ) (r r' r'' : Bool) → FieldEnd text at a → r ≡ begins_with space (drop a text) → not r ≡ false
    → FieldEnd text (a + 1) b → r' ≡ begins_with space (drop b text) → not r' ≡ false
    → FieldEnd text (b + 1) e → r'' ≡ begins_with line_end (drop e text) → not r'' ≡ false
    → SplitAs text at (Some (record { at = at; first = a; second = b; end = e }))
unfolding parts_of
cut_whole text at a b e r r' r'' f p h g p' h' l p'' h'' =
    record {
      parts = sym (go text at a f space _ (sym p ∙ not-false r h) ∙ go text (a + 1) b g space _ (sym p' ∙ not-false r' h')
          ∙ go text (b + 1) e l line_end _ (sym p'' ∙ not-false r'' h'') ∙ rw (← f.field, ← g.field, ← l.field));
      cut = (
        refl,
        record {
          one = f.from;
          two = omega (arith, g.from);
          three = omega (arith, l.from);
          inside = (begun_cases text line_end e (sym p'' ∙ not-false r'' h'')).0;
        },
      );
    }
