-- The lines and fields of specs/Scan are the model's. Assumes nothing.
use Prim.Native.Nat.{ℕ, suc, ◌+◌, ◌≤◌, ◌<◌}
use native.Mathlib.Omega.{arith}
use mathlib.Core.Path.{◌≡◌, refl, sym, ◌∙◌, ap, subst}
use mathlib.Core.Bool.{Bool, true, false, cond, ◌&&◌}
use mathlib.Core.List.{List, [], ◌∷◌}
use borrow.Author.Tests.{eqb-true, ne_eqb}
use lib.Dec.{eqb}
use lib.ListN.{length, get_or, drop}
use lib.Seq.{drop-cons}
use Rattle.std.specs.Prelude.{Some, None}
use Rattle.model.specs.Text.{line_end, space, lines_of, ahead_of_line, fields_of, ahead_of_field}
use Rattle.line.specs.Scan.{first_line, behind_line, first_field, behind_field, behind_byte, Parts, three, other, parts_of}
use Rattle.line.specs.Parts.{Cut, fields_in, parts_in, SplitAs, Onward}
use Rattle.line.specs.declared.Cuts.{Cuts}

-- a text that is not empty is its first line and the lines behind it
lines_cons : (b : ℕ) (s : List ℕ) → lines_of (b ∷ s) ≡ first_line (b ∷ s) ∷ lines_of (behind_line (b ∷ s))
unfolding lines_of ahead_of_line first_line behind_line
lines_cons b [] = go (eqb b line_end)
  where
    go : (t : Bool) → cond t (record { bytes = []; ended = true } ∷ []) (record { bytes = b ∷ []; ended = false } ∷ [])
        ≡ cond t (record { bytes = []; ended = true }) (record { bytes = b ∷ []; ended = false }) ∷ lines_of (cond t [] [])
    go true = refl
    go false = refl
lines_cons b (c ∷ s) = go (eqb b line_end) (lines_cons c s)
  where
    go : (t : Bool) → lines_of (c ∷ s) ≡ first_line (c ∷ s) ∷ lines_of (behind_line (c ∷ s))
        → cond t (record { bytes = []; ended = true } ∷ lines_of (c ∷ s)) (ahead_of_line b (lines_of (c ∷ s)))
        ≡ cond t (record { bytes = []; ended = true }) (record { bytes = b ∷ (first_line (c ∷ s)).bytes; ended = (first_line (c ∷ s)).ended })
        ∷ lines_of (cond t (c ∷ s) (behind_line (c ∷ s)))
    go true e = refl
    go false e = ap (ahead_of_line b) e

-- what stands behind the first field: the end of the text, of the line, or a space and further fields
data Rest (s : List ℕ) : Type 0 where
  at_end : behind_field s ≡ [] → (first_line s).ended ≡ false → fields_of (first_line s).bytes ≡ first_field s ∷ [] → Rest s
  at_line : (t : List ℕ) → behind_field s ≡ line_end ∷ t → (first_line s).ended ≡ true → fields_of (first_line s).bytes ≡ first_field s ∷ []
      → behind_line s ≡ t → Rest s
  at_space : (t : List ℕ) → behind_field s ≡ space ∷ t → (first_line s).ended ≡ (first_line t).ended
      → fields_of (first_line s).bytes ≡ first_field s ∷ fields_of (first_line t).bytes → behind_line s ≡ behind_line t → Rest s

module _ (b : ℕ) (s : List ℕ) (e : eqb b space ≡ false) (f : eqb b line_end ≡ false) where
  bf : behind_field (b ∷ s) ≡ behind_field s
  unfolding behind_field
  bf = rw (e, f)

  ff : first_field (b ∷ s) ≡ b ∷ first_field s
  unfolding first_field
  ff = rw (e, f)

  en : (first_line (b ∷ s)).ended ≡ (first_line s).ended
  unfolding first_line
  en = rw f

  fs : (x : List (List ℕ)) → fields_of (first_line s).bytes ≡ first_field s ∷ x → fields_of (first_line (b ∷ s)).bytes ≡ first_field (b ∷ s) ∷ x
  unfolding first_line fields_of ahead_of_field
  fs x h =
      let l : fields_of (first_line (b ∷ s)).bytes ≡ ahead_of_field b (fields_of (first_line s).bytes) = rw (f, e) in
      l ∙ ap (ahead_of_field b) h ∙ ap (λ (y : List ℕ). y ∷ x) (sym ff)

  bl : behind_line (b ∷ s) ≡ behind_line s
  unfolding behind_line
  bl = rw f

  further : Rest s → Rest (b ∷ s)
  further (at_end p q r) = at_end (bf ∙ p) (en ∙ q) (fs [] r)
  further (at_line t p q r l) = at_line t (bf ∙ p) (en ∙ q) (fs [] r) (bl ∙ l)
  further (at_space t p q r l) = at_space t (bf ∙ p) (en ∙ q) (fs (fields_of (first_line t).bytes) r) (bl ∙ l)

rest_line : (s : List ℕ) → Rest (line_end ∷ s)
unfolding behind_field first_field first_line behind_line fields_of
rest_line s = at_line s refl refl refl refl

rest_space : (s : List ℕ) → Rest (space ∷ s)
unfolding behind_field first_field first_line behind_line fields_of
rest_space s = at_space s refl refl refl refl

rest_of : (s : List ℕ) → Rest s
unfolding behind_field first_field first_line behind_line fields_of
rest_of [] = at_end refl refl refl
rest_of (b ∷ s) = go (eqb b space) (eqb b line_end) refl refl (rest_of s)
  where
    go : (k l : Bool) → eqb b space ≡ k → eqb b line_end ≡ l → Rest s → Rest (b ∷ s)
    go true l e f r = subst (λ (x : ℕ). Rest (x ∷ s)) (sym (eqb-true b space e)) (rest_space s)
    go false true e f r = subst (λ (x : ℕ). Rest (x ∷ s)) (sym (eqb-true b line_end f)) (rest_line s)
    go false false e f r = further b s e f r

-- the parts of a text, as the model has them of its first line
abbrev Parted : List ℕ → Parts → Type 0
Parted s (three f g h rest) =
    ((first_line s).ended ≡ true) × (fields_of (first_line s).bytes ≡ f ∷ g ∷ h ∷ []) × (behind_line s ≡ rest)
Parted s other = ((first_line s).ended && eqb (length (fields_of (first_line s).bytes)) 3) ≡ false

some_field : (l : List ℕ) → 1 ≤ length (fields_of l)
unfolding fields_of ahead_of_field
some_field [] = omega arith
some_field (b ∷ l) = go (eqb b space) (fields_of l)
  where
    ahead : (fs : List (List ℕ)) → 1 ≤ length (ahead_of_field b fs)
    ahead [] = omega arith
    ahead (f ∷ fs) = omega arith

    go : (k : Bool) (fs : List (List ℕ)) → 1 ≤ length (cond k ([] ∷ fs) (ahead_of_field b fs))
    go true fs = omega arith
    go false fs = ahead fs

parted_of : (s : List ℕ) (p : Parts) → parts_of s ≡ p → Parted s p → Parted s (parts_of s)
parted_of s p e h = subst (λ (q : Parts). Parted s q) (sym e) h

-- no line end, or fields of another number
unended : (s : List ℕ) → (first_line s).ended ≡ false → Parted s other
unended s h = rw h

numbered : (s : List ℕ) (fs : List (List ℕ)) → fields_of (first_line s).bytes ≡ fs → (length fs ≡ 3 → ⊥) → Parted s other
numbered s fs e h = go (first_line s).ended
  where
    go : (t : Bool) → (t && eqb (length (fields_of (first_line s).bytes)) 3) ≡ false
    go true = rw e (ne_eqb (length fs) 3 h)
    go false = refl

parts_line : (s : List ℕ) → Parted s (parts_of s)
unfolding parts_of behind_byte
parts_line s = one (rest_of s)
  where
    three_of : (t u : List ℕ) → behind_field s ≡ space ∷ t → behind_field t ≡ space ∷ u
        → (first_line s).ended ≡ (first_line u).ended
        → fields_of (first_line s).bytes ≡ first_field s ∷ first_field t ∷ fields_of (first_line u).bytes → behind_line s ≡ behind_line u
        → Rest u → Parted s (parts_of s)
    three_of t u p p' q r l (at_end a b c) = parted_of s other (rw (p, p', a)) (unended s (q ∙ b))
    three_of t u p p' q r l (at_line w a b c d) =
        parted_of s (three (first_field s) (first_field t) (first_field u) w) (rw (p, p', a))
        (q ∙ b, r ∙ ap (λ (x : List (List ℕ)). first_field s ∷ first_field t ∷ x) c, l ∙ d)
    three_of t u p p' q r l (at_space w a b c d) =
        parted_of s other (rw (p, p', a))
        (numbered s _ (r ∙ ap (λ (x : List (List ℕ)). first_field s ∷ first_field t ∷ x) c) (λ e. omega (arith, some_field (first_line w).bytes)))

    two : (t : List ℕ) → behind_field s ≡ space ∷ t → (first_line s).ended ≡ (first_line t).ended
        → fields_of (first_line s).bytes ≡ first_field s ∷ fields_of (first_line t).bytes → behind_line s ≡ behind_line t
        → Rest t → Parted s (parts_of s)
    two t p q r l (at_end a b c) = parted_of s other (rw (p, a)) (unended s (q ∙ b))
    two t p q r l (at_line u a b c d) =
        parted_of s other (rw (p, a)) (numbered s _ (r ∙ ap (λ (x : List (List ℕ)). first_field s ∷ x) c) (λ e. omega arith))
    two t p q r l (at_space u a b c d) =
        three_of t u p a (q ∙ b) (r ∙ ap (λ (x : List (List ℕ)). first_field s ∷ x) c) (l ∙ d) (rest_of u)

    one : Rest s → Parted s (parts_of s)
    one (at_end a b c) = parted_of s other (rw a) (unended s b)
    one (at_line t a b c d) = parted_of s other (rw a) (numbered s _ c (λ e. omega arith))
    one (at_space t a b c d) = two t a b c d (rest_of t)

-- the lines from a position on
pub lines_at : (text : List ℕ) (at : ℕ) → at < length text → lines_of (drop at text) ≡ first_line (drop at text) ∷ lines_of (behind_line (drop at text))
lines_at text at h =
    subst (λ (l : List ℕ). lines_of l ≡ first_line l ∷ lines_of (behind_line l)) (sym (drop-cons text at 0 h)) (lines_cons (get_or text at 0) (drop (suc at) text))

-- What a split says of the line: it has its end and the three fields between the cuts, and the next line begins behind it; or it has not.
module _ (text : List ℕ) (at : ℕ) where
  module _ (c : Cuts) (p : SplitAs text at (Some c)) where
    parted : Parted (drop at text) (parts_in text (Some c))
    parted = subst (λ (q : Parts). Parted (drop at text) q) (sym p.parts) (parts_line (drop at text))

    pub line_ended : (first_line (drop at text)).ended ≡ true
    line_ended = parted.0

    pub line_fields : fields_of (first_line (drop at text)).bytes ≡ fields_in text c
    line_fields = parted.1

    pub cut_known : Cut text c
    cut_known = p.cut.1

    pub onward : Onward text at (c.end + 1)
    onward =
        record {
          further = omega (arith, p.cut.0, cut_known.one, cut_known.two, cut_known.three);
          inside = omega (arith, cut_known.inside);
          behind = sym parted.2;
        }

  pub line_other : SplitAs text at None → ((first_line (drop at text)).ended && eqb (length (fields_of (first_line (drop at text)).bytes)) 3) ≡ false
  line_other p = subst (λ (q : Parts). Parted (drop at text) q) (sym p.parts) (parts_line (drop at text))
