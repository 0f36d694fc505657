-- The digits of a number and the bytes of a name, one by one. Assumes nothing.
use Prim.Native.Nat.{ℕ, suc, ◌+◌, ◌-◌, ◌*◌, ◌≤◌, ◌<◌}
use native.Mathlib.Nat.{add-zero}
use native.Mathlib.Numerals.{add-one}
use native.Mathlib.Omega.{arith}
use mathlib.Core.Path.{◌≡◌, refl, sym, ◌∙◌, ap}
use mathlib.Core.Logic.{◌⊎◌, inl, inr, ⊎_elim}
use mathlib.Core.Bool.{Bool, true, false, ◌&&◌}
use mathlib.Core.List.{List, [], ◌∷◌}
use mathlib.Core.Option.{none, some}
use borrow.Author.Tests.{le-leb, lt-leb, eq-eqb, ne_eqb, leb-true, leb-false}
use lib.Dec.{eqb, leb}
use lib.ListN.{length, drop, get_or, drop_of_length-le}
use lib.Seq.{slice, drop-cons, slice_empty, slice-cons, length-slice}
use Rattle.model.specs.Text.{digits_only, decimal, well_begun, number_up_to}
use Rattle.model.specs.Bounded.{same}
use Rattle.fields.specs.Fields.{numeral}

decimal_grows : (n : ℕ) (ds : List ℕ) → n ≤ decimal n ds
unfolding decimal
decimal_grows n [] = omega arith
decimal_grows n (d ∷ ds) = omega (arith, decimal_grows (n * 10 + (d - 48)) ds)

and_false : (a b : Bool) → b ≡ false → (a && b) ≡ false
and_false true b h = h
and_false false b h = refl

module _ (most : ℕ) where
  -- the digits of a field, the first of them scanned
  pub record Valued (text : List ℕ) (from to value i : ℕ) : Type 0 where
    pub below : i ≤ to
    pub inside : to ≤ length text
    pub small : value ≤ most
    pub same : numeral most 0 (slice from to text) ≡ numeral most value (slice i to text)

  numeral_large : (n : ℕ) (ds : List ℕ) → most < n → numeral most n ds ≡ none
  unfolding numeral
  numeral_large n ds h =
      let k : (digits_only ds && leb (decimal n ds) most) ≡ false =
      and_false (digits_only ds) (leb (decimal n ds) most) (lt-leb (decimal n ds) most (omega (arith, decimal_grows n ds))) in
      rw k

  numeral_digit : (n d : ℕ) (ds : List ℕ) → 48 ≤ d → d ≤ 57 → numeral most n (d ∷ ds) ≡ numeral most (n * 10 + (d - 48)) ds
  unfolding numeral digits_only decimal
  numeral_digit n d ds h k = rw (le-leb 48 d h, le-leb d 57 k)

  numeral_low : (n d : ℕ) (ds : List ℕ) → d < 48 → numeral most n (d ∷ ds) ≡ none
  unfolding numeral digits_only decimal
  numeral_low n d ds h = rw (lt-leb 48 d h)

  numeral_high : (n d : ℕ) (ds : List ℕ) → 57 < d → numeral most n (d ∷ ds) ≡ none
  unfolding numeral digits_only decimal
  numeral_high n d ds h = rw (le-leb 48 d (omega arith), lt-leb d 57 h)

  pub digits_begin : (text : List ℕ) (from to : ℕ) → from ≤ to → to ≤ length text → Valued text from to 0 from
  digits_begin text from to h k = record { below = h; inside = k; small = omega arith; same = refl }

  digits_at : (text : List ℕ) (from to value i : ℕ) → Valued text from to value i → i < to
      → numeral most 0 (slice from to text) ≡ numeral most value (get_or text i 0 ∷ slice (i + 1) to text)
  digits_at text from to value i v h =
      v.same ∙ ap (numeral most value) (slice-cons i to text 0 h v.inside ∙ ap (λ (n : ℕ). get_or text i 0 ∷ slice n to text) (sym (add-one i)))

  pub digits_more : (text : List ℕ) (from to value i : ℕ) → Valued text from to value i → i < to → 48 ≤ get_or text i 0 → get_or text i 0 ≤ 57
      → value * 10 + (get_or text i 0 - 48) ≤ most → Valued text from to (value * 10 + (get_or text i 0 - 48)) (i + 1)
  digits_more text from to value i v l h k m =
      record {
        below = omega arith;
        inside = v.inside;
        small = m;
        same = digits_at text from to value i v l ∙ numeral_digit value (get_or text i 0) (slice (i + 1) to text) h k;
      }

  pub digits_other : (text : List ℕ) (from to value i : ℕ) → Valued text from to value i → i < to → (get_or text i 0 < 48) ⊎ ((48 ≤ get_or text i 0) × (57 < get_or text i 0))
      → none ≡ numeral most 0 (slice from to text)
  digits_other text from to value i v l (inl h) = sym (digits_at text from to value i v l ∙ numeral_low value (get_or text i 0) (slice (i + 1) to text) h)
  digits_other text from to value i v l (inr h) = sym (digits_at text from to value i v l ∙ numeral_high value (get_or text i 0) (slice (i + 1) to text) h.1)

  pub digits_large : (text : List ℕ) (from to value i : ℕ) → Valued text from to value i → i < to → 48 ≤ get_or text i 0 → get_or text i 0 ≤ 57
      → most < value * 10 + (get_or text i 0 - 48) → none ≡ numeral most 0 (slice from to text)
  digits_large text from to value i v l h k m =
      sym (digits_at text from to value i v l ∙ numeral_digit value (get_or text i 0) (slice (i + 1) to text) h k
      ∙ numeral_large (value * 10 + (get_or text i 0 - 48)) (slice (i + 1) to text) m)

  pub digits_end : (text : List ℕ) (from to value i : ℕ) → Valued text from to value i → to ≤ i → some value ≡ numeral most 0 (slice from to text)
  unfolding numeral digits_only decimal
  digits_end text from to value i v h =
      let e : i ≡ to = omega arith in
      let z : slice i to text ≡ [] = rw e (slice_empty to text) in
      sym (v.same ∙ ap (numeral most value) z ∙ rw (le-leb value most v.small))

-- a name and a field, byte by byte
pub record Matched (text name : List ℕ) (from to i : ℕ) : Type 0 where
  pub below : i ≤ length name
  pub inside : to ≤ length text
  pub ordered : from ≤ to
  pub long : to - from ≡ length name
  pub same : same name (slice from to text) ≡ same (drop i name) (slice (from + i) to text)

same_lengths : (a b : List ℕ) → (length b ≡ length a → ⊥) → same a b ≡ false
unfolding same
same_lengths [] [] h = absurd (h refl)
same_lengths [] (b ∷ bs) h = refl
same_lengths (a ∷ l) [] h = refl
same_lengths (a ∷ l) (b ∷ bs) h = and_false (eqb a b) (same l bs) (same_lengths l bs (λ e. h (ap suc e)))

pub name_other : (text name : List ℕ) (from to : ℕ) → (to - from ≡ length name → ⊥) → to ≤ length text → false ≡ same name (slice from to text)
name_other text name from to h k =
    sym (same_lengths name (slice from to text) (λ e. h (sym (length-slice from to text k) ∙ e)))

pub name_begin : (text name : List ℕ) (from to : ℕ) → to - from ≡ length name → from ≤ to → to ≤ length text → Matched text name from to 0
name_begin text name from to h o k =
    record { below = omega arith; inside = k; ordered = o; long = h; same = rw add-zero refl }

name_at : (text name : List ℕ) (from to i : ℕ) → Matched text name from to i → i < length name
    → same name (slice from to text) ≡ (eqb (get_or name i 0) (get_or text (from + i) 0) && same (drop (i + 1) name) (slice (from + (i + 1)) to text))
unfolding same
name_at text name from to i m l =
    let a : drop i name ≡ get_or name i 0 ∷ drop (i + 1) name = rw add-one (drop-cons name i 0 l) in
    let k : from + i < to = omega (arith, m.long, m.ordered) in
    let n : suc (from + i) ≡ from + (i + 1) = omega arith in
    let b : slice (from + i) to text ≡ get_or text (from + i) 0 ∷ slice (from + (i + 1)) to text =
    slice-cons (from + i) to text 0 k m.inside ∙ ap (λ (j : ℕ). get_or text (from + i) 0 ∷ slice j to text) n in
    m.same ∙ rw (a, b)

pub name_more : (text name : List ℕ) (from to i : ℕ) → Matched text name from to i → i < length name → get_or name i 0 ≡ get_or text (from + i) 0 → Matched text name from to (i + 1)
name_more text name from to i m l e =
    record {
      below = omega arith;
      inside = m.inside;
      ordered = m.ordered;
      long = m.long;
      same = name_at text name from to i m l ∙ rw (eq-eqb (get_or name i 0) (get_or text (from + i) 0) e);
    }

pub name_unlike : (text name : List ℕ) (from to i : ℕ) → Matched text name from to i → i < length name → (get_or name i 0 ≡ get_or text (from + i) 0 → ⊥)
    → false ≡ same name (slice from to text)
name_unlike text name from to i m l e =
    sym (name_at text name from to i m l ∙ rw (ne_eqb (get_or name i 0) (get_or text (from + i) 0) e))

pub name_end : (text name : List ℕ) (from to i : ℕ) → Matched text name from to i → length name ≤ i → true ≡ same name (slice from to text)
unfolding same
name_end text name from to i m l =
    let a : drop i name ≡ [] = drop_of_length-le name l in
    let k : from + i ≡ to = omega (arith, m.long, m.ordered, m.below) in
    let b : slice (from + i) to text ≡ [] = rw k (slice_empty to text) in
    sym (m.same ∙ rw (a, b))

two_more : (text : List ℕ) (from to : ℕ) → from + 1 < to → to ≤ length text
    → slice from to text ≡ get_or text from 0 ∷ get_or text (suc from) 0 ∷ slice (suc (suc from)) to text
two_more text from to h k =
    slice-cons from to text 0 (omega arith) k
    ∙ ap (λ (l : List ℕ). get_or text from 0 ∷ l) (slice-cons (suc from) to text 0 (omega arith) k)

module _ (most : ℕ) where
  -- an empty field, one with a leading zero, and any other
  pub number_none : (text : List ℕ) (from to : ℕ) → from ≡ to → none ≡ number_up_to most (slice from to text)
  unfolding number_up_to well_begun
  number_none text from to e =
      let z : slice from to text ≡ [] = rw e (slice_empty to text) in
      rw z

  pub number_zero : (text : List ℕ) (from to : ℕ) → get_or text from 0 ≡ 48 → from + 1 < to → to ≤ length text → none ≡ number_up_to most (slice from to text)
  unfolding number_up_to well_begun
  number_zero text from to z h k = rw (two_more text from to h k, z)

  begun : (f : List ℕ) → well_begun f ≡ true → numeral most 0 f ≡ number_up_to most f
  unfolding number_up_to numeral
  begun f h = rw h

  pub number_one : (text : List ℕ) (from to : ℕ) → (from ≡ to → ⊥) → to ≤ from + 1 → from ≤ to → to ≤ length text
      → numeral most 0 (slice from to text) ≡ number_up_to most (slice from to text)
  unfolding well_begun
  number_one text from to n h o k =
      let e : suc from ≡ to = omega arith in
      let s : slice from to text ≡ get_or text from 0 ∷ [] =
      slice-cons from to text 0 (omega arith) k ∙ ap (λ (l : List ℕ). get_or text from 0 ∷ l) (rw e (slice_empty to text)) in
      begun (slice from to text) (rw s)

  pub number_begun : (text : List ℕ) (from to : ℕ) → (from ≡ to → ⊥) → (get_or text from 0 ≡ 48 → ⊥) → from ≤ to → to ≤ length text
      → numeral most 0 (slice from to text) ≡ number_up_to most (slice from to text)
  unfolding well_begun
  number_begun text from to n z o k =
      ⊎_elim
      (λ (h : to ≤ from + 1). number_one text from to n h o k)
      (λ (h : from + 1 < to). begun (slice from to text) (rw (two_more text from to h k, ne_eqb (get_or text from 0) 48 z)))
      (short (leb to (from + 1)) refl)
    where
      short : (b : Bool) → leb to (from + 1) ≡ b → (to ≤ from + 1) ⊎ (from + 1 < to)
      short true e = inl (leb-true to (from + 1) e)
      short false e = inr (leb-false to (from + 1) e)
