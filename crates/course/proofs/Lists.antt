-- What the loops over a list keep: the members passed are events, each once; and their links are in the relation. Assumes nothing.
use mathlib.Core.Path.{◌≡◌, refl, sym, ap, ◌∙◌, subst, subst⁻¹}
use mathlib.Core.Bool.{Bool, true, false, ◌||◌}
use mathlib.Core.Logic.{⊎_elim}
use mathlib.Core.List.{List, [], ◌∷◌, ◌++◌}
use Prim.Native.Nat.{ℕ, suc, ◌+◌, ◌-◌, ◌*◌, ◌%◌, ◌<◌, ◌≤◌}
use native.Mathlib.Nat.{mul-le-mul_right}
use native.Mathlib.Numerals.{add-one}
use native.Mathlib.Omega.{arith}
use lib.Dec.{eqb}
use lib.ListN.{length, get_or, take, drop, replicate, drop_of_length-le}
use lib.Seq.{take_all, take-suc, drop-cons}
use Rattle.model.specs.Bounded.{among, each_once}
use Rattle.model.proofs.Bounded.{which, not_both}
use Rattle.model.proofs.Lists.{replicate_at}
use Rattle.model.proofs.Ahead.{among_snoc, once_snoc, once_at}
use Rattle.relation.specs.Width.{width, word_bits}
use Rattle.relation.specs.Rows.{marked}
use Rattle.relation.proofs.Bits.{has_zero}
use Rattle.relation.proofs.Words.{alone_row}
use Rattle.relation.proofs.Marked.{length_marked, holds_marked}
use Rattle.closure.specs.Insertion.{inserted}
use Rattle.closure.proofs.Inserted.{length_inserted}
use Rattle.run.specs.State.{in_row}
use Rattle.free_event.specs.Free.{row_bits}
use Rattle.course.specs.Links.{Room, chained, linked_by}

-- a row of zeros has no event, and one event more in a row
pub none_in_zeros : (k : ℕ) → in_row (replicate width 0) k ≡ false
none_in_zeros k = alone_row width (replicate width 0) k ∙ rw (replicate_at width) (has_zero (k % word_bits))

pub row_marked : (row : List ℕ) (x k : ℕ) → length row ≡ width → x < row_bits → k < row_bits → in_row (marked width row 0 x) k ≡ (in_row row k || eqb k x)
row_marked row x k long hx hk = holds_marked width row 0 x 0 k (omega arith) hx hk

-- the members of a list that were passed are events below n, each once, and are those of the row
pub record Judging (n : ℕ) (list : List ℕ) (i : ℕ) (seen : List ℕ) : Type 0 where
  pub once : each_once n (take i list) ≡ true
  pub seen_are : (k : ℕ) → k < row_bits → in_row seen k ≡ among k (take i list)
  pub long : length seen ≡ width
  pub most : i ≤ length list

pub judging_start : (n : ℕ) (list : List ℕ) → Judging n list 0 (replicate width 0)
unfolding each_once among
judging_start n list = record { once = refl; seen_are = λ k h. none_in_zeros k; long = refl; most = omega arith }

module _ (n : ℕ) (list : List ℕ) (i : ℕ) (seen : List ℕ) (x : ℕ) (few : n ≤ row_bits) (at : x ≡ get_or list i 0)
    (j : Judging n list i seen) (h : i < length list) where
  -- an event that is none of the sheet's, or was passed already
  pub judged_unknown : n ≤ x → false ≡ each_once n list
  judged_unknown l =
      ⊎_elim (λ t. absurd (omega (arith, (once_at n list i t h).0))) sym (which (each_once n list))

  pub judged_twice : (r : Bool) → r ≡ in_row seen x → r ≡ true → x < n → false ≡ each_once n list
  judged_twice r e t l =
      ⊎_elim
      (λ o.
      let m : among x (take i list) ≡ true = sym (j.seen_are x (omega arith)) ∙ sym e ∙ t in
      not_both (among (get_or list i 0) (take i list)) (subst (λ (k : ℕ). among k (take i list) ≡ true) at m) (once_at n list i o h).1)
      sym
      (which (each_once n list))

  pub judging_more : (r : Bool) (now : List ℕ) → r ≡ in_row seen x → r ≡ false → x < n → now ≡ marked width seen 0 x → Judging n list (i + 1) now
  judging_more r now e t l s =
      let cut : take (i + 1) list ≡ take i list ++ (x ∷ []) = rw (add-one, at) (take-suc list i 0 h) in
      let new : among x (take i list) ≡ false = sym (j.seen_are x (omega arith)) ∙ sym e ∙ t in
      subst⁻¹ (Judging n list (i + 1)) s
      (record {
        once = subst⁻¹ (λ (l : List ℕ). each_once n l ≡ true) cut (once_snoc n (take i list) x j.once l new);
        seen_are = λ k b.
            row_marked seen x k j.long (omega arith) b ∙ ap (λ (q : Bool). q || eqb k x) (j.seen_are k b)
            ∙ sym (among_snoc k (take i list) x)
            ∙ ap (among k) (sym cut);
        long = length_marked width seen 0 x ∙ j.long;
        most = omega arith;
      })

pub judging_end : (n : ℕ) (list : List ℕ) (i : ℕ) (seen : List ℕ) → Judging n list i seen → length list ≤ i → true ≡ each_once n list
judging_end n list i seen j h = sym j.once ∙ ap (each_once n) (take_all i list h)

-- the links ahead of place i are in the words
pub record Linking (n : ℕ) (list words : List ℕ) (i : ℕ) (now : List ℕ) : Type 0 where
  pub exact : linked_by width n list words ≡ chained width n now (get_or list (i - 1) 0) (drop i list)
  pub long : length now ≡ length words
  pub least : 1 ≤ i

pub linking_start : (n : ℕ) (list words : List ℕ) → Linking n list words 1 words
unfolding linked_by chained
linking_start n [] words = record { exact = refl; long = refl; least = omega arith }
linking_start n (a ∷ rest) words = record { exact = refl; long = refl; least = omega arith }

pub linking_more : (n : ℕ) (list words : List ℕ) (i : ℕ) (now : List ℕ) (x y : ℕ) (after : List ℕ) → Linking n list words i now → i < length list
    → x ≡ get_or list (i - 1) 0 → y ≡ get_or list i 0 → after ≡ inserted width now x y 0 n
    → Linking n list words (i + 1) after
unfolding chained
linking_more n list words i now x y after j h p q s =
    let next : i + 1 - 1 ≡ i = omega arith in
    record {
      exact =
          j.exact ∙ ap (chained width n now (get_or list (i - 1) 0)) (drop-cons list i 0 h)
          ∙ rw (next, add-one, s, p, q);
      long = rw (s, length_inserted) j.long;
      least = omega arith;
    }

pub linking_end : (n : ℕ) (list words : List ℕ) (i : ℕ) (now : List ℕ) → Linking n list words i now → length list ≤ i → now ≡ linked_by width n list words
unfolding chained
linking_end n list words i now j h =
    sym (j.exact ∙ ap (chained width n now (get_or list (i - 1) 0)) (drop_of_length-le list h))

-- the row of each member is there, at every turn
pub member_fits : (n : ℕ) (list words : List ℕ) (turn : ℕ) (now : List ℕ) (i x : ℕ) → Room n words → each_once n list ≡ true
    → Linking n list words turn now → i < length list → x ≡ get_or list i 0
    → (x < row_bits) × (x * width + width ≤ length now)
member_fits n list words turn now i x room once j h e =
    let l : suc x ≤ n = subst⁻¹ (λ (k : ℕ). k < n) e (once_at n list i once h).0 in
    (omega (arith, room.bits), omega (arith, room.rows, j.long, mul-le-mul_right width l))
