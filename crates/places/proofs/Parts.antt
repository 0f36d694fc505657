-- The words of a place, written in place. Assumes nothing.
use mathlib.Core.Path.{◌≡◌, sym, ◌∙◌, ap}
use mathlib.Core.Logic.{◌⊎◌, ⊎_elim}
use mathlib.Core.List.{List, [], ◌∷◌, ◌++◌}
use Prim.Native.Nat.{ℕ, zero, suc, ◌+◌, ◌-◌, ◌*◌, ◌<◌, ◌≤◌}
use native.Mathlib.Omega.{arith}
use lib.ListN.{length, take, drop}
use lib.Seq.{take-nil, take-take, drop-drop, drop_at, take_at, length-take-le}
use borrow.Rule.Slice.PartMut.{mid_of, post_of, put_mid, mid_len, same_len_mid, take_put, drop_put}
use Rattle.model.proofs.Bounded.{apart}
use Rattle.model.specs.Limits.{scratch_least, jobs_most, job_words_least}
use Rattle.model.specs.Dispatcher.{place_words}
use Rattle.places.specs.Words.{Put}

pub drop_take : {A : Type 0} (a b : ℕ) (l : List A) → drop a (take b l) ≡ take (b - a) (drop a l)
drop_take zero b l = let e : b - 0 ≡ b = omega arith in rw e
drop_take (suc a) zero l = let e : 0 - suc a ≡ 0 = omega arith in rw e
drop_take (suc a) (suc b) [] = sym (take-nil (suc b - suc a))
drop_take (suc a) (suc b) (x ∷ l) = let e : suc b - suc a ≡ b - a = omega arith in rw e (drop_take a b l)

-- lists that agree on their first n elements agree on a part of those
part_of_first : {A : Type 0} (a k n : ℕ) (l m : List A) → a + k ≤ n → take n l ≡ take n m → take k (drop a l) ≡ take k (drop a m)
part_of_first {A} a k n l m h e = cut l ∙ ap (λ (s : List A). take k (drop a s)) e ∙ sym (cut m)
  where
    cut : (s : List A) → take k (drop a s) ≡ take k (drop a (take n s))
    cut s = sym (ap (take k) (drop_take a n s) ∙ take-take k (n - a) (drop a s) (omega arith))

-- lists that agree from n on agree from any later element on
behind_last : {A : Type 0} (n b : ℕ) (l m : List A) → n ≤ b → drop n l ≡ drop n m → drop b l ≡ drop b m
behind_last {A} n b l m h e = go l ∙ ap (drop (b - n)) e ∙ sym (go m)
  where
    go : (s : List A) → drop b s ≡ drop (b - n) (drop n s)
    go s = let k : n + (b - n) ≡ b = omega arith in sym (drop-drop (b - n) n s ∙ ap (λ i. drop i s) k)

-- the words of a place, lent as the part from..to and put back
abbrev pub from : ℕ → ℕ
from place = place * scratch_least

abbrev pub to : ℕ → ℕ
to place = place * scratch_least + scratch_least

pub span : (place : ℕ) → to place - from place ≡ scratch_least
span place = omega arith

pub part_is : (words : List ℕ) (place : ℕ) → mid_of (from place) (to place - from place) words ≡ place_words place words
unfolding place_words
part_is words place = let a : from place ≡ scratch_least * place = omega arith in rw (span place, a)

module _ (words : List ℕ) (long : job_words_least ≤ length words) (place : ℕ) (l : place < jobs_most) (ys : List ℕ) where
  pub part_put : length ys ≡ scratch_least → Put place ys words (put_mid (from place) (to place - from place) words ys)
  unfolding place_words
  part_put e =
      let exit = put_mid (from place) (to place - from place) words ys in
      let first : take (from place) exit ≡ take (from place) words = take_put (from place) (to place - from place) words ys (omega arith) in
      let last : drop (to place) exit ≡ drop (to place) words = drop_put (from place) (to place) words ys (omega arith) (omega arith) (omega arith) in
      let start : scratch_least * place ≡ (from place) = omega arith in
      record {
        kept = same_len_mid (from place) (to place - from place) words ys (e ∙ sym (mid_len (from place) (to place) words (omega arith) ∙ span place));
        rest = behind_last (to place) job_words_least exit words (omega arith) last;
        here =
            ap (λ n. take scratch_least (drop n exit)) start
            ∙ ap (take scratch_least) (drop_at (take (from place) words) (ys ++ post_of (from place) (to place - from place) words) (from place) (length-take-le (from place) words (omega arith)))
            ∙ take_at ys (post_of (from place) (to place - from place) words) scratch_least e;
        others = λ p h n. other exit first last p h n (apart p place);
      }
    where
      other : (exit : List ℕ) → take (from place) exit ≡ take (from place) words → drop (to place) exit ≡ drop (to place) words → (p : ℕ) → p < jobs_most → (p ≡ place → ⊥)
          → (p ≡ place) ⊎ ((p < place) ⊎ (place < p)) → place_words p exit ≡ place_words p words
      other exit first last p h n o =
          ⊎_elim (λ e. absurd (n e))
          (⊎_elim
          (λ b. part_of_first (scratch_least * p) scratch_least (from place) exit words (omega arith) first)
          (λ b. ap (take scratch_least) (behind_last (to place) (scratch_least * p) exit words (omega arith) last)))
          o
