-- Rows tested word by word, for any width: what the loops of the tests keep, turn by turn. Assumes nothing.
use mathlib.Core.Path.{◌≡◌, sym, ap, ◌∙◌}
use mathlib.Core.Bool.{Bool, true, false, not, ◌&&◌}
use mathlib.Core.Logic.{⊎_elim}
use mathlib.Core.List.{List}
use Prim.Native.Nat.{ℕ, ◌+◌, ◌*◌, ◌/◌, ◌%◌, ◌^◌, ◌<◌, ◌≤◌}
use native.Mathlib.Nat.{le_antisymm, lt_of_le_of_lt}
use native.Mathlib.Decide.{dec_lt}
use native.Mathlib.Omega.{arith}
use lib.Bits.{bit_and, and_le_l, and_le_r}
use lib.ListN.{get_or}
use Rattle.model.specs.Limits.{messages_most}
use Rattle.model.specs.Bounded.{every}
use Rattle.model.proofs.Bounded.{every_at, every_from, which, not_both, not_is_true}
use Rattle.relation.specs.Width.{width, word_bits}
use Rattle.relation.specs.Rows.{has, holds}
use Rattle.relation.proofs.Bits.{has_zero}
use Rattle.relation.proofs.Words.{has_and, some_bit}
use Rattle.row_tests.specs.Tests.{none_of_row, none_in}

-- a row has a bit for each event
pub events_fit : (count : ℕ) → count ≤ messages_most → 2 * count ≤ word_bits * width
events_fit count few = omega arith

-- a row of W words w 0, w 1, .. and its bits q: no event is in it if and only if all its words are zero
module _ (W : ℕ) (w : ℕ → ℕ) (q : ℕ → Bool) (bits : (k : ℕ) → k < word_bits * W → q k ≡ has (w (k / word_bits)) (k % word_bits)) where
  pub none_more : (i : ℕ) → i < W → w i ≡ 0 → every (word_bits * i) (λ k. not (q k)) ≡ true
      → every (word_bits * (i + 1)) (λ k. not (q k)) ≡ true
  none_more i h z so_far = every_from (word_bits * (i + 1)) (λ k. not (q k)) (λ k g. go k g (dec_lt k (word_bits * i)))
    where
      go : (k : ℕ) → k < word_bits * (i + 1) → Dec (k < word_bits * i) → not (q k) ≡ true
      go k g (yes b) = every_at (word_bits * i) (λ k. not (q k)) so_far k b
      go k g (no b) =
          let word : k / word_bits ≡ i = omega arith in
          not_is_true (q k) (rw (bits k (omega arith), word, z) (has_zero (k % word_bits)))

  pub some_found : (i : ℕ) → i < W → w i < 2 ^ word_bits → (w i ≡ 0 → ⊥) → false ≡ every (word_bits * W) (λ k. not (q k))
  some_found i h small z =
      let r = some_bit word_bits (w i) small z in
      let x = word_bits * i + r.0 in
      let b : r.0 < word_bits = r.1 in
      let inside : x < word_bits * W = omega arith in
      let word : x / word_bits ≡ i = omega arith in
      let bit : x % word_bits ≡ r.0 = omega arith in
      let set : q x ≡ true = rw (bits x inside, word, bit) r.2 in
      sym (⊎_elim
      (λ (t : every (word_bits * W) (λ k. not (q k)) ≡ true). not_both (not (q x)) (every_at (word_bits * W) (λ k. not (q k)) t x inside) (ap not set))
      (λ f. f)
      (which (every (word_bits * W) (λ k. not (q k)))))

-- no event of the words passed is found; a mask's words are below 2 ^ 64, and so is what is left of them
pub below : (u v : ℕ) → u < 2 ^ word_bits → bit_and u v < 2 ^ word_bits
below u v h = lt_of_le_of_lt (and_le_l u v) h

-- behind the last word
at_end : (W i : ℕ) (p : ℕ → Bool) → p (word_bits * i) ≡ true → i ≤ W → W ≤ i → true ≡ p (word_bits * W)
at_end W i p t h g = sym (ap (λ (n : ℕ). p (word_bits * n)) (le_antisymm g h) ∙ t)

module _ (W : ℕ) (words : List ℕ) (y : ℕ) (masks : List ℕ) (b : ℕ) where
  -- the words that row y and mask b have in common
  abbrev pub masked : ℕ → ℕ
  masked i = bit_and (get_or words (y * W + i) 0) (get_or masks (b * W + i) 0)

  pub masked_below : (i : ℕ) → get_or masks (b * W + i) 0 < 2 ^ word_bits → masked i < 2 ^ word_bits
  masked_below i h = lt_of_le_of_lt (and_le_r (get_or words (y * W + i) 0) (get_or masks (b * W + i) 0)) h

  -- a test r of events, whose words are v
  module _ (r : ℕ → Bool) (v : ℕ → ℕ) (third : (k : ℕ) → r k ≡ has (v (k / word_bits)) (k % word_bits)) where
    pub three_bits : (k : ℕ) → k < word_bits * W
        → (holds W words y k && holds W masks b k && r k) ≡ has (bit_and (masked (k / word_bits)) (v (k / word_bits))) (k % word_bits)
    unfolding holds
    three_bits k h = rw (has_and (masked (k / word_bits)) (v (k / word_bits)) (k % word_bits), has_and, third k)

    pub row_more : (i : ℕ) → bit_and (masked i) (v i) ≡ 0 → none_of_row (word_bits * i) W words y masks b r ≡ true
        → i < W → none_of_row (word_bits * (i + 1)) W words y masks b r ≡ true
    unfolding none_of_row
    row_more i z so_far h = none_more W (λ j. bit_and (masked j) (v j)) _ three_bits i h z so_far

    pub row_found : (i : ℕ) → (bit_and (masked i) (v i) ≡ 0 → ⊥) → get_or masks (b * W + i) 0 < 2 ^ word_bits
        → i < W → false ≡ none_of_row (word_bits * W) W words y masks b r
    unfolding none_of_row
    row_found i z m h =
        some_found W (λ j. bit_and (masked j) (v j)) _ three_bits i h (below (masked i) (v i) (masked_below i m)) z

pub row_end : (W : ℕ) (words : List ℕ) (y : ℕ) (masks : List ℕ) (b : ℕ) (r : ℕ → Bool) (i : ℕ)
    → none_of_row (word_bits * i) W words y masks b r ≡ true → i ≤ W → W ≤ i → true ≡ none_of_row (word_bits * W) W words y masks b r
row_end W words y masks b r i = at_end W i (λ n. none_of_row n W words y masks b r)

module _ (W : ℕ) (masks : List ℕ) (b : ℕ) (given : List ℕ) (y : ℕ) where
  two_bits : (k : ℕ) → k < word_bits * W
      → (holds W masks b k && holds W given y k)
      ≡ has (bit_and (get_or masks (b * W + k / word_bits) 0) (get_or given (y * W + k / word_bits) 0)) (k % word_bits)
  unfolding holds
  two_bits k h = rw has_and

  pub none_of_more : (i : ℕ) → bit_and (get_or masks (b * W + i) 0) (get_or given (y * W + i) 0) ≡ 0 → none_in (word_bits * i) W masks b given y ≡ true
      → i < W → none_in (word_bits * (i + 1)) W masks b given y ≡ true
  unfolding none_in
  none_of_more i z so_far h = none_more W (λ j. bit_and (get_or masks (b * W + j) 0) (get_or given (y * W + j) 0)) _ two_bits i h z so_far

  pub none_of_found : (i : ℕ) → (bit_and (get_or masks (b * W + i) 0) (get_or given (y * W + i) 0) ≡ 0 → ⊥) → get_or masks (b * W + i) 0 < 2 ^ word_bits
      → i < W → false ≡ none_in (word_bits * W) W masks b given y
  unfolding none_in
  none_of_found i z m h =
      some_found W (λ j. bit_and (get_or masks (b * W + j) 0) (get_or given (y * W + j) 0)) _ two_bits i h (below (get_or masks (b * W + i) 0) (get_or given (y * W + i) 0) m) z

pub none_of_end : (W : ℕ) (masks : List ℕ) (b : ℕ) (given : List ℕ) (y i : ℕ)
    → none_in (word_bits * i) W masks b given y ≡ true → i ≤ W → W ≤ i → true ≡ none_in (word_bits * W) W masks b given y
none_of_end W masks b given y i = at_end W i (λ n. none_in n W masks b given y)
