-- The lowest event of a row in a mask that is not done, for any width: what the loop keeps, turn by turn. Assumes nothing.
use mathlib.Core.Path.{◌≡◌, sym, ap, ◌∙◌}
use mathlib.Core.Bool.{Bool, false}
use mathlib.Core.List.{List}
use mathlib.Core.Option.{none, some}
use Prim.Native.Nat.{ℕ, ◌+◌, ◌*◌, ◌/◌, ◌%◌, ◌^◌, ◌<◌, ◌≤◌}
use native.Mathlib.Nat.{le_antisymm}
use native.Mathlib.Decide.{dec_lt}
use native.Mathlib.Omega.{arith}
use lib.Bits.{bit_and}
use lib.Count.{count_trailing_zeros}
use lib.ListN.{get_or}
use Rattle.model.specs.Bounded.{lowest}
use Rattle.model.proofs.Bounded.{lowest_none, lowest_hit, lowest_nowhere}
use Rattle.relation.specs.Width.{width, word_bits}
use Rattle.relation.specs.Rows.{has}
use Rattle.relation.proofs.Bits.{has_zero}
use Rattle.relation.proofs.Words.{trailing_clear, trailing_set, trailing_below, alone_row, flipped, has_flipped}
use Rattle.row_tests.proofs.Words.{below, masked, masked_below, three_bits}
use Rattle.first_left.specs.Left.{undone, left_of}

-- a row of W words w 0, w 1, .. and its bits q
module _ (W : ℕ) (w : ℕ → ℕ) (q : ℕ → Bool) (bits : (k : ℕ) → k < word_bits * W → q k ≡ has (w (k / word_bits)) (k % word_bits)) where
  -- the lowest bit, by the trailing zeros of the first word that is not zero
  pub lowest_more : (i : ℕ) → i < W → w i ≡ 0 → lowest (word_bits * i) q ≡ none → lowest (word_bits * (i + 1)) q ≡ none
  lowest_more i h z so_far = lowest_nowhere (word_bits * (i + 1)) q (λ k g. go k g (dec_lt k (word_bits * i)))
    where
      go : (k : ℕ) → k < word_bits * (i + 1) → Dec (k < word_bits * i) → q k ≡ false
      go k g (yes b) = lowest_none (word_bits * i) q so_far k b
      go k g (no b) =
          let word : k / word_bits ≡ i = omega arith in
          rw (bits k (omega arith), word, z) (has_zero (k % word_bits))

  pub lowest_here : (i : ℕ) → i < W → w i < 2 ^ word_bits → (w i ≡ 0 → ⊥) → lowest (word_bits * i) q ≡ none
      → some (word_bits * i + count_trailing_zeros word_bits (w i)) ≡ lowest (word_bits * W) q
  lowest_here i h small z so_far =
      let t = count_trailing_zeros word_bits (w i) in
      let low : t < word_bits = trailing_below word_bits (w i) small z in
      let inside : word_bits * i + t < word_bits * W = omega arith in
      let word : (word_bits * i + t) / word_bits ≡ i = omega arith in
      let bit : (word_bits * i + t) % word_bits ≡ t = omega arith in
      sym (lowest_hit (word_bits * W) (word_bits * i + t) q
      (lowest_nowhere (word_bits * i + t) q (λ k g. below k g (dec_lt k (word_bits * i))))
      (rw (bits (word_bits * i + t) inside, word, bit) (trailing_set word_bits (w i) small z))
      inside)
    where
      below : (k : ℕ) → k < word_bits * i + count_trailing_zeros word_bits (w i) → Dec (k < word_bits * i) → q k ≡ false
      below k g (yes b) = lowest_none (word_bits * i) q so_far k b
      below k g (no b) =
          let low : count_trailing_zeros word_bits (w i) < word_bits = trailing_below word_bits (w i) small z in
          let word : k / word_bits ≡ i = omega arith in
          let bit : k % word_bits < count_trailing_zeros word_bits (w i) = omega arith in
          rw (bits k (omega arith), word) (trailing_clear word_bits (w i) (k % word_bits) bit)

-- the bits of the events that are not done
pub undone_words : (done : List ℕ) → ((j : ℕ) → get_or done j 0 < 2 ^ word_bits)
    → (k : ℕ) → undone done k ≡ has (flipped done (k / word_bits)) (k % word_bits)
undone_words done small k = rw (alone_row width done k) (sym (has_flipped done small k))

-- the events of row y in mask b that are not done
module _ (W : ℕ) (words : List ℕ) (y : ℕ) (masks : List ℕ) (b : ℕ) (done : List ℕ) where
  -- their words
  abbrev pub left_word : ℕ → ℕ
  left_word i = bit_and (masked W words y masks b i) (flipped done i)

  module _ (small : (j : ℕ) → get_or done j 0 < 2 ^ word_bits) where
    left_bits : (k : ℕ) → k < word_bits * W → left_of W words y masks b done k ≡ has (left_word (k / word_bits)) (k % word_bits)
    unfolding left_of
    left_bits k h = three_bits W words y masks b (undone done) (flipped done) (undone_words done small) k h

    pub left_more : (i : ℕ) → left_word i ≡ 0 → lowest (word_bits * i) (left_of W words y masks b done) ≡ none → i < W
        → lowest (word_bits * (i + 1)) (left_of W words y masks b done) ≡ none
    left_more i z n h = lowest_more W left_word (left_of W words y masks b done) left_bits i h z n

    pub left_here : (i : ℕ) → (left_word i ≡ 0 → ⊥) → get_or masks (b * W + i) 0 < 2 ^ word_bits → lowest (word_bits * i) (left_of W words y masks b done) ≡ none → i < W
        → some (word_bits * i + count_trailing_zeros word_bits (left_word i)) ≡ lowest (word_bits * W) (left_of W words y masks b done)
    left_here i z m n h =
        lowest_here W left_word (left_of W words y masks b done) left_bits i h (below (masked W words y masks b i) (flipped done i) (masked_below W words y masks b i m)) z n

pub left_end : (W : ℕ) (words : List ℕ) (y : ℕ) (masks : List ℕ) (b : ℕ) (done : List ℕ) (i : ℕ)
    → lowest (word_bits * i) (left_of W words y masks b done) ≡ none → i ≤ W → W ≤ i → none ≡ lowest (word_bits * W) (left_of W words y masks b done)
left_end W words y masks b done i n h g = sym (ap (λ (k : ℕ). lowest (word_bits * k) (left_of W words y masks b done)) (le_antisymm g h) ∙ n)
