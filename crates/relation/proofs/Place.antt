-- The shared fact about relation rows, for any row width: different events and rows have different words and bits.
-- Assumes nothing.
use mathlib.Core.Path.{◌≡◌, sym, ap, ◌∙◌}
use Prim.Native.Nat.{ℕ, ◌+◌, ◌*◌, ◌/◌, ◌%◌, ◌<◌}
use native.Mathlib.Omega.{arith}
use lib.Arith.{digits_div, digits_mod}
use Rattle.relation.specs.Width.{word_bits}
use Rattle.relation.specs.Rows.{word_of, bit_of}

-- a word of a row is that row's alone
pub word_row : (W a b : ℕ) {i j : ℕ} → i < W → j < W → a * W + i ≡ b * W + j → a ≡ b
word_row W a b {i} {j} hi hj e = sym (digits_div a hi) ∙ ap (λ (n : ℕ). n / W) e ∙ digits_div b hj

pub word_column : (W a b : ℕ) {i j : ℕ} → i < W → j < W → a * W + i ≡ b * W + j → i ≡ j
word_column W a b {i} {j} hi hj e = sym (digits_mod a hi) ∙ ap (λ (n : ℕ). n % W) e ∙ digits_mod b hj

-- an event of the row has its word in the row
pub column_lt : (W x : ℕ) → x < word_bits * W → x / word_bits < W
column_lt W x h = omega arith

-- two places in one word are in one row; in one bit of it, they are one event
module _ (W y b x a : ℕ) (hx : x < word_bits * W) (ha : a < word_bits * W) (same : word_of W y x ≡ word_of W b a) where
  pub place_row : y ≡ b
  place_row = word_row W y b (column_lt W x hx) (column_lt W a ha) same

  pub place_event : bit_of x ≡ bit_of a → x ≡ a
  place_event e =
      let k : x / word_bits ≡ a / word_bits = word_column W y b (column_lt W x hx) (column_lt W a ha) same in
      omega arith
