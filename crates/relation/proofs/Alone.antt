-- A row that stands by itself, with one event marked or unmarked, for any width and every event. Assumes nothing.
use mathlib.Core.Path.{◌≡◌, ap, ◌∙◌}
use mathlib.Core.Bool.{not, ◌&&◌, ◌||◌}
use mathlib.Core.List.{List}
use Prim.Native.Nat.{ℕ, ◌-◌, ◌/◌, ◌%◌, ◌^◌, ◌<◌}
use native.Mathlib.Nat.{zero-mul, zero-add}
use native.Mathlib.Omega.{arith}
use lib.Bits.{bit_and, bit_or}
use lib.Dec.{eqb}
use lib.ListN.{length, get_or, set}
use borrow.Author.Tests.{eq-eqb, eqb-true}
use Rattle.model.proofs.Bounded.{and_left, and_right, and_both}
use Rattle.relation.specs.Width.{word_bits}
use Rattle.relation.specs.Rows.{holds, marked, unmarked}
use Rattle.relation.proofs.Tests.{both_ways}
use Rattle.relation.proofs.Words.{alone_row}
use Rattle.relation.proofs.OneBit.{bit_set, bit_cleared}

module _ (W : ℕ) (row : List ℕ) (x : ℕ) (inside : x / word_bits < length row) where
  -- in one word and one bit of it, they are one event
  one_event : (k : ℕ) → (eqb (k / word_bits) (x / word_bits) && eqb (k % word_bits) (x % word_bits)) ≡ eqb k x
  one_event k =
      both_ways (eqb (k / word_bits) (x / word_bits) && eqb (k % word_bits) (x % word_bits)) (eqb k x)
      (λ t.
      let word : k / word_bits ≡ x / word_bits = eqb-true _ _ (and_left (eqb (k / word_bits) (x / word_bits)) (eqb (k % word_bits) (x % word_bits)) t) in
      let bit : k % word_bits ≡ x % word_bits = eqb-true _ _ (and_right (eqb (k / word_bits) (x / word_bits)) (eqb (k % word_bits) (x % word_bits)) t) in
      eq-eqb k x (omega arith))
      (λ t.
      let same : k ≡ x = eqb-true k x t in
      and_both (eqb (k / word_bits) (x / word_bits)) (eqb (k % word_bits) (x % word_bits)) (eq-eqb _ _ (ap (λ (n : ℕ). n / word_bits) same))
      (eq-eqb _ _ (ap (λ (n : ℕ). n % word_bits) same)))

  pub with_bit : (k : ℕ) → holds W (set row (x / word_bits) (bit_or (get_or row (x / word_bits) 0) (2 ^ (x % word_bits)))) 0 k
      ≡ (holds W row 0 k || eqb k x)
  with_bit k =
      alone_row W (set row (x / word_bits) (bit_or (get_or row (x / word_bits) 0) (2 ^ (x % word_bits)))) k
      ∙ bit_set row (x / word_bits) (x % word_bits) inside (k / word_bits) (k % word_bits)
      ∙ rw (one_event k, alone_row W row k)

  pub without_bit : (k : ℕ)
      → holds W (set row (x / word_bits) (bit_and (get_or row (x / word_bits) 0) (2 ^ word_bits - 1 - 2 ^ (x % word_bits)))) 0 k
      ≡ (holds W row 0 k && not (eqb k x))
  without_bit k =
      alone_row W (set row (x / word_bits) (bit_and (get_or row (x / word_bits) 0) (2 ^ word_bits - 1 - 2 ^ (x % word_bits)))) k
      ∙ bit_cleared row (x / word_bits) (x % word_bits) inside (omega arith) (k / word_bits) (k % word_bits) (omega arith)
      ∙ rw (one_event k, alone_row W row k)

  -- as rows of the relation: it is row 0
  pub marked_alone : (k : ℕ) → holds W (marked W row 0 x) 0 k ≡ (holds W row 0 k || eqb k x)
  unfolding marked
  marked_alone k = rw (zero-mul, zero-add) (with_bit k)

  pub unmarked_alone : (k : ℕ) → holds W (unmarked W row 0 x) 0 k ≡ (holds W row 0 k && not (eqb k x))
  unfolding unmarked
  unmarked_alone k = rw (zero-mul, zero-add) (without_bit k)
