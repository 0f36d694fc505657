-- What `marked` means: row y has event x besides, and no other row or event is touched. Neither it nor `unmarked` changes how many words there are.
-- Assumes nothing.
use mathlib.Core.Path.{◌≡◌, ap, ap₂, ◌∙◌}
use mathlib.Core.Bool.{Bool, ◌&&◌, ◌||◌}
use mathlib.Core.List.{List}
use Prim.Native.Nat.{ℕ, ◌+◌, ◌-◌, ◌*◌, ◌%◌, ◌^◌, ◌<◌, ◌≤◌}
use native.Mathlib.Omega.{arith}
use lib.Bits.{bit_and}
use lib.Dec.{eqb}
use lib.ListN.{length, get_or, set, length-set}
use borrow.Author.Tests.{eq-eqb, eqb-true}
use Rattle.model.proofs.Bounded.{and_left, and_right, and_both}
use Rattle.relation.specs.Width.{word_bits}
use Rattle.relation.specs.Rows.{has, holds, marked, unmarked, word_of, bit_of}
use Rattle.relation.proofs.Tests.{both_ways}
use Rattle.relation.proofs.Bits.{mask_power}
use Rattle.relation.proofs.OneBit.{bit_set}
use Rattle.relation.proofs.Place.{column_lt, place_row, place_event}

pub length_marked : (W : ℕ) (l : List ℕ) (y x : ℕ) → length (marked W l y x) ≡ length l
unfolding marked
length_marked W l y x = length-set l _ _

pub length_unmarked : (W : ℕ) (l : List ℕ) (y x : ℕ) → length (unmarked W l y x) ≡ length l
unfolding unmarked
length_unmarked W l y x = length-set l _ _

-- as the code makes it: one shifted is the event's bit
pub unmarked_by : (W : ℕ) (l : List ℕ) (y x : ℕ)
    → set l (word_of W y x) (bit_and (get_or l (word_of W y x) 0) (2 ^ word_bits - 1 - 1 * 2 ^ bit_of x % 2 ^ word_bits)) ≡ unmarked W l y x
unfolding unmarked
unmarked_by W l y x = rw (mask_power x)

-- in one word and one bit of it, they are one event of one row
same_place : (W y x b a : ℕ) → x < word_bits * W → a < word_bits * W
    → (eqb (word_of W b a) (word_of W y x) && eqb (bit_of a) (bit_of x)) ≡ (eqb b y && eqb a x)
same_place W y x b a hx ha =
    both_ways (eqb (word_of W b a) (word_of W y x) && eqb (bit_of a) (bit_of x)) (eqb b y && eqb a x)
    (λ t.
    let word : word_of W b a ≡ word_of W y x = eqb-true _ _ (and_left (eqb (word_of W b a) (word_of W y x)) (eqb (bit_of a) (bit_of x)) t) in
    let bit : bit_of a ≡ bit_of x = eqb-true _ _ (and_right (eqb (word_of W b a) (word_of W y x)) (eqb (bit_of a) (bit_of x)) t) in
    and_both (eqb b y) (eqb a x) (eq-eqb b y (place_row W b y a x ha hx word)) (eq-eqb a x (place_event W b y a x ha hx word bit)))
    (λ t.
    let row : b ≡ y = eqb-true b y (and_left (eqb b y) (eqb a x) t) in
    let event : a ≡ x = eqb-true a x (and_right (eqb b y) (eqb a x) t) in
    and_both (eqb (word_of W b a) (word_of W y x)) (eqb (bit_of a) (bit_of x)) (eq-eqb _ _ (ap₂ (word_of W) row event)) (eq-eqb _ _ (ap bit_of event)))

pub holds_marked : (W : ℕ) (l : List ℕ) (y x b a : ℕ) → y * W + W ≤ length l → x < word_bits * W → a < word_bits * W
    → holds W (marked W l y x) b a ≡ (holds W l b a || eqb b y && eqb a x)
unfolding holds marked
holds_marked W l y x b a room hx ha =
    bit_set l (word_of W y x) (bit_of x) (omega (arith, column_lt W x hx)) (word_of W b a) (bit_of a)
    ∙ ap (λ (t : Bool). has (get_or l (word_of W b a) 0) (bit_of a) || t) (same_place W y x b a hx ha)
