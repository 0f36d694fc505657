-- A board in a set, and a pair of boards in two. Assumes nothing.
use Prim.Native.Nat.{ℕ, ◌/◌, ◌^◌, ◌≤◌, ◌<◌}
use native.Mathlib.Nat.{div-eq_of_lt, lt_of_lt_of_le}
use mathlib.Core.Path.{◌≡◌}
use lib.Bits.{bit_and, and_mask}
use borrow.Author.Tests.{le-ltb}
use lib.Dec.{eqb, ltb}
use lib.Pow.{pow_mono}
use Rattle.model.specs.Limits.{boards}
use Rattle.model.specs.Senders.{in_set}

-- a board's bit, and no bit above the boards
pub bit_read : (set board : ℕ) → eqb (bit_and (set / 2 ^ board) 1) 1 ≡ in_set set board
unfolding in_set
bit_read set board = rw (and_mask (set / 2 ^ board) 1)

pub no_board : (set board : ℕ) → boards ≤ board → set < 2 ^ boards → ltb board boards ≡ in_set set board
unfolding in_set
no_board set board h l = rw (le-ltb board boards h, div-eq_of_lt (lt_of_lt_of_le l (pow_mono h)))
