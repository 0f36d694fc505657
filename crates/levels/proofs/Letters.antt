-- What the letter read at a row says of that row. Assumes nothing.
use Prim.Native.Nat.{ℕ, ◌<◌}
use native.Mathlib.Decide.{dec_lt}
use native.Mathlib.Omega.{arith}
use mathlib.Core.Path.{◌≡◌, sym}
use mathlib.Core.List.{List}
use lib.ListN.{get_or}
use borrow.Author.Tests.{lt-ltb, le-ltb}
use Rattle.levels.specs.Letters.{letter_at}

-- what the letter says of the row
module _ (kind : List ℕ) (count i letter : ℕ) (read : letter ≡ letter_at kind count i) where
  pub row_there : (letter ≡ 83 → ⊥) → i < count
  unfolding letter_at
  row_there n = go (dec_lt i count)
    where
      go : Dec (i < count) → i < count
      go (yes h) = h
      go (no m) = absurd (n (rw (le-ltb i count (omega arith)) at read))

  pub row_letter : i < count → get_or kind i 0 ≡ letter
  unfolding letter_at
  row_letter h = sym (rw (lt-ltb i count h) at read)

pub letter_inside : (kind : List ℕ) (count i : ℕ) → i < count → get_or kind i 0 ≡ letter_at kind count i
unfolding letter_at
letter_inside kind count i h = rw (lt-ltb i count h)
