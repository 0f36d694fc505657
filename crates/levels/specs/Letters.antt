-- The letter of a row, as a walk reads it. Assumes nothing.
use Rattle.std.specs.Prelude.{ℕ, cond, List, ltb, get_or}
use Prim.Native.Char.{code}

-- the letter of a row; behind the last it is an S
unfoldable pub letter_at : List ℕ → ℕ → ℕ → ℕ
letter_at kind count i = cond (ltb i count) (get_or kind i 0) (code "S")
