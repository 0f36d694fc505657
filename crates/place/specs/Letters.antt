-- A row's kind, given by its letter, and its numbers, as the model's row. Assumes nothing.
use Rattle.std.specs.Prelude.{ℕ, cond, eqb}
use Prim.Native.Char.{code}
use Rattle.model.specs.Rows.{Row, sheet, message, order, block, call, choice}

-- the row of a kind, given by its letter, and two numbers; with no other letter it is a B row
unfoldable pub row_from : ℕ → ℕ → ℕ → Row
row_from kind one two =
    cond (eqb kind (code "S")) (sheet one)
    (cond (eqb kind (code "M")) (message one two)
    (cond (eqb kind (code "P")) (order one two)
    (cond (eqb kind (code "C")) (call one)
    (cond (eqb kind (code "A")) (choice one two) block))))
