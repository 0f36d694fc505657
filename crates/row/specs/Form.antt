-- The row at a position of the text, as the model's. Assumes nothing.
use Rattle.std.specs.Prelude as code
use Rattle.std.specs.Prelude.{ℕ, ◌≡◌, Bool, List, drop, Some, None}
use Rattle.std.proofs.Math.Option.{Option, none, some}
use Rattle.model.specs.Text.{Columns}
use Rattle.model.specs.Rows.{Row, row_of}
use Rattle.line.specs.Scan.{first_line}
use Rattle.line.specs.Parts.{Onward}
use Rattle.place.specs.Letters.{row_from}
use Rattle.row.specs.declared.Reading.{Reading}

abbrev pub reading_from : code.Option Reading → Option Row
reading_from (Some r) = some (row_from r.kind r.one r.two)
reading_from None = none

-- where there is a row, the next one begins behind it
abbrev pub ReadFrom : List ℕ → ℕ → code.Option Reading → Type 0
ReadFrom text at (Some r) = Onward text at r.next
ReadFrom text at None = Unit {0}

-- the row that begins at a position, with or without A rows let through
pub record RowAs (choices : Bool) (c : Columns) (text : List ℕ) (at : ℕ) (r : code.Option Reading) : Type 0 where
  pub row : reading_from r ≡ row_of choices c (first_line (drop at text))
  pub next : ReadFrom text at r
