-- The buffers of a run in rows, a row a board. Assumes nothing.
use Rattle.std.specs.Prelude.{◌≡◌, false, List, ℕ, ◌+◌, ◌*◌, ◌<◌, length, get_or}
use Rattle.relation.specs.Width.{width, word_bits}
use Rattle.relation.specs.Rows.{holds}
use Rattle.joined_rows.specs.Joins.{copied_from}
use Rattle.board.specs.Boards.{boards_most}
use Rattle.run.specs.declared.Run.{Run}
use Rattle.run.specs.State.{in_row, buffer_of}

-- the rows are the run's buffers, a row a board
pub record HeldIn (run : Run) (rows : List ℕ) : Type 0 where
  pub boards : length run.buffers ≡ boards_most
  pub long : (b : ℕ) → b < boards_most → length (buffer_of run b).held ≡ width
  pub words : (b i : ℕ) → b < boards_most → i < width → get_or rows (b * width + i) 0 ≡ get_or (buffer_of run b).held i 0

-- row b becomes the row held
pub record LaysRow (rows : List ℕ) (b : ℕ) (held behind : List ℕ) : Type 0 where
  pub put : behind ≡ copied_from width rows b held 0
  pub long : length held ≡ width
  pub room : length rows ≡ boards_most * width

-- an event that is not in the row is in none of the buffers' rows
abbrev pub HeldAnywhere : List ℕ → List ℕ → Type 0
HeldAnywhere rows row =
    (k : ℕ) → k < word_bits * width → in_row row k ≡ false → (b : ℕ) → b < boards_most → holds width rows b k ≡ false
