-- What a caller lends of a scenario: its boards and its relation. Assumes nothing.
use Rattle.std.specs.Prelude.{ℕ, ◌*◌, ◌≤◌, List, length}
use Rattle.relation.specs.Width.{width, word_bits}
use Rattle.board.specs.Boards.{BoardsBelow}

-- the boards and the words are long enough for so many messages, and a row for their events; the boards are those of the paper
pub record Lent (count : ℕ) (boards words : List ℕ) : Type 0 where
  pub boards_long : 2 * count ≤ length boards
  pub words_long : 2 * count * width ≤ length words
  pub row_long : 2 * count ≤ word_bits * width
  pub boards_below : BoardsBelow count boards
