-- The boards of the events. Assumes nothing.
use Rattle.std.specs.Prelude.{List, ℕ, ◌*◌, ◌<◌, get_or}
use Rattle.model.specs.Limits.{boards}

-- the boards of the paper, by a name that no slice of the code has
abbrev pub boards_most : ℕ
boards_most = boards

-- the events of the first `count` messages are on boards of the paper
abbrev pub BoardsBelow : ℕ → List ℕ → Type 0
BoardsBelow count on = (x : ℕ) → x < 2 * count → get_or on x 0 < boards
