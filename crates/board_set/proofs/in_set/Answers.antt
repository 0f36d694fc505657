-- `in_set` meets its contract. Assumes nothing.
use Rattle.board_set.proofs.Members.{bit_read, no_board}
use borrow.Author.Rules.{rules}
use Rattle.board_set.proofs.in_set.Goals as goal

pub returns-then-board-lt-BOARDS : goal.returns-then-board-lt-BOARDS
returns-then-board-lt-BOARDS c = search bit_read

pub returns-else-board-lt-BOARDS : goal.returns-else-board-lt-BOARDS
returns-else-board-lt-BOARDS c = search (no_board, rules)
