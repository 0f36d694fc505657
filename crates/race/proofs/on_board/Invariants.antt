-- `race::on_board` meets its contract. Assumes nothing.
use Rattle.race.proofs.Boards.{LookedAt}
use Rattle.race.proofs.on_board.Given as goal

abbrev pub invariant-loop-x : goal.invariant-loop-x
invariant-loop-x l = LookedAt l.boards l.board l.from l.to l.x l.on
