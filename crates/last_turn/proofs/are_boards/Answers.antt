-- `last_turn::are_boards` meets its contract. Assumes nothing.
use Prim.Native.Nat.{◌-◌}
use Rattle.last_turn.proofs.Answers.{boarded_none, boarded_one, boarded_not, boarded_all}
use Rattle.last_turn.proofs.are_boards.Goals as goal

pub loop-x-init : goal.loop-x-init
loop-x-init c = search boarded_none

pub returns-then-board_of-ge-BOARDS : goal.returns-then-board_of-ge-BOARDS
returns-then-board_of-ge-BOARDS c = search boarded_not

pub loop-x-preserved : goal.loop-x-preserved
loop-x-preserved c = search boarded_one

pub returns : goal.returns
returns c = search boarded_all
