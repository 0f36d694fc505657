-- `race::on_board` meets its contract. Assumes nothing.
use Rattle.race.proofs.Boards.{none_looked_at, one_looked_at, all_looked_at}
use Rattle.race.proofs.on_board.Goals as goal

pub loop-x-init : goal.loop-x-init
loop-x-init c = search none_looked_at

pub loop-x-preserved : goal.loop-x-preserved
loop-x-preserved c = search one_looked_at

pub returns : goal.returns
returns c = search all_looked_at
