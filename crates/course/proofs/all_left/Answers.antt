-- `course::all_left` meets its contract. The loop keeps `Filling`: the events passed are in the row. Assumes nothing.
use Rattle.course.proofs.Filling.{filling_start, filling_more, filling_end}
use Rattle.course.proofs.all_left.Goals as goal

pub loop-x-init : goal.loop-x-init
loop-x-init c = search filling_start

pub loop-x-preserved : goal.loop-x-preserved
loop-x-preserved c = search filling_more

pub returns : goal.returns
returns c = search filling_end
