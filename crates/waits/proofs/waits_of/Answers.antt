-- `waits::waits_of` meets its contract. The loop keeps `Answered`: the boards passed are answered. Assumes nothing.
use Rattle.waits.proofs.Searching.{answered_none, answered_more, answered_all}
use Rattle.waits.proofs.waits_of.Goals as goal

pub loop-b-init : goal.loop-b-init
loop-b-init c = search answered_none

pub loop-b-preserved : goal.loop-b-preserved
loop-b-preserved c = search answered_more

pub returns : goal.returns
returns c = search answered_all
