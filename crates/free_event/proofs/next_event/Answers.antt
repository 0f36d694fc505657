-- `next_event` meets its contract. The loop keeps `Searching`: the words passed have no free event. Assumes nothing.
use Rattle.free_event.proofs.Taking.{searching_start, searching_found, searching_more, searching_end}
use Rattle.free_event.proofs.next_event.Goals as goal

pub loop-w-init : goal.loop-w-init
loop-w-init c = search searching_start

pub returns-then-is_some : goal.returns-then-is_some
returns-then-is_some c = search searching_found

pub loop-w-preserved : goal.loop-w-preserved
loop-w-preserved c = search searching_more

pub returns : goal.returns
returns c = search searching_end
