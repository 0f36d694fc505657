-- `Queue::head` meets its contract. Assumes nothing.
use Rattle.queue.proofs.Heads.{head_none, head_some}
use Rattle.queue.proofs.Queue.head.Goals as goal

pub returns-then-count-eq0 : goal.returns-then-count-eq0
returns-then-count-eq0 c = search head_none

pub returns : goal.returns
returns c = search head_some
