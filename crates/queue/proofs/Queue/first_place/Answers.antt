-- `Queue::first_place` meets its contract. Assumes nothing.
use Rattle.queue.proofs.Heads.{first_is}
use Rattle.queue.proofs.Queue.first_place.Goals as goal

pub returns : goal.returns
returns c = search first_is
