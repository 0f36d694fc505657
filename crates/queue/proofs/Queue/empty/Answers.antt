-- `Queue::empty` meets its contract. Assumes nothing.
use mathlib.Core.Path.{refl}
use Rattle.queue.proofs.Queue.empty.Goals as goal

pub returns : goal.returns
returns c = refl
