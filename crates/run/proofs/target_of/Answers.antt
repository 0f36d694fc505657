-- `run::target_of` meets its contract. Assumes nothing.
use Rattle.run.proofs.States.{target_read}
use Rattle.run.proofs.target_of.Goals as goal

pub returns : goal.returns
returns c = search target_read
