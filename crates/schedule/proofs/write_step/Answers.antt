-- `schedule::write_step` meets its contract. Assumes nothing.
use Rattle.schedule.proofs.Running.{two_bytes}
use Rattle.schedule.proofs.write_step.Goals as goal

pub returns : goal.returns
returns c = search two_bytes
