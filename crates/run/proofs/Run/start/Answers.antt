-- `run::Run::start` meets its contract: rows of zeros hold nothing.
use Rattle.run.proofs.States.{starts}
use Rattle.run.proofs.Run.start.Goals as goal

pub returns : goal.returns
returns c = starts
