-- `run::without` meets its contract. Assumes nothing.
use Rattle.run.proofs.Rows.{loses}
use Rattle.run.proofs.without.Goals as goal

pub returns : goal.returns
returns c = search loses
