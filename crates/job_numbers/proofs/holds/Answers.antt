-- `job_numbers::holds` meets its contract. Assumes nothing.
use Rattle.job_numbers.proofs.Numbers.{holds_as}
use Rattle.job_numbers.proofs.holds.Goals as goal

pub returns : goal.returns
returns c = search holds_as
