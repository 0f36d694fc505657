-- `job_numbers::position` meets its contract. Assumes nothing.
use Rattle.job_numbers.proofs.Numbers.{looked_none, looked_one, looked_here, looked_all}
use borrow.Author.Rules.{rules}
use Rattle.job_numbers.proofs.position.Goals as goal

pub loop-i-init : goal.loop-i-init
loop-i-init c = search looked_none

pub returns-then-job-number : goal.returns-then-job-number
returns-then-job-number c = search looked_here

pub loop-i-preserved : goal.loop-i-preserved
loop-i-preserved c = looked_one _ _ _ _ _ (search rules) (search rules) c.if-job-number.false (search rules)

pub returns : goal.returns
returns c = search looked_all
