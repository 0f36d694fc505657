-- `at_or_before` meets its contract: the same number, or the bit. Assumes nothing.
use Rattle.at_or_before.proofs.Reached.{at_same, at_other}
use Rattle.at_or_before.proofs.at_or_before.Goals as goal

pub returns-then-x-y : goal.returns-then-x-y
returns-then-x-y c = search at_same

pub returns : goal.returns
returns c = search at_other
