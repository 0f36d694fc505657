-- `met` meets its contract. Assumes nothing.
use Rattle.coverage.proofs.Steps.{met_outside, met_with, met_without}
use Rattle.coverage.proofs.met.Goals as goal

pub returns-then-not-in_set : goal.returns-then-not-in_set
returns-then-not-in_set c = search met_outside

pub returns-then-is_covered : goal.returns-then-is_covered
returns-then-is_covered c = search met_with

pub returns-else-is_covered : goal.returns-else-is_covered
returns-else-is_covered c = search met_without
