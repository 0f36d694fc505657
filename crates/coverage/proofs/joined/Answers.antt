-- `joined` meets its contract. Assumes nothing.
use Rattle.coverage.proofs.Steps.{joined_with, joined_without}
use Rattle.coverage.proofs.joined.Goals as goal

pub returns-then-in_set : goal.returns-then-in_set
returns-then-in_set c = search joined_with

pub returns-else-in_set : goal.returns-else-in_set
returns-else-in_set c = search joined_without
