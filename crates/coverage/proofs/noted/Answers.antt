-- `noted` meets its contract. Assumes nothing.
use Rattle.coverage.proofs.Steps.{noted_first, noted_second, noted_other}
use Rattle.coverage.proofs.noted.Goals as goal

pub returns-then-s-eq0 : goal.returns-then-s-eq0
returns-then-s-eq0 c = search noted_first

pub returns-then-s-eq0-2 : goal.returns-then-s-eq0-2
returns-then-s-eq0-2 c = search noted_second

pub returns-else-s-eq0-2 : goal.returns-else-s-eq0-2
returns-else-s-eq0-2 c = search noted_other
