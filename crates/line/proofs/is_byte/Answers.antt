-- `is_byte` meets its contract. Assumes nothing.
use Rattle.line.proofs.Scan.{begins_in, begins_out}
use Rattle.line.proofs.is_byte.Goals as goal

pub returns-then-at-text : goal.returns-then-at-text
returns-then-at-text c = search begins_in

pub returns-else-at-text : goal.returns-else-at-text
returns-else-at-text c = search begins_out
