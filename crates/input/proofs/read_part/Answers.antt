-- `read_part` meets its contract. Assumes nothing.
use Rattle.std.proofs.Common.{arith}
use Rattle.input.proofs.Parts.{part_fits, part_taken}
use Rattle.input.proofs.read_part.Goals as goal

pub returns-clause-room : goal.returns-clause-room
returns-clause-room g c = part_fits _ c.read.new.buf _ _ c.read.ensures.bound (omega arith)

pub returns-clause-taken : goal.returns-clause-taken
returns-clause-taken g c = part_taken _ _ _ _ _ c.read.new.buf c.read.ensures.bound c.read.ensures.bytes (omega arith) (omega arith)
