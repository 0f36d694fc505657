-- `fault` meets its contract. Assumes nothing.
use Rattle.senders.proofs.Judging.{fault_gap, fault_clash}
use Rattle.senders.proofs.fault.Goals as goal

pub returns-then-met-eq0 : goal.returns-then-met-eq0
returns-then-met-eq0 c = search fault_gap

pub returns-else-met-eq0 : goal.returns-else-met-eq0
returns-else-met-eq0 c = search fault_clash
