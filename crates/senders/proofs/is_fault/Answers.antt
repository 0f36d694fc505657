-- `is_fault` meets its contract. Assumes nothing.
use Rattle.senders.proofs.Receivers.{fault_out, fault_in}
use Rattle.senders.proofs.is_fault.Goals as goal

pub returns-then-not-in_set : goal.returns-then-not-in_set
returns-then-not-in_set c = search fault_out

pub returns-else-not-in_set : goal.returns-else-not-in_set
returns-else-not-in_set c = search fault_in
