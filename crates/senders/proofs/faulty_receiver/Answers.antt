-- `faulty_receiver` meets its contract. Assumes nothing.
use Rattle.senders.proofs.Receivers.{fault_none, fault_begin, fault_found, fault_more, fault_end}
use Rattle.senders.proofs.faulty_receiver.Goals as goal

pub returns-then-twice-eq0 : goal.returns-then-twice-eq0
returns-then-twice-eq0 c = search fault_none

pub loop-receiver-init : goal.loop-receiver-init
loop-receiver-init c = search fault_begin

pub returns-then-is_fault : goal.returns-then-is_fault
returns-then-is_fault c = search fault_found

pub loop-receiver-preserved : goal.loop-receiver-preserved
loop-receiver-preserved c = search fault_more

pub returns : goal.returns
returns c = search fault_end
