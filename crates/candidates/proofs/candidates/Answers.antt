-- `candidates::candidates` meets its contract, class by class. Assumes nothing.
use Rattle.candidates.proofs.Filled.{candidates_held, candidates_own, candidates_needed_delivery, candidates_delivery, candidates_needed_send, candidates_send}
use Rattle.candidates.proofs.candidates.Goals as goal

pub returns-in-AnyConsume : goal.returns-in-AnyConsume
returns-in-AnyConsume c = search candidates_held

pub returns-in-DeliveryOf : goal.returns-in-DeliveryOf
returns-in-DeliveryOf c = search candidates_own

pub returns-in-NeededDelivery : goal.returns-in-NeededDelivery
returns-in-NeededDelivery c = search candidates_needed_delivery

pub returns-in-AnyDelivery : goal.returns-in-AnyDelivery
returns-in-AnyDelivery c = search candidates_delivery

pub returns-in-NeededSend : goal.returns-in-NeededSend
returns-in-NeededSend c = search candidates_needed_send

pub returns-in-AnySend : goal.returns-in-AnySend
returns-in-AnySend c = search candidates_send
