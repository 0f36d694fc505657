-- `takes` meets its contract, class by class. Assumes nothing.
use Rattle.step_classes.proofs.EachClass.{takes_delivery, takes_send}
use Rattle.step_classes.proofs.takes.Goals as goal

pub returns-in-NeededDelivery : goal.returns-in-NeededDelivery
returns-in-NeededDelivery c = search takes_delivery

pub returns-in-NeededSend : goal.returns-in-NeededSend
returns-in-NeededSend c = search takes_send
