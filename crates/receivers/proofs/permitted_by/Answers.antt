-- `receivers::permitted_by` meets its contract: the loop keeps that the senders passed have their sets. Assumes nothing.
use Rattle.receivers.proofs.Deciding.{filling_start, filling_more, filled}
use Rattle.receivers.proofs.permitted_by.Goals as goal

pub loop-sender-init : goal.loop-sender-init
loop-sender-init c = search filling_start

pub loop-sender-preserved : goal.loop-sender-preserved
loop-sender-preserved c = search filling_more

pub returns : goal.returns
returns c = search filled
