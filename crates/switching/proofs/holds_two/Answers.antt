-- `switching::holds_two` meets its contract: the boards passed hold one message at most. Assumes nothing.
use Rattle.switching.proofs.Boards.{passed_none, two_here, passed_one, passed_all}
use Rattle.switching.proofs.holds_two.Goals as goal

pub loop-buffer-init : goal.loop-buffer-init
loop-buffer-init c = search passed_none

pub returns-then-messages_in-ge2 : goal.returns-then-messages_in-ge2
returns-then-messages_in-ge2 c = search two_here

pub loop-buffer-preserved : goal.loop-buffer-preserved
loop-buffer-preserved c = search passed_one

pub returns : goal.returns
returns c = search passed_all
