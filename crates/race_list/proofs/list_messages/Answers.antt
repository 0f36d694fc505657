-- `race_list::list_messages` meets its contract. The races of the messages passed are added. Assumes nothing.
use Prim.Native.Nat.{◌-◌}
use Rattle.race_list.proofs.Words.{messaged_start, messaged_more, messaged_end}
use Rattle.race_list.proofs.list_messages.Goals as goal

pub loop-e-init : goal.loop-e-init
loop-e-init c = search messaged_start

pub loop-e-preserved : goal.loop-e-preserved
loop-e-preserved c = search messaged_more

pub returns : goal.returns
returns c = search messaged_end
