-- `lowest_message` meets its contract. Assumes nothing.
use Prim.Native.Nat.{◌-◌}
use Rattle.lowest_race.proofs.Messages.{messages_begin, messages_go_on, messages_find, messages_end}
use Rattle.lowest_race.proofs.lowest_message.Goals as goal

pub loop-e-init : goal.loop-e-init
loop-e-init c = search messages_begin

pub returns-in-Some : goal.returns-in-Some
returns-in-Some c = search messages_find

pub loop-e-preserved : goal.loop-e-preserved
loop-e-preserved c = search messages_go_on

pub returns : goal.returns
returns c = search messages_end
