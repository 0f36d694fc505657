-- `cured_sheet::write_messages` meets its contract. Assumes nothing.
use Prim.Native.Nat.{◌-◌}
use Rattle.cured_sheet.proofs.Rows.{messages_none, messages_more, messages_all, messages_few}
use Rattle.cured_sheet.proofs.write_messages.Goals as goal

pub loop-m-init : goal.loop-m-init
loop-m-init c = search messages_none

pub loop-m-preserved : goal.loop-m-preserved
loop-m-preserved c = search messages_more

pub returns : goal.returns
returns c = record { writes = search messages_all; upper_bound = search messages_few }
