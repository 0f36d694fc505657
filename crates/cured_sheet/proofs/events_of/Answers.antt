-- `cured_sheet::events_of` meets its contract. Assumes nothing.
use Prim.Native.Nat.{◌-◌}
use Rattle.cured_sheet.proofs.Spans.{gathered_none, gathered_more, gathered_all}
use Rattle.cured_sheet.proofs.events_of.Goals as goal

pub loop-e-init : goal.loop-e-init
loop-e-init c = search gathered_none

pub loop-e-preserved : goal.loop-e-preserved
loop-e-preserved c = search gathered_more

pub returns : goal.returns
returns c = search gathered_all
