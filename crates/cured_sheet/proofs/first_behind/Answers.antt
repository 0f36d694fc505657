-- `cured_sheet::first_behind` meets its contract. Assumes nothing.
use Prim.Native.Nat.{◌-◌}
use Rattle.cured_sheet.proofs.Spans.{first_start, first_more, first_end}
use Rattle.cured_sheet.proofs.first_behind.Goals as goal

pub loop-e-init : goal.loop-e-init
loop-e-init c = search first_start

pub loop-e-preserved : goal.loop-e-preserved
loop-e-preserved c = search first_more

pub returns : goal.returns
returns c = search first_end
