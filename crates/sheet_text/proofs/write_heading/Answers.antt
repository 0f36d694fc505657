-- `sheet_text::write_heading` meets its contract. Assumes nothing.
use Prim.Native.Nat.{◌-◌}
use Rattle.sheet_text.proofs.Putting.{copied_none, copied_more, copied_all}
use Rattle.sheet_text.proofs.write_heading.Goals as goal

pub loop-i-init : goal.loop-i-init
loop-i-init c = search copied_none

pub loop-i-preserved : goal.loop-i-preserved
loop-i-preserved c = search copied_more

pub returns : goal.returns
returns c = search copied_all
