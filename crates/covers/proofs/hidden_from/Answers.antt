-- `covers::hidden_from` meets its contract. Assumes nothing.
use Prim.Native.Nat.{◌-◌}
use Rattle.covers.proofs.Hiding.{hiding_start, hiding_more, hiding_end}
use Rattle.covers.proofs.hidden_from.Goals as goal

pub loop-i-init : goal.loop-i-init
loop-i-init c = search hiding_start

pub loop-i-preserved : goal.loop-i-preserved
loop-i-preserved c = search hiding_more

pub returns : goal.returns
returns c = search hiding_end
