-- `covers::cover` meets its contract. Assumes nothing.
use Prim.Native.Nat.{◌-◌}
use Rattle.covers.proofs.Covering.{covering_start, covering_more, covering_end}
use Rattle.covers.proofs.cover.Goals as goal

pub loop-i-init : goal.loop-i-init
loop-i-init c = search covering_start

pub loop-i-preserved : goal.loop-i-preserved
loop-i-preserved c = search covering_more

pub returns : goal.returns
returns c = search covering_end
