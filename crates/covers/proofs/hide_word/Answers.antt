-- `covers::hide_word` meets its contract. Assumes nothing.
use Prim.Native.Nat.{◌-◌}
use Rattle.covers.proofs.Hiding.{taking_none, taking_ends, taking_all, taking_again}
use Rattle.covers.proofs.hide_word.Goals as goal

pub loop-bit-init : goal.loop-bit-init
loop-bit-init c = search taking_none

pub returns-then-left-eq0 : goal.returns-then-left-eq0
returns-then-left-eq0 c = search taking_ends

pub loop-bit-preserved : goal.loop-bit-preserved
loop-bit-preserved c = search taking_again

pub returns : goal.returns
returns c = search taking_all
