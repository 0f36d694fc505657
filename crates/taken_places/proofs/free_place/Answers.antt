-- `taken_places::free_place` meets its contract. Assumes nothing.
use Prim.Native.Nat.{◌-◌}
use Rattle.taken_places.proofs.Standing.{none_free, free_here, free_not, free_nowhere}
use Rattle.taken_places.proofs.free_place.Goals as goal

pub loop-place-init : goal.loop-place-init
loop-place-init c = search none_free

pub returns-then-may_stand : goal.returns-then-may_stand
returns-then-may_stand c = search free_here

pub loop-place-preserved : goal.loop-place-preserved
loop-place-preserved c = search free_not

pub returns : goal.returns
returns c = search free_nowhere
