-- `taken_places::free_place` meets its contract. Assumes nothing.
use Prim.Native.Nat.{◌-◌}
use Rattle.model.specs.Limits.{jobs_most}
use Rattle.taken_places.proofs.Standing.{NoneFree}
use Rattle.taken_places.proofs.free_place.Given as goal

abbrev pub invariant-loop-place : goal.invariant-loop-place
invariant-loop-place l = NoneFree l.taken l.place

abbrev pub decreases-loop-place : goal.decreases-loop-place
decreases-loop-place l = jobs_most - l.place
