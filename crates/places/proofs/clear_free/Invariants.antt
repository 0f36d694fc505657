-- `places::clear_free` meets its contract. Assumes nothing.
use Prim.Native.Nat.{◌-◌}
use Rattle.model.specs.Limits.{jobs_most}
use Rattle.places.proofs.Clearing.{Clearing}
use Rattle.places.proofs.clear_free.Given as goal

abbrev pub invariant-loop-place : goal.invariant-loop-place
invariant-loop-place l = Clearing l.taken l.initial.words l.place l.words

abbrev pub decreases-loop-place : goal.decreases-loop-place
decreases-loop-place l = jobs_most - l.place
