-- `taken_places::taken` meets its contract. Assumes nothing.
use Prim.Native.Nat.{◌-◌}
use Rattle.model.specs.Limits.{jobs_most}
use Rattle.taken_places.proofs.Standing.{Standing}
use Rattle.taken_places.proofs.taken.Given as goal

abbrev pub invariant-loop-i : goal.invariant-loop-i
invariant-loop-i l = Standing l.queue l.i l.places

abbrev pub decreases-loop-i : goal.decreases-loop-i
decreases-loop-i l = jobs_most - l.i
