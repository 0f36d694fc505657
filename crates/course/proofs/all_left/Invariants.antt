-- `course::all_left` meets its contract. The loop keeps `Filling`: the events passed are in the row. Assumes nothing.
use Prim.Native.Nat.{◌-◌}
use Rattle.course.proofs.Filling.{Filling}
use Rattle.course.proofs.all_left.Given as goal

abbrev pub invariant-loop-x : goal.invariant-loop-x
invariant-loop-x l = Filling l.events l.x l.left

abbrev pub decreases-loop-x : goal.decreases-loop-x
decreases-loop-x l = l.events - l.x
