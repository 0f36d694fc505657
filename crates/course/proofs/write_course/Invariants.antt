-- `course::write_course` meets its contract. The loop keeps `Writing`: so many events of the course are written, and which are left. Assumes nothing.
use Prim.Native.Nat.{◌-◌}
use Rattle.course.proofs.Written.{Writing}
use Rattle.course.proofs.write_course.Given as goal

abbrev pub invariant-loop-i : goal.invariant-loop-i
invariant-loop-i l = Writing l.events l.words l.initial.output l.i l.output l.left

abbrev pub decreases-loop-i : goal.decreases-loop-i
decreases-loop-i l = l.events - l.i
