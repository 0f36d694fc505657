-- `course::link` meets its contract. The loop keeps `Linking`: the links ahead of the place at hand are in the words. Assumes nothing.
use Prim.Native.Nat.{◌-◌}
use Rattle.course.proofs.Lists.{Linking}
use Rattle.course.proofs.link.Given as goal

abbrev pub invariant-loop-i : goal.invariant-loop-i
invariant-loop-i l = Linking l.events l.list l.initial.words l.i l.words

abbrev pub decreases-loop-i : goal.decreases-loop-i
decreases-loop-i l = l.i-end - l.i
