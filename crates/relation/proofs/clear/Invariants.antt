-- `relation::clear` meets its contract. The loop keeps `Clearing`: the words passed are zero.
use Prim.Native.Nat.{◌-◌}
use Rattle.relation.proofs.Loops.{Clearing}
use Rattle.relation.proofs.clear.Given as goal

abbrev pub invariant-loop-i : goal.invariant-loop-i
invariant-loop-i l = Clearing l.count l.initial.words l.i l.words

abbrev pub decreases-loop-i : goal.decreases-loop-i
decreases-loop-i l = l.count - l.i
