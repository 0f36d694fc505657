-- `next_in` meets its contract. The loop keeps `NoneBefore`: no message is in the words passed. Assumes nothing.
use Prim.Native.Nat.{◌-◌}
use Rattle.relation.specs.Width.{width}
use Rattle.next_message.proofs.InRow.{NoneBefore}
use Rattle.next_message.proofs.next_in.Given as goal

abbrev pub invariant-loop-i : goal.invariant-loop-i
invariant-loop-i l = NoneBefore l.row l.m l.i

abbrev pub decreases-loop-i : goal.decreases-loop-i
decreases-loop-i l = width - l.i
