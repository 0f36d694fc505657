-- `queue_moves::closed_up` meets its contract. Assumes nothing.
use Prim.Native.Nat.{◌-◌}
use Rattle.queue_moves.proofs.Turns.{Moved}
use Rattle.queue_moves.proofs.closed_up.Given as goal

abbrev pub invariant-loop-i : goal.invariant-loop-i
invariant-loop-i l = Moved l.initial.queue l.queue l.at l.last l.i

abbrev pub decreases-loop-i : goal.decreases-loop-i
decreases-loop-i l = l.last - l.i
