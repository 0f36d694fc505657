-- `next_event` meets its contract. The loop keeps `Searching`: the words passed have no free event. Assumes nothing.
use Prim.Native.Nat.{◌-◌}
use Rattle.relation.specs.Width.{width}
use Rattle.free_event.proofs.Taking.{Searching}
use Rattle.free_event.proofs.next_event.Given as goal

abbrev pub invariant-loop-w : goal.invariant-loop-w
invariant-loop-w l = Searching l.words l.left l.w

abbrev pub decreases-loop-w : goal.decreases-loop-w
decreases-loop-w l = width - l.w
