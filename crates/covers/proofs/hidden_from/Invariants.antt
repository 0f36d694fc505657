-- `covers::hidden_from` meets its contract. Assumes nothing.
use Prim.Native.Nat.{◌-◌}
use Rattle.relation.specs.Width.{width}
use Rattle.covers.proofs.Hiding.{Hiding}
use Rattle.covers.proofs.hidden_from.Given as goal

abbrev pub invariant-loop-i : goal.invariant-loop-i
invariant-loop-i l = Hiding l.words l.count l.e l.i l.hidden

abbrev pub decreases-loop-i : goal.decreases-loop-i
decreases-loop-i l = width - l.i
