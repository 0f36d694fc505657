-- `closure::insert` meets its contract. The loop keeps `Inserting`: the rows passed have been looked at, one a turn.
use Prim.Native.Nat.{◌-◌}
use Rattle.relation.specs.Width.{width}
use Rattle.closure.proofs.Loops.{Inserting}
use Rattle.closure.proofs.insert.Given as goal

abbrev pub invariant-loop-b : goal.invariant-loop-b
invariant-loop-b l = Inserting width l.initial.words l.x l.y l.from l.to l.b l.words

abbrev pub decreases-loop-b : goal.decreases-loop-b
decreases-loop-b l = l.to - l.b
