-- `joined_rows::copy_from` meets its contract. The loop keeps `Merging`: the words passed are the other row's.
use Prim.Native.Nat.{◌-◌}
use Rattle.relation.specs.Width.{width}
use Rattle.joined_rows.specs.Joins.{theirs}
use Rattle.joined_rows.proofs.Loops.{Merging}
use Rattle.joined_rows.proofs.copy_from.Given as goal

abbrev pub invariant-loop-j : goal.invariant-loop-j
invariant-loop-j l = Merging theirs width l.j l.initial.words l.into l.other l.out l.words

abbrev pub decreases-loop-j : goal.decreases-loop-j
decreases-loop-j l = width - l.j
