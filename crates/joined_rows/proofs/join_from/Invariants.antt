-- `joined_rows::join_from` meets its contract. The loop keeps `Merging`, as that of `join`, over the other words.
use Prim.Native.Nat.{◌-◌}
use lib.Bits.{bit_or}
use Rattle.relation.specs.Width.{width}
use Rattle.joined_rows.proofs.Loops.{Merging}
use Rattle.joined_rows.proofs.join_from.Given as goal

abbrev pub invariant-loop-k : goal.invariant-loop-k
invariant-loop-k l = Merging bit_or width l.k l.initial.words l.into l.other l.out l.words

abbrev pub decreases-loop-k : goal.decreases-loop-k
decreases-loop-k l = width - l.k
