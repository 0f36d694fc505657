-- `joined_rows::join` meets its contract. The loop keeps `Merging`: the words passed have gained theirs.
use Prim.Native.Nat.{◌-◌}
use lib.Bits.{bit_or}
use Rattle.relation.specs.Width.{width}
use Rattle.joined_rows.proofs.Loops.{Merging}
use Rattle.joined_rows.proofs.join.Given as goal

abbrev pub invariant-loop-i : goal.invariant-loop-i
invariant-loop-i l = Merging bit_or width l.i l.initial.words l.into l.initial.words l.out l.words

abbrev pub decreases-loop-i : goal.decreases-loop-i
decreases-loop-i l = width - l.i
