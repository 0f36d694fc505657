-- `order_count::count_before` meets its contract. Assumes nothing.
use Prim.Native.Nat.{◌*◌, ◌/◌, ◌-◌}
use Rattle.relation.specs.Width.{word_bits}
use Rattle.order_count.proofs.Counting.{Counted}
use Rattle.order_count.proofs.count_before.Given as goal

abbrev pub invariant-loop-i : goal.invariant-loop-i
invariant-loop-i l = Counted l.words l.count l.e l.i l.found

abbrev pub decreases-loop-i : goal.decreases-loop-i
decreases-loop-i l = 2 * l.count / word_bits - l.i
