-- `order_count::count_orders` meets its contract. Assumes nothing.
use Prim.Native.Nat.{◌-◌}
use Rattle.order_count.proofs.Counting.{AllCounted}
use Rattle.order_count.proofs.count_orders.Given as goal

abbrev pub invariant-loop-e : goal.invariant-loop-e
invariant-loop-e l = AllCounted l.words l.count l.e l.found

abbrev pub decreases-loop-e : goal.decreases-loop-e
decreases-loop-e l = l.count - l.e
