-- `order_count::count_orders` meets its contract. Assumes nothing.
use Prim.Native.Nat.{◌-◌}
use Rattle.order_count.proofs.Counting.{all_start, all_more, all_end}
use borrow.Author.Rules.{rules}
use Rattle.order_count.proofs.count_orders.Goals as goal

pub loop-e-init : goal.loop-e-init
loop-e-init c = search all_start

pub loop-e-preserved : goal.loop-e-preserved
loop-e-preserved c = search all_more

pub returns : goal.returns
returns c = record { value = search all_end; upper_bound = search rules }
