-- `order_count::count_before` meets its contract. Assumes nothing.
use Prim.Native.Nat.{◌-◌}
use Rattle.order_count.proofs.Counting.{counted_start, counted_more, counted_whole, counted_last}
use borrow.Author.Rules.{rules}
use Rattle.order_count.proofs.count_before.Goals as goal

pub loop-i-init : goal.loop-i-init
loop-i-init c = search counted_start

pub loop-i-preserved : goal.loop-i-preserved
loop-i-preserved c = search counted_more

pub returns-then-few-eq0 : goal.returns-then-few-eq0
returns-then-few-eq0 c = record { value = search counted_whole; upper_bound = search rules }

pub returns : goal.returns
returns c = record { value = search counted_last; upper_bound = search rules }
