-- `order_count::count_first` meets its contract. Assumes nothing.
use Rattle.order_count.proofs.Counting.{power_least, first_counted, first_few}
use borrow.Author.Rules.{rules}
use Rattle.order_count.proofs.count_first.Goals as goal

pub overflow_sub-result : goal.overflow_sub-result
overflow_sub-result c = search power_least

pub returns : goal.returns
returns c = record { value = search first_counted; upper_bound = search (first_few, rules) }
