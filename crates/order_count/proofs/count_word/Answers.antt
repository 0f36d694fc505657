-- `order_count::count_word` meets its contract. Assumes nothing.
use Rattle.order_count.proofs.Counting.{word_counted, word_few}
use borrow.Author.Rules.{rules}
use Rattle.order_count.proofs.count_word.Goals as goal

pub returns : goal.returns
returns c = record { value = search word_counted; upper_bound = search (word_few, rules) }
