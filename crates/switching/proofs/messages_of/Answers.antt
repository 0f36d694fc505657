-- `switching::messages_of` meets its contract. Assumes nothing.
use borrow.Author.Rules.{rules}
use Rattle.switching.proofs.Counted.{word_counted, ones_fit}
use Rattle.switching.proofs.messages_of.Goals as goal

pub overflow_cast-result : goal.overflow_cast-result
overflow_cast-result c = search (ones_fit, rules)

pub returns : goal.returns
returns c = search word_counted
