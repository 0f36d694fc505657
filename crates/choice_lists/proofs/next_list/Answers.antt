-- `next_list` meets its contract. Assumes nothing.
use Rattle.choice_lists.proofs.Places.{next_is, next_fits}
use borrow.Author.Rules.{rules}
use Rattle.choice_lists.proofs.next_list.Goals as goal

pub overflow_add-result : goal.overflow_add-result
overflow_add-result c = search (next_fits, rules)

pub returns : goal.returns
returns c = search next_is
