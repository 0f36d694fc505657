-- `receivers::decided` meets its contract. Assumes nothing.
use borrow.Author.Rules.{rules}
use Rattle.receivers.proofs.Deciding.{decided_other, decided_permitted, decided_forbidden}
use Rattle.receivers.proofs.decided.Goals as goal

pub returns-then-not-in_set : goal.returns-then-not-in_set
returns-then-not-in_set c = search decided_other

pub returns-then-verdict-eq1 : goal.returns-then-verdict-eq1
returns-then-verdict-eq1 c = search decided_permitted

pub returns-else-verdict-eq1 : goal.returns-else-verdict-eq1
returns-else-verdict-eq1 c = search (decided_forbidden, rules)
