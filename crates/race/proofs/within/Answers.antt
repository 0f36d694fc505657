-- `race::within` meets its contract. Assumes nothing.
use Rattle.race.proofs.Boards.{within_all, within_none, few_power, within_some}
use borrow.Author.Rules.{rules}
use Rattle.race.proofs.within.Goals as goal

pub returns-then-end-events : goal.returns-then-end-events
returns-then-end-events c = search within_all

pub returns-then-events-start : goal.returns-then-events-start
returns-then-events-start c = search within_none

pub overflow_sub-result : goal.overflow_sub-result
overflow_sub-result c = search (few_power, rules)

pub returns : goal.returns
returns c = search within_some
