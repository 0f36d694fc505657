-- `closure::lowest_own` meets its contract. The loop keeps that no row passed holds its own event.
use borrow.Author.Rules.{rules}
use Rattle.closure.proofs.Lowest.{own_start, own_here, own_not_here, own_nowhere}
use Rattle.closure.proofs.lowest_own.Goals as goal

pub loop-event-init : goal.loop-event-init
loop-event-init c = (own_start _ _, search rules)

pub returns-then-test : goal.returns-then-test
returns-then-test c = search own_here

pub loop-event-preserved : goal.loop-event-preserved
loop-event-preserved c = (search own_not_here, search rules)

pub returns : goal.returns
returns c = search own_nowhere
