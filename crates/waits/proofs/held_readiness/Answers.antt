-- `waits::held_readiness` meets its contract. Assumes nothing.
use Rattle.waits.proofs.Searching.{not_held, held_says}
use Rattle.waits.proofs.held_readiness.Goals as goal

pub returns-then-not-test : goal.returns-then-not-test
returns-then-not-test c = search not_held

pub returns : goal.returns
returns c = search held_says
