-- `candidates::own_delivery` meets its contract. Assumes nothing.
use Rattle.candidates.proofs.Filled.{own_marked, own_absent}
use Rattle.candidates.proofs.own_delivery.Goals as goal

pub returns-then-test : goal.returns-then-test
returns-then-test c = search own_marked

pub returns-else-test : goal.returns-else-test
returns-else-test c = search own_absent
