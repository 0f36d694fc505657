-- `standing::is_finished` meets its contract. Assumes nothing.
use Rattle.standing.proofs.AtEnd.{finishing_starts, send_undone, receive_undone, both_done, all_done_holds}
use borrow.Author.Rules.{rules}
use Rattle.standing.proofs.is_finished.Goals.{then-not-test-via-then-not-test, then-not-test-via-else-not-test+then-not-test-2}
use Rattle.standing.proofs.is_finished.Goals as goal

pub loop-m-init : goal.loop-m-init
loop-m-init c = search finishing_starts

pub returns-then-not-test : goal.returns-then-not-test
returns-then-not-test c = elim c.then-not-test.branch [
  | then-not-test-via-then-not-test w ↦ search send_undone
  | then-not-test-via-else-not-test+then-not-test-2 w ↦ search receive_undone
]

pub loop-m-preserved : goal.loop-m-preserved
loop-m-preserved c = search both_done

pub returns : goal.returns
returns c = search (all_done_holds, rules)
