-- `may_order` meets its contract. Assumes nothing.
use Rattle.place.proofs.Standing.{no_first, no_second, no_two_events, order_fits_holds}
use native.Mathlib.Omega.{arith}
use borrow.Author.Rules.{rules}
use Rattle.place.proofs.may_order.Goals as goal
use Rattle.place.proofs.may_order.Goals.{then-events-i-via-then-events-i, then-events-i-via-else-events-i+then-events-j, then-events-i-via-else-events-i+else-events-j+then-i-j}

pub returns-then-events-i : goal.returns-then-events-i
returns-then-events-i c =
    elim c.then-events-i.branch [
      | then-events-i-via-then-events-i w ↦ no_first _ _ c.requires.0 c.requires.1 _ _ (omega arith)
      | then-events-i-via-else-events-i+then-events-j w ↦ no_second _ _ c.requires.0 c.requires.1 _ _ (omega arith) (omega arith)
      | then-events-i-via-else-events-i+else-events-j+then-i-j w ↦ no_two_events _ _ c.requires.0 c.requires.1 _ _ (omega arith) (omega arith) (omega arith)
    ]

pub returns : goal.returns
returns c = search (order_fits_holds, rules)
