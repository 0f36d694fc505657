-- `readiness_of` meets its contract: the event itself, then those before it on its board.
use native.Mathlib.Omega.{arith}
use Rattle.readiness.proofs.Conditions.{says_done, says_waits, says_ready}
use borrow.Author.Rules.{rules}
use Rattle.readiness.proofs.readiness_of.Goals as goal

pub returns-then-test : goal.returns-then-test
returns-then-test c = search says_done

pub first_left-requires : goal.first_left-requires
first_left-requires c = let board = c.args.scenario.now.standing.boards_below c.args.x (omega arith) in
    search rules

pub returns-in-Some : goal.returns-in-Some
returns-in-Some c = search says_waits

pub returns-in-None : goal.returns-in-None
returns-in-None c = search says_ready
