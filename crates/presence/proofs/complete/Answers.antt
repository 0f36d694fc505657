-- `complete` meets its contract. The loop's invariant: no call up to row `i` is to an absent sheet. Assumes nothing.
use Rattle.presence.proofs.Searching.{search_zero, search_begin, search_more, search_found, search_none}
use Rattle.presence.proofs.complete.Goals as goal

pub returns-then-not-is_open : goal.returns-then-not-is_open
returns-then-not-is_open c = rw c.at.ensures (search search_zero)

pub loop-i-init : goal.loop-i-init
loop-i-init c = search search_begin

pub returns-then-calls_absent : goal.returns-then-calls_absent
returns-then-calls_absent c = rw c.at-then-calls_absent.ensures (search search_found)

pub loop-i-preserved : goal.loop-i-preserved
loop-i-preserved c = search search_more

pub returns : goal.returns
returns c = search search_none
