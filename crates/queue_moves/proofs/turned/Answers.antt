-- `queue_moves::turned` meets its contract. Assumes nothing.
use Rattle.queue_moves.proofs.Turns.{inside, some_held, turned_last, turned_again, turn_fits}
use borrow.Author.Rules.{rules}
use Rattle.queue_moves.proofs.turned.Goals as goal

pub closed_up-rest-requires : goal.closed_up-rest-requires
closed_up-rest-requires c = record { counted = search rules; at_in_bounds = search some_held }

pub returns-then-is_last : goal.returns-then-is_last
returns-then-is_last c = turned_last c.args.queue c.args.head c.requires.0 c.closed_up-rest.result _ c.closed_up-rest.ensures _ c.is_last.ensures c.if-is_last.true

pub overflow_add-again : goal.overflow_add-again
overflow_add-again c = let more = turn_fits _ _ c.is_last.ensures c.if-is_last.false (search rules) in search rules

pub overflow_sub-last : goal.overflow_sub-last
overflow_sub-last c = inside c.args.queue _ 0 c.requires.1 (some_held c.args.queue c.args.head c.requires.0)

pub returns : goal.returns
returns c = turned_again c.args.queue c.args.head c.requires.0 c.closed_up-rest.result _ c.closed_up-rest.ensures
    (inside c.args.queue _ 0 c.requires.1 (some_held c.args.queue c.args.head c.requires.0)) _ c.is_last.ensures c.if-is_last.false
