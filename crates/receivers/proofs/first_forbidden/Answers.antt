-- `receivers::first_forbidden` meets its contract: the loop keeps that no message passed is forbidden. Assumes nothing.
use borrow.Author.Rules.{rules}
use Rattle.receivers.proofs.Looking.{passed_none, on_a_board, board_fits, forbidden_here, permitted_here, forbidden_nowhere}
use Rattle.receivers.proofs.first_forbidden.Goals as goal

pub loop-m-init : goal.loop-m-init
loop-m-init c = (passed_none _ _, search rules)

pub offset_bounds-permitted-sender : goal.offset_bounds-permitted-sender
offset_bounds-permitted-sender c = search board_fits

pub bounds-permitted-sender : goal.bounds-permitted-sender
bounds-permitted-sender c = search on_a_board

pub returns-then-not-in_set : goal.returns-then-not-in_set
returns-then-not-in_set c = search forbidden_here

pub loop-m-preserved : goal.loop-m-preserved
loop-m-preserved c = (search permitted_here, search rules)

pub returns : goal.returns
returns c = search forbidden_nowhere
