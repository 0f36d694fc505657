-- `queue_moves::closed_up` meets its contract. Assumes nothing.
use Prim.Native.Nat.{◌-◌}
use Rattle.queue_moves.proofs.Turns.{inside, moved_none, moved_one, moved_all, moved_counted}
use borrow.Author.Rules.{rules}
use Rattle.queue_moves.proofs.closed_up.Goals as goal

pub overflow_sub-last : goal.overflow_sub-last
overflow_sub-last c = let i = inside _ _ _ c.requires.counted c.requires.at_in_bounds in search rules

pub loop-i-init : goal.loop-i-init
loop-i-init c = search moved_none

pub loop-i-preserved : goal.loop-i-preserved
loop-i-preserved c = search moved_one

pub returns : goal.returns
returns c = (search moved_all, search moved_counted)
