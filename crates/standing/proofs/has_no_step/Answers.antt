-- `standing::has_no_step` meets its contract. Assumes nothing.
use Rattle.standing.proofs.AtEnd.{without_step_starts, step_left, no_step_more, no_step_at_all}
use borrow.Author.Rules.{rules}
use Rattle.standing.proofs.has_no_step.Goals as goal

pub loop-m-init : goal.loop-m-init
loop-m-init c = search without_step_starts

pub returns-then-not-is_held_up : goal.returns-then-not-is_held_up
returns-then-not-is_held_up c = search (step_left, rules)

pub loop-m-preserved : goal.loop-m-preserved
loop-m-preserved c = search no_step_more

pub returns : goal.returns
returns c = search (no_step_at_all, rules)
