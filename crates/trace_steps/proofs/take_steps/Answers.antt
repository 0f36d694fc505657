-- `trace_steps::take_steps` meets its contract. Assumes nothing.
use borrow.Author.Rules.{rules}
use Rattle.trace_steps.proofs.Going.{going_starts, steps_end, next_fits, step_there, tells_none, tells_not, step_inside, step_few, step_reaches, goes_on}
use Rattle.trace_steps.proofs.take_steps.Goals as goal

pub loop-i-init : goal.loop-i-init
loop-i-init c = search going_starts

pub step_at-requires : goal.step_at-requires
step_at-requires c = search step_there

pub returns-in_default : goal.returns-in_default
returns-in_default c = search tells_none

pub board_at-requires : goal.board_at-requires
board_at-requires c = search step_reaches

pub allowed-requires : goal.allowed-requires
allowed-requires c = record { step_bound = search step_inside }

pub returns-then-not-allowed : goal.returns-then-not-allowed
returns-then-not-allowed c = search tells_not

pub target_of-target-requires : goal.target_of-target-requires
target_of-target-requires c = search step_reaches

pub done_behind-requires : goal.done_behind-requires
done_behind-requires c = search step_few

pub way_behind-requires : goal.way_behind-requires
way_behind-requires c = search step_few

pub held_behind-requires : goal.held_behind-requires
held_behind-requires c = step_few _ _ _ _ c.args.trace.now c.loop-i.i _ _ c.step_at.ensures c.in-Some.is c.args.scenario.now.standing

pub overflow_step-i : goal.overflow_step-i
overflow_step-i c = search next_fits

pub loop-i-preserved : goal.loop-i-preserved
loop-i-preserved c = search goes_on

pub returns : goal.returns
returns c = search steps_end
