-- `schedule::schedule` meets its contract. The loop keeps `Goes`. Assumes nothing.
use borrow.Author.Rules.{rules}
use native.Mathlib.Omega.{arith}
use Rattle.schedule.proofs.Running.{goes_start, next_fits, step_few, step_reaches, goes_on, goes_stops, goes_ends}
use Rattle.schedule.proofs.schedule.Goals as goal

pub loop-i-init : goal.loop-i-init
loop-i-init c = search goes_start

pub returns-in_default : goal.returns-in_default
returns-in_default c = search goes_stops

pub write_step-requires : goal.write_step-requires
write_step-requires c = record { i_in_bounds = search rules; step_bound = search step_few }

pub target_of-target-requires : goal.target_of-target-requires
target_of-target-requires c = step_reaches _ _ _ _ _ _ _ _ _ _ _ _ _ c.loop-i.invariant c.choose.result _ c.choose.ensures c.in-Some.is

pub done_behind-requires : goal.done_behind-requires
done_behind-requires c = search step_few

pub way_behind-requires : goal.way_behind-requires
way_behind-requires c = search step_few

pub held_behind-requires : goal.held_behind-requires
held_behind-requires c = step_few _ _ _ _ _ _ _ _ _ _ _ _ _ c.loop-i.invariant c.choose.result _ c.choose.ensures c.in-Some.is

pub held_behind-requires-in-loop-i : goal.held_behind-requires-in-loop-i
held_behind-requires-in-loop-i c = step_few _ _ _ _ _ _ _ _ _ _ _ _ _ c.loop-i.invariant c.choose.result _ c.choose.ensures c.in-Some.is

pub lay_row-requires : goal.lay_row-requires
lay_row-requires c = omega (arith, c.target_of-target.ensures.below)

pub overflow_step-i : goal.overflow_step-i
overflow_step-i c = record { fits = (next_fits _ _ _ _ _ _ _ _ _ _ _ _ _ c.loop-i.invariant c.loop-i-test.true).fits }

pub loop-i-preserved : goal.loop-i-preserved
loop-i-preserved c = goes_on _ _ _ _ _ _ _ _ _ _ _ _ _ c.loop-i.invariant c.choose.result _ c.choose.ensures c.in-Some.is _ _ _ _ _ _ _ _ _
    c.write_step.ensures c.target_of-target.ensures c.done_behind.ensures c.way_behind.ensures c.held_behind.ensures c.held_behind-in-loop-i.ensures c.lay_row.ensures c.loop-i-test.true

pub returns : goal.returns
returns c = search goes_ends
