-- The verdict on a trace as the model's, and the number of each board. Assumes nothing.
use Rattle.std.specs.Prelude.{◌≡◌, cond, List, ℕ, ◌+◌, ◌*◌, ltb, get_or}
use Rattle.std.specs.Prelude as code
use Rattle.std.proofs.Math.Option.{Option, none, some}
use Rattle.model.specs.Limits.{boards}
use Rattle.model.specs.Order.{Scenario}
use Rattle.model.specs.Channel.{Channel}
use Rattle.model.specs.Run.{State, start, Step}
use Rattle.model.specs.Schedule.{message_of_step, step_told}
use Rattle.model.specs.Replay as model
use Rattle.model.specs.Waits.{no_wait, end_from, each_board, wait_by}
use Rattle.step.specs.declared.Step as steps
use Rattle.step.specs.Steps.{step_or_none}
use Rattle.trace_steps.specs.declared.Replay.{Replay}
use Rattle.trace_steps.specs.declared.Replay.TheVariants.{Finished, Stuck, Open, NotAllowed}
use Rattle.trace_steps.specs.declared.Outcome.{Outcome}

-- step i of a trace, for `count` messages: a step on any other is as good as none
abbrev pub known : ℕ → Option Step → Option Step
known count none = none
known count (some t) = cond (ltb (message_of_step t) count) (some t) none

abbrev pub StepAt : List ℕ → ℕ → ℕ → code.Option steps.Step → Type 0
StepAt trace i count r = step_or_none r ≡ known count (step_told (get_or trace (2 * i) 0) (get_or trace (2 * i + 1) 0))

abbrev pub replay_in : Replay → model.Replay
replay_in Finished = model.finishes
replay_in Stuck = model.sticks
replay_in Open = model.open'
replay_in (NotAllowed i) = model.not_allowed i

-- a verdict, and a number for each board
pub record Tells (v : model.Replay) (f : ℕ → ℕ) (r : Outcome) : Type 0 where
  pub verdict : replay_in r.verdict ≡ v
  pub numbers : r.waits ≡ each_board boards f

-- a verdict on which no board waits
abbrev pub Unwaited : Replay → Outcome → Type 0
Unwaited v r = Tells (replay_in v) (λ b. no_wait) r

-- the verdict on a trace whose steps lead to the state s, and on one from the start
abbrev pub Stood : Scenario → Channel → State → Outcome → Type 0
Stood S c s r = Tells (model.standing S c s) (wait_by (model.standing S c s) S s) r

abbrev pub Taken : Scenario → Channel → List ℕ → Outcome → Type 0
Taken S c trace r = Tells (model.replay S c trace) (wait_by (model.replay S c trace) S (end_from S start (model.steps_in trace))) r
