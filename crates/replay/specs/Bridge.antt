-- The verdict for the sheet handed on, or its refusal. Assumes nothing.
use Rattle.std.specs.Prelude.{◌≡◌, List, ℕ, Result}
use Rattle.model.specs.Limits.{boards}
use Rattle.model.specs.Refusal.{Out}
use Rattle.model.specs.Order.{Scenario}
use Rattle.model.specs.Replay.{replay_for}
use Rattle.model.specs.Waits.{each_board, wait_for}
use Rattle.outcome.specs.declared.Refusal.{Refusal}
use Rattle.trace_steps.specs.declared.Outcome.{Outcome}
use Rattle.trace_answer.specs.Numbers.{verdict_in, waits_in}

pub record Judged (o : Out Scenario) (code : ℕ) (trace : List ℕ) (r : Result Outcome Refusal) : Type 0 where
  pub verdict : verdict_in r ≡ replay_for o code trace
  pub numbers : waits_in r ≡ each_board boards (wait_for o code trace)
