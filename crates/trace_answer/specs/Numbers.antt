-- The numbers that C gets of a verdict on a trace, or of a refusal. Assumes nothing.
use Rattle.std.specs.Prelude.{◌≡◌, List, ℕ, ◌^◌, ◌<◌, Result, Ok, Err}
use Rattle.model.specs.Limits.{boards}
use Rattle.model.specs.Replay as model
use Rattle.model.specs.Waits.{no_wait, each_board}
use Rattle.outcome.specs.Refusals.{number_in}
use Rattle.outcome.specs.declared.Refusal.{Refusal}
use Rattle.trace_steps.specs.declared.Outcome.{Outcome}
use Rattle.trace_steps.specs.Bridge.{replay_in}
use Rattle.trace_answer.specs.declared.TraceCheckAnswer.{TraceCheckAnswer}

-- the verdict, refused among them
abbrev pub verdict_in : Result Outcome Refusal → model.Replay
verdict_in (Ok outcome) = replay_in outcome.verdict
verdict_in (Err r) = model.refused (number_in r.reason) r.line

-- what the boards wait for: on a refusal, for nothing
abbrev pub waits_in : Result Outcome Refusal → List ℕ
waits_in (Ok outcome) = outcome.waits
waits_in (Err r) = each_board boards (λ b. no_wait)

-- the first three numbers handed to C
abbrev pub numbers_in : TraceCheckAnswer → model.ReplayNumbers
numbers_in r = record { word = r.word; one = r.one; two = r.two }

-- the verdict's three, and the boards' sixteen
pub record Numbers (outcome : Result Outcome Refusal) (r : TraceCheckAnswer) : Type 0 where
  pub verdict : numbers_in r ≡ model.replay_numbers (verdict_in outcome)
  pub boards : r.waits ≡ waits_in outcome

-- the numbers behind the word fit 32 bits
pub record Small (r : model.ReplayNumbers) : Type 0 where
  pub one : r.one < 2 ^ 32
  pub two : r.two < 2 ^ 32
