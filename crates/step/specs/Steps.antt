-- From the code's steps to the model's. Assumes nothing.
use Rattle.std.proofs.Math.Option.{Option, none, some}
use Rattle.std.specs.Prelude as code
use Rattle.std.specs.Prelude.{ℕ, Some, None, ◌+◌, ◌*◌}
use Rattle.model.specs.Run as model
use Rattle.model.specs.Schedule.{message_of_step}
use Rattle.step.specs.declared.Step.{Step}
use Rattle.step.specs.declared.Step.TheVariants as step

abbrev pub step_in : Step → model.Step
step_in (step.Send m) = model.send m
step_in (step.Deliver m) = model.deliver m
step_in (step.Consume m) = model.consume m

abbrev pub step_or_none : code.Option Step → Option model.Step
step_or_none (Some s) = some (step_in s)
step_or_none None = none

abbrev pub message_in : Step → ℕ
message_in s = message_of_step (step_in s)

-- the event on whose board the step is taken
abbrev pub event_in : Step → ℕ
event_in (step.Send m) = 2 * m
event_in (step.Deliver m) = 2 * m + 1
event_in (step.Consume m) = 2 * m + 1
