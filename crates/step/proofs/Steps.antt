-- A step by its kind and its message. Assumes nothing.
use Prim.Native.Nat.{ℕ, ◌*◌, ◌<◌}
use native.Mathlib.Omega.{arith}
use Rattle.step.specs.declared.Step.{Step}
use Rattle.step.specs.declared.Step.TheVariants.{Send, Deliver, Consume}
use Rattle.step.specs.Steps.{message_in, event_in}

-- the event of a step on one of `count` messages is one of theirs
pub event_inside : (s : Step) (count : ℕ) → message_in s < count → event_in s < 2 * count
event_inside (Send m) count h = omega arith
event_inside (Deliver m) count h = omega arith
event_inside (Consume m) count h = omega arith
