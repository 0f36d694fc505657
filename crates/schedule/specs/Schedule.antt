-- The schedule's promise. Assumes nothing.
use Rattle.std.specs.Prelude.{◌≡◌, List, ◌++◌, ℕ, ◌*◌, length, drop}
use Rattle.model.specs.Order.{Scenario}
use Rattle.model.specs.Channel.{Channel}
use Rattle.model.specs.Schedule.{schedule, bytes_of}

-- the number of steps counted, and the trace buffer: the schedule's bytes, and all others as they were
pub record Scheduled (S : Scenario) (c : Channel) (e : ℕ) (before behind : List ℕ) (steps : ℕ) : Type 0 where
  pub count : steps ≡ length (schedule S c e)
  pub trace : behind ≡ bytes_of (schedule S c e) ++ drop (2 * length (schedule S c e)) before
