-- What the tests of each kind of step say. Assumes nothing.
use Rattle.std.specs.Prelude.{◌≡◌, Bool, true, false, not, List, ℕ, get_or}
use Rattle.model.specs.Run.{board_free, allowed}
use Rattle.relation.specs.Scenario.{scenario_in}
use Rattle.channel_table.specs.declared.Channel.{Channel}
use Rattle.channel_table.specs.Table.{channel_in}
use Rattle.run.specs.declared.Run.{Run}
use Rattle.step.specs.declared.Step.{Step}
use Rattle.step.specs.declared.Step.TheVariants as step
use Rattle.step.specs.Steps.{step_in, event_in}
use Rattle.run.specs.State.{state_of}
use Rattle.rules.specs.Rules.{free_in, BufferRow}

-- a send or a delivery on a board that is not free, its buffer being row y of those held
abbrev pub held_up : Bool → List ℕ → List ℕ → ℕ → Step → Bool
held_up eager masks held y (step.Send m) = not (free_in eager masks held y)
held_up eager masks held y (step.Deliver m) = not (free_in eager masks held y)
held_up eager masks held y (step.Consume m) = false

-- the scenario of `count` messages, event k being on board `get_or on k 0`
module _ (count : ℕ) (on words : List ℕ) where
  -- the step is allowed in the state of the run
  abbrev pub Says : Channel → Run → Step → Bool → Type 0
  Says c run step r = r ≡ allowed (scenario_in count on words) (channel_in c) (state_of run) (step_in step)

  -- the same of every run with these events done and these messages under way, in which the board of the step is free
  abbrev pub SaysFree : Channel → List ℕ → List ℕ → Step → Bool → Type 0
  SaysFree c done way step r =
      (run : Run) → run.done ≡ done → run.way ≡ way → board_free (scenario_in count on words) (channel_in c) (state_of run) (get_or on (event_in step) 0) ≡ true
      → Says c run step r

  -- of every run with these events done, these messages under way, and row y of those held as the buffer of the step's board
  abbrev pub SaysRow : Channel → List ℕ → List ℕ → List ℕ → ℕ → Step → Bool → Type 0
  SaysRow c done way held y step r =
      (run : Run) → run.done ≡ done → run.way ≡ way → BufferRow run (get_or on (event_in step) 0) held y → Says c run step r
