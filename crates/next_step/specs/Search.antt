-- What the search for the next step says. Assumes nothing.
use Rattle.std.specs.Prelude.{◌≡◌, Bool, ◌&&◌, List, [], ◌∷◌, ℕ, Option}
use Rattle.model.specs.Run.{allowed}
use Rattle.model.specs.Schedule.{choose, classes_for}
use Rattle.relation.specs.Scenario.{scenario_in}
use Rattle.channel_table.specs.declared.Channel.{Channel}
use Rattle.channel_table.specs.Table.{channel_in}
use Rattle.run.specs.declared.Run.{Run}
use Rattle.step.specs.declared.Step.{Step}
use Rattle.step.specs.Steps.{step_or_none}
use Rattle.run.specs.State.{state_of}
use Rattle.buffers.specs.Held.{HeldIn}
use Rattle.step_classes.specs.declared.Class.{Class}
use Rattle.step_classes.specs.Classes.{class_in}

-- what holds of every run with these parts: what is done, what is under way, and the rows of the buffers
abbrev pub OfRuns : List ℕ → List ℕ → List ℕ → (Run → Type 0) → Type 0
OfRuns done way rows P = (run : Run) → run.done ≡ done → run.way ≡ way → HeldIn run rows → P run

-- message m is of the class, and its step is allowed
abbrev pub fits : ℕ → List ℕ → List ℕ → Channel → Run → ℕ → Class → ℕ → Bool
fits count boards words c run e class m =
    (class_in (scenario_in count boards words) e class).takes m
    && allowed (scenario_in count boards words) (channel_in c) (state_of run) ((class_in (scenario_in count boards words) e class).step m)

module _ (count : ℕ) (boards words : List ℕ) (c : Channel) where
  -- message m is of the class and its step is allowed, in every run with these parts
  abbrev pub Fits : List ℕ → List ℕ → List ℕ → ℕ → Class → ℕ → Bool → Type 0
  Fits done way rows e class m r = OfRuns done way rows (λ run. r ≡ fits count boards words c run e class m)

  -- what the schedule for e would take next, had it this class alone
  abbrev pub Lowest : List ℕ → List ℕ → List ℕ → ℕ → Class → Option Step → Type 0
  Lowest done way rows e class r =
      OfRuns done way rows (λ run.
      step_or_none r ≡ choose (scenario_in count boards words) (channel_in c) (class_in (scenario_in count boards words) e class ∷ []) (state_of run))

  -- what the schedule for e takes next, in the run's state
  abbrev pub Chosen : Run → ℕ → Option Step → Type 0
  Chosen run e r =
      step_or_none r ≡ choose (scenario_in count boards words) (channel_in c) (classes_for (scenario_in count boards words) e) (state_of run)

  -- the same of every run with these parts
  abbrev pub ChosenIn : List ℕ → List ℕ → List ℕ → ℕ → Option Step → Type 0
  ChosenIn done way rows e r = OfRuns done way rows (λ run. Chosen run e r)
