-- The run state behind a step. Assumes nothing.
use Rattle.std.specs.Prelude.{◌≡◌, List, ℕ, ◌+◌, ◌*◌}
use Rattle.model.specs.Run as model
use Rattle.model.specs.Run.{next}
use Rattle.relation.specs.Scenario.{scenario_in}
use Rattle.step.specs.declared.Step.{Step}
use Rattle.step.specs.declared.Step.TheVariants as step
use Rattle.run.specs.declared.Run.{Run}
use Rattle.run.specs.State.{With, Without, state_of, OnlySends}

-- what the step makes of the events done, of the messages under way, and of what its receiver's buffer holds
abbrev pub DoneBehind : List ℕ → Step → List ℕ → Type 0
DoneBehind row (step.Send m) r = With row (2 * m) r
DoneBehind row (step.Deliver m) r = r ≡ row
DoneBehind row (step.Consume m) r = With row (2 * m + 1) r

abbrev pub WayBehind : List ℕ → Step → List ℕ → Type 0
WayBehind row (step.Send m) r = With row (2 * m) r
WayBehind row (step.Deliver m) r = Without row (2 * m) r
WayBehind row (step.Consume m) r = r ≡ row

abbrev pub HeldBehind : List ℕ → Step → List ℕ → Type 0
HeldBehind row (step.Send m) r = r ≡ row
HeldBehind row (step.Deliver m) r = With row (2 * m) r
HeldBehind row (step.Consume m) r = Without row (2 * m) r

-- the state behind a step, event k being on board `get_or on k 0`, whatever else the scenario has
abbrev pub Follows : List ℕ → Run → model.Step → Run → Type 0
Follows on run t behind =
    (count : ℕ) (words : List ℕ) → state_of behind ≡ next (scenario_in count on words) (state_of run) t

-- the run behind a step: its state, and no bits but those of sends in what is under way and held, where there were none
pub record NextRun (on : List ℕ) (run : Run) (t : model.Step) (behind : Run) : Type 0 where
  pub state : Follows on run t behind
  pub sends : OnlySends run → OnlySends behind
