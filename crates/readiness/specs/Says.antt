-- What the readiness of an event says, of every run with these events done. Assumes nothing.
use Rattle.std.specs.Prelude.{◌≡◌, List, ℕ}
use Rattle.model.specs.Order.{event}
use Rattle.model.specs.Waits as waits
use Rattle.relation.specs.Scenario.{scenario_in}
use Rattle.run.specs.declared.Run.{Run}
use Rattle.run.specs.State.{state_of}
use Rattle.readiness.specs.declared.Readiness.{Readiness}
use Rattle.readiness.specs.declared.Readiness.TheVariants.{Ready, Done, Waits}

-- the code's readiness as the model's
abbrev pub readiness_in : Readiness → waits.Readiness
readiness_in Ready = waits.is_ready
readiness_in Done = waits.is_done
readiness_in (Waits k) = waits.waits_for k

-- the readiness of event x of `count` messages, event k being on board `get_or on k 0`, in every run with these events done
abbrev pub SaysReadiness : ℕ → List ℕ → List ℕ → List ℕ → ℕ → Readiness → Type 0
SaysReadiness count on words done x r =
    (run : Run) → run.done ≡ done → readiness_in r ≡ waits.readiness (scenario_in count on words) (state_of run) (event x)
