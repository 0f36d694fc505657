-- What the search for the event that a board waits for says, of every run with these events done and this buffer of a board.
-- Assumes nothing.
use Rattle.std.specs.Prelude.{◌≡◌, cond, List, ℕ}
use Rattle.model.specs.Order.{Scenario, receive_of}
use Rattle.model.specs.Run.{State}
use Rattle.model.specs.Waits as waits
use Rattle.relation.specs.Scenario.{scenario_in}
use Rattle.run.specs.declared.Buffer.{Buffer}
use Rattle.run.specs.declared.Run.{Run}
use Rattle.run.specs.State.{buffer_of, state_of}
use Rattle.readiness.specs.declared.Readiness.{Readiness}
use Rattle.readiness.specs.Says.{readiness_in}

-- the readiness of m's receive, where board b's buffer holds m
abbrev pub held_readiness : Scenario → State → ℕ → ℕ → waits.Readiness
held_readiness S s b m = cond (s.holds b m) (waits.readiness S s (receive_of m)) waits.is_ready

-- what holds of every run, and of every board of it, with these events done and this buffer
abbrev pub OfBoards : List ℕ → Buffer → (Run → ℕ → Type 0) → Type 0
OfBoards done buffer P = (run : Run) (b : ℕ) → run.done ≡ done → buffer_of run b ≡ buffer → P run b

module _ (count : ℕ) (on words done : List ℕ) (buffer : Buffer) where
  abbrev pub SaysHeld : ℕ → Readiness → Type 0
  SaysHeld m r = OfBoards done buffer (λ run b. readiness_in r ≡ held_readiness (scenario_in count on words) (state_of run) b m)

  abbrev pub SaysWait : ℕ → Type 0
  SaysWait r = OfBoards done buffer (λ run b. r ≡ waits.wait_of (scenario_in count on words) (state_of run) b)
