-- A monitor's state as the model's, its answers, and what the parts of the calls say. Assumes nothing.
use Rattle.std.specs.Prelude.{◌≡◌, Bool, true, false, ℕ, ◌<◌, ◌≤◌, ◌⊎◌, Ok, Err, Result}
use Rattle.model.specs.Limits.{channels, scratch_least}
use Rattle.outcome.specs.declared.Reason.TheVariants.{Channel, Bench}
use Rattle.outcome.specs.declared.Refusal.{Refusal}
use Rattle.outcome.specs.Refusals.{number_in}
use Rattle.std.proofs.Math.Option.{Option}
use Rattle.model.specs.Refusal.{Out, ok, refusal, switch_refusal}
use Rattle.model.specs.Order.{Scenario}
use Rattle.model.specs.Run as runs
use Rattle.model.specs.Monitor as model
use Rattle.model.specs.Monitor.{Held, taken_word, forbidden_word, refused_word, is_barred, may_take, taking}
use Rattle.run.specs.declared.Run.{Run}
use Rattle.run.specs.State.{state_of, run_of, OnlySends, start_run}
use Rattle.monitor.specs.declared.Monitor.{Monitor}
use Rattle.monitor.specs.declared.MonitorAnswer.{MonitorAnswer}

abbrev pub held_in : Monitor → Held
held_in m = record { state = state_of m.run; code = m.code }

-- the monitor of a state and a code, word by word
abbrev pub monitor_of : Held → Monitor
monitor_of h = record { run = run_of h.state; code = h.code }

-- all zeros but for the code
abbrev pub zeros : ℕ → Monitor
zeros code = record { run = start_run; code = code }

abbrev pub answer_in : MonitorAnswer → model.MonitorAnswer Monitor
answer_in r = record { word = r.word; one = r.one; two = r.two; next = r.next }

abbrev pub refused_as : ℕ → ℕ → Monitor → model.MonitorAnswer Monitor
refused_as number line m = record { word = refused_word; one = number; two = line; next = m }

abbrev pub forbidden_as : Monitor → model.MonitorAnswer Monitor
forbidden_as m = record { word = forbidden_word; one = 0; two = 0; next = m }

abbrev pub taken_as : Run → ℕ → model.MonitorAnswer Monitor
taken_as run code = record { word = taken_word; one = 0; two = 0; next = record { run = run; code = code } }

-- what a call comes to, as C gets it, with the monitor as the call leaves it: taken or not, where the rule forbids a step; or the refusal
abbrev pub answer_of : Monitor → Result Bool Refusal → model.MonitorAnswer Monitor
answer_of next (Ok true) = taken_as next.run next.code
answer_of next (Ok false) = forbidden_as next
answer_of next (Err r) = refused_as (number_in r.reason) r.line next

-- a code that is a channel's and a scratch that is long enough, or refusal 1 or 2
abbrev pub Lends : ℕ → ℕ → Result (Unit {0}) Refusal → Type 0
Lends code n (Ok u) = (code < channels) × (scratch_least ≤ n)
Lends code n (Err r) =
    ((channels ≤ code) × (r ≡ record { reason = Channel; line = 0 }))
    ⊎ ((code < channels) × (n < scratch_least) × (r ≡ record { reason = Bench; line = 0 }))

-- all zeros with the code, or the sheet's refusal
abbrev pub Begins : Out Scenario → ℕ → model.MonitorAnswer Monitor → Type 0
Begins (ok S) code r = r ≡ taken_as start_run code
Begins (refusal number line) code r = r ≡ refused_as number line (zeros 0)

-- the step told is taken or forbidden by the rules, or the sheet is refused
pub record Takes (S : Scenario) (m : Monitor) (told : Option runs.Step) (r : model.MonitorAnswer Monitor) : Type 0 where
  pub taken : may_take S (held_in m) told ≡ true → (r.word ≡ taken_word) × (r.one ≡ 0) × (r.two ≡ 0)
  pub monitor : may_take S (held_in m) told ≡ true → OnlySends m.run → r.next ≡ monitor_of (taking S (held_in m) told)
  pub forbidden : may_take S (held_in m) told ≡ false → r ≡ forbidden_as m

abbrev pub Steps : Out Scenario → Monitor → Option runs.Step → model.MonitorAnswer Monitor → Type 0
Steps (ok S) m told r = Takes S m told r
Steps (refusal number line) m told r = r ≡ refused_as number line m

-- the switch is barred by the state or made, or the sheet is refused
pub record Made (m : Monitor) (code : ℕ) (r : model.MonitorAnswer Monitor) : Type 0 where
  pub barred : is_barred code (state_of m.run) ≡ true → r ≡ refused_as switch_refusal 0 m
  pub made : is_barred code (state_of m.run) ≡ false → r ≡ taken_as m.run code

abbrev pub Switches : Out Scenario → Monitor → ℕ → model.MonitorAnswer Monitor → Type 0
Switches (ok S) m code r = Made m code r
Switches (refusal number line) m code r = r ≡ refused_as number line m
