-- "Refusal table" and "Sheets to try": the answer for a text, a code and the lengths of the two buffers; what the
-- buffers hold behind the call; and the word and three numbers of each answer. Assumes nothing.
use Rattle.std.specs.Prelude.{ℕ, ◌*◌, Bool, cond, ◌||◌, List, [], ◌++◌, ltb, leb, length, drop, replicate}
use Rattle.std.proofs.Math.Option.{none, some}
use Rattle.model.specs.Limits.{channels, scratch_least, trace_least}
use Rattle.model.specs.Refusal.{Out, ok, refusal, and_then, channel_refusal, bench_refusal}
use Rattle.model.specs.Rows.{Row}
use Rattle.model.specs.Place.{read_of}
use Rattle.model.specs.Expansion.{expand}
use Rattle.model.specs.Order.{Exchange, Scenario, nothing_met, met_ops, exchange_of, scenario_of}
use Rattle.model.specs.Channel.{channel_of}
use Rattle.model.specs.Run.{Step}
use Rattle.model.specs.Race.{race_rule_of, lowest_race}
use Rattle.model.specs.Schedule.{schedule, bytes_of}

-- the scenario of the rows read, on a list of options, or refusal 8 to 10 or 13; that it has no circle is a theorem (specs/NoCircle)
unfoldable pub expanded_with : List Bool → List Row → Out Scenario
expanded_with options file = and_then (expand met_ops options file nothing_met) (λ s. ok (scenario_of (exchange_of s)))

-- the scenario of rows without an A row, which no list is asked for: refusal 8 to 10
abbrev pub expanded_of : List Row → Out Scenario
expanded_of file = expanded_with [] file

-- the scenario of a text, or refusal 3 to 11
unfoldable pub sheet_of : List ℕ → Out Scenario
sheet_of text = and_then (read_of text) expanded_of

-- the exchange that a walk of the rows meets, on a list of options, and that which the walk of a text meets; or the refusal
unfoldable pub exchange_with : List Bool → List Row → Out Exchange
exchange_with options file = and_then (expand met_ops options file nothing_met) (λ s. ok (exchange_of s))

unfoldable pub exchange_met : List ℕ → Out Exchange
exchange_met text = and_then (read_of text) (exchange_with [])

-- A sheet is accepted, with its channel and the buffers lent, if no line of the refusal table applies.
unfoldable pub accepted_of : List ℕ → ℕ → ℕ → ℕ → Out Scenario
accepted_of text code scratch_length trace_length =
    cond (ltb code channels)
    (cond (ltb scratch_length scratch_least || ltb trace_length trace_least) (refusal bench_refusal 0) (sheet_of text))
    (refusal channel_refusal 0)

-- Locked names the race, message and event number, and the steps that stop the boards; refused gives number and line.
pub data Answer : Type 0 where
  free : Answer
  locked : ℕ → ℕ → List Step → Answer
  refused : ℕ → ℕ → Answer

-- the answer for an accepted sheet: the race named, and the schedule for its message
unfoldable pub verdict_of : Scenario → ℕ → Answer
verdict_of S code =
    elim (lowest_race S (race_rule_of code)) [
      | none ↦ free
      | some race ↦ locked race.0 race.1 (schedule S (channel_of code) race.0)
    ]

unfoldable pub answer_for : Out Scenario → ℕ → Answer
answer_for (ok S) code = verdict_of S code
answer_for (refusal number line) code = refused number line

unfoldable pub answer_of : List ℕ → ℕ → ℕ → ℕ → Answer
answer_of text code scratch_length trace_length = answer_for (accepted_of text code scratch_length trace_length) code

-- the first `scratch_least` words of the scratch are zero and the rest are unchanged
abbrev pub scratch_cleared : List ℕ → List ℕ
scratch_cleared words = replicate scratch_least 0 ++ drop scratch_least words

-- The scratch behind a call that hands on the sheet or a refusal: refusals 1 and 2 do not touch it, and behind every other call it is
-- cleared.
unfoldable pub scratch_behind : {A : Type 0} → Out A → List ℕ → List ℕ
scratch_behind (ok a) words = scratch_cleared words
scratch_behind (refusal number line) words = cond (leb number bench_refusal) words (scratch_cleared words)

-- the trace buffer changes only on "locked", in the bytes of the steps reported
unfoldable pub trace_after : Answer → List ℕ → List ℕ
trace_after free trace = trace
trace_after (locked e x ts) trace = bytes_of ts ++ drop (2 * length ts) trace
trace_after (refused number line) trace = trace

-- The word of an answer, as a number, and the three numbers printed behind it.
abbrev pub free_word : ℕ
free_word = 0

abbrev pub locked_word : ℕ
locked_word = 1

abbrev pub refused_word : ℕ
refused_word = 2

pub record Numbers : Type 0 where
  pub word : ℕ
  pub one : ℕ
  pub two : ℕ
  pub three : ℕ

-- 0 0 0 for free; e, x and the step count for locked; the refusal's number, its line and 0 for refused
abbrev pub numbers_of : Answer → Numbers
numbers_of free = record { word = free_word; one = 0; two = 0; three = 0 }
numbers_of (locked e x ts) = record { word = locked_word; one = e; two = x; three = length ts }
numbers_of (refused number line) = record { word = refused_word; one = number; two = line; three = 0 }
