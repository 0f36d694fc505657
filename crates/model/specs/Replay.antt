-- Request (a), traces from other tools: what the step rules say of a trace, step by step, and what the call promises.
-- Assumes nothing.
use Rattle.std.specs.Prelude.{ℕ, suc, ◌+◌, ◌*◌, ◌%◌, ◌<◌, ◌≤◌, ◌≡◌, ◌↔◌, Bool, false, cond, ◌&&◌, List, [], ◌∷◌, eqb, leb, ltb, length, take, get_or}
use Rattle.std.proofs.Math.Option.{Option, none, some}
use Rattle.model.specs.Limits.{channels, scratch_least, trace_least}
use Rattle.model.specs.Refusal.{Out, ok, refusal, channel_refusal, bench_refusal, trace_refusal}
use Rattle.model.specs.Order.{Scenario}
use Rattle.model.specs.Channel.{Channel, channel_of}
use Rattle.model.specs.Run.{State, start, Step, next, allowed, after, finished, stuck, IsOrder, EndsStuck, EndsFinished}
use Rattle.model.specs.Schedule.{bytes_of, step_told}
use Rattle.model.specs.Answer.{locked, sheet_of, answer_of, scratch_behind}
use Rattle.model.specs.Verdict.{Meets}

-- finished, stuck, still open, or the index, from 0, of the first step that is not allowed; or refused with number and line
pub data Replay : Type 0 where
  finishes : Replay
  sticks : Replay
  open' : Replay
  not_allowed : ℕ → Replay
  refused : ℕ → ℕ → Replay

-- the steps that a trace tells, two bytes a step; a wrong step code is no step
unfoldable pub steps_in : List ℕ → List (Option Step)
steps_in [] = []
steps_in (kind ∷ []) = []
steps_in (kind ∷ m ∷ bytes) = step_told kind m ∷ steps_in bytes

module _ (S : Scenario) (c : Channel) where
  -- the verdict on a trace that is at its end
  unfoldable pub standing : State → Replay
  standing s = cond (finished S s) finishes (cond (stuck S c s) sticks open')

  -- the verdict on what is left of a trace, i steps of it being taken; what is no step, or a step of an unknown message, is not allowed
  unfoldable pub replay_from : ℕ → State → List (Option Step) → Replay
  replay_from i s [] = standing s
  replay_from i s (none ∷ ts) = not_allowed i
  replay_from i s (some t ∷ ts) = cond (allowed S c s t) (replay_from (suc i) (next S s t) ts) (not_allowed i)

  unfoldable pub replay : List ℕ → Replay
  replay trace = replay_from 0 start (steps_in trace)

-- an even length of at most `trace_least` bytes (else refusal 12)
unfoldable pub is_trace : ℕ → Bool
is_trace n = eqb (n % 2) 0 && leb n trace_least

-- the sheet's scenario, unless refusal 1, 2 (no trace is lent to be written), 12 or one of the sheet's own applies
unfoldable pub replayable : List ℕ → ℕ → ℕ → ℕ → Out Scenario
replayable text code scratch_length trace_length =
    cond (ltb code channels)
    (cond (ltb scratch_length scratch_least) (refusal bench_refusal 0)
    (cond (is_trace trace_length) (sheet_of text) (refusal trace_refusal 0)))
    (refusal channel_refusal 0)

unfoldable pub replay_for : Out Scenario → ℕ → List ℕ → Replay
replay_for (ok S) code trace = replay S (channel_of code) trace
replay_for (refusal number line) code trace = refused number line

unfoldable pub replay_of : List ℕ → ℕ → ℕ → List ℕ → Replay
replay_of text code scratch_length trace = replay_for (replayable text code scratch_length (length trace)) code trace

-- The word of a verdict, as a number, and the two numbers behind it.
pub record ReplayNumbers : Type 0 where
  pub word : ℕ
  pub one : ℕ
  pub two : ℕ

abbrev pub finished_word : ℕ
finished_word = 0

abbrev pub stuck_word : ℕ
stuck_word = 1

abbrev pub open_word : ℕ
open_word = 2

abbrev pub not_allowed_word : ℕ
not_allowed_word = 3

abbrev pub refused_word : ℕ
refused_word = 4

-- the index of the step for not allowed; the refusal's number and its line for refused
abbrev pub replay_numbers : Replay → ReplayNumbers
replay_numbers finishes = record { word = finished_word; one = 0; two = 0 }
replay_numbers sticks = record { word = stuck_word; one = 0; two = 0 }
replay_numbers open' = record { word = open_word; one = 0; two = 0 }
replay_numbers (not_allowed i) = record { word = not_allowed_word; one = i; two = 0 }
replay_numbers (refused number line) = record { word = refused_word; one = number; two = line }

-- the first i steps are an allowed order, and step i, as its two bytes say, is no step or is not allowed in the state that they leave
pub record FirstForbidden (S : Scenario) (c : Channel) (trace : List ℕ) (i : ℕ) : Type 0 where
  pub inside : 2 * i + 1 < length trace
  pub steps : List Step
  pub bytes : bytes_of steps ≡ take (2 * i) trace
  pub is_order : IsOrder S c steps
  pub forbidden : (t : Step) → step_told (get_or trace (2 * i) 0) (get_or trace (2 * i + 1) 0) ≡ some t → allowed S c (after S start steps) t ≡ false

-- an allowed order that ends neither finished nor stuck
pub record EndsOpen (S : Scenario) (c : Channel) (ts : List Step) : Type 0 where
  pub is_order : IsOrder S c ts
  pub unfinished : finished S (after S start ts) ≡ false
  pub unstuck : stuck S c (after S start ts) ≡ false

-- What the verdict's numbers say of the whole list of steps that the trace tells.
pub record ByTheRules (S : Scenario) (c : Channel) (trace : List ℕ) (r : ReplayNumbers) : Type 0 where
  pub finished_when : (r.word ≡ finished_word) ↔ ((ts : List Step) × (bytes_of ts ≡ trace) × EndsFinished S c ts)
  pub stuck_when : (r.word ≡ stuck_word) ↔ ((ts : List Step) × (bytes_of ts ≡ trace) × EndsStuck S c ts)
  pub open_when : (r.word ≡ open_word) ↔ ((ts : List Step) × (bytes_of ts ≡ trace) × EndsOpen S c ts)
  pub not_allowed_when : (i : ℕ) → ((r.word ≡ not_allowed_word) × (r.one ≡ i)) ↔ FirstForbidden S c trace i

-- What a call gives, from what it was lent: the text, the code, the scratch at entry and the trace, which is only read.
pub record Replayed (text : List ℕ) (code : ℕ) (scratch scratch_exit trace : List ℕ) (r : ReplayNumbers) : Type 0 where
  -- the verdict is that of the step rules, or the refusal
  pub verdict : r ≡ replay_numbers (replay_of text code (length scratch) trace)
  pub scratch_left : scratch_exit ≡ scratch_behind (replayable text code (length scratch) (length trace)) scratch
  -- where no refusal applies, the scenario is what the walk of the text meets, and the verdict is right for whole orders
  pub causal_order : (S : Scenario) → replayable text code (length scratch) (length trace) ≡ ok S → Meets text S
  pub by_the_rules : (S : Scenario) → replayable text code (length scratch) (length trace) ≡ ok S → ByTheRules S (channel_of code) trace r
  -- an empty trace is finished on a sheet of no messages and otherwise open
  pub empty_trace : (S : Scenario) → replayable text code (length scratch) (length trace) ≡ ok S → trace ≡ []
      → r.word ≡ cond (eqb S.count 0) finished_word open_word
  -- the schedule's own traces come out stuck: where the check says locked, the steps that it handed back do
  pub schedules_stick : (scratch_length trace_length e x : ℕ) (ts : List Step) → answer_of text code scratch_length trace_length ≡ locked e x ts
      → trace ≡ bytes_of ts → scratch_least ≤ length scratch → r.word ≡ stuck_word
