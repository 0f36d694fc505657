-- Request (j), one verdict for FIFO, synchronous and token ring, and what a finished run does. The verdicts are read from the text, the code and
-- the lengths of the buffers lent, over the numbers that the check answers. Assumes nothing.
use Rattle.std.specs.Prelude.{ℕ, suc, ◌*◌, ◌<◌, ◌≤◌, ◌≡◌, ◌⊎◌, Bool, false, cond, List, [], ◌∷◌, ◌++◌, eqb, length}
use Rattle.model.specs.Limits.{channels}
use Rattle.model.specs.Refusal.{ok}
use Rattle.model.specs.Rows.{Row}
use Rattle.model.specs.Order.{Event, send_of, receive_of, number, message_of, Scenario}
use Rattle.model.specs.Channel.{channel_of}
use Rattle.model.specs.Run.{Step, send, deliver, consume, EndsFinished}
use Rattle.model.specs.Answer.{Numbers, free_word, locked_word, expanded_with, exchange_with, accepted_of, answer_of, numbers_of}
use Rattle.model.specs.Verdict.{IsMet, Meets}
use Rattle.model.specs.Choice.{Ahead, ChoiceAnswer, first_locked, choosable, choice_answer_of, ChoiceNumbers, choice_numbers, first_four}

-- the wired models: FIFO, synchronous and token ring
abbrev pub IsWired : ℕ → Type 0
IsWired code = (code ≡ 2) ⊎ ((code ≡ 4) ⊎ (code ≡ 5))

-- Two answers have the same word and the same two numbers behind it: the race's message and event where locked, 0 and 0 where free,
-- the refusal's number and line where refused. The steps may differ.
pub record SameVerdict (r s : Numbers) : Type 0 where
  pub word : r.word ≡ s.word
  pub one : r.one ≡ s.one
  pub two : r.two ≡ s.two

-- r is locked, at the same message as s or a lower one
pub record LockedNoHigher (r s : Numbers) : Type 0 where
  pub word : r.word ≡ locked_word
  pub message : r.one ≤ s.one

-- the numbers that the check answers
abbrev pub answered : List ℕ → ℕ → ℕ → ℕ → Numbers
answered text code scratch_length trace_length = numbers_of (answer_of text code scratch_length trace_length)

-- One verdict, for every text, whatever buffers are lent.
pub record OneVerdict (text : List ℕ) (scratch_length trace_length : ℕ) : Type 0 where
  -- a sheet is accepted on all six codes, as one and the same scenario, or refused on all six alike
  pub one_sheet : (code other : ℕ) → code < channels → other < channels
      → accepted_of text code scratch_length trace_length ≡ accepted_of text other scratch_length trace_length
  -- codes 2, 4 and 5 give the same word and the same race
  pub same_on_wired : (code other : ℕ) → IsWired code → IsWired other
      → SameVerdict (answered text code scratch_length trace_length) (answered text other scratch_length trace_length)
  -- a sheet locked there, or on any code, is locked on 0, at the same or a lower message
  pub locked_on_zero : (code : ℕ) → code < channels → (answered text code scratch_length trace_length).word ≡ locked_word
      → LockedNoHigher (answered text 0 scratch_length trace_length) (answered text code scratch_length trace_length)
  -- hence a sheet free on 0 is free on all six
  pub free_on_all : (answered text 0 scratch_length trace_length).word ≡ free_word → (code : ℕ) → code < channels
      → (answered text code scratch_length trace_length).word ≡ free_word

-- Over choice lists: the same word, the same race and the same list.
pub record SameChoiceVerdict (r s : ChoiceNumbers) : Type 0 where
  pub verdict : SameVerdict (first_four r) (first_four s)
  pub options : r.options ≡ s.options
  pub choices : r.choices ≡ s.choices

-- the answer is locked, on a list ahead of l, or on l itself at message e or a lower one
pub record LockedNoLater (a : ChoiceAnswer) (l : List Bool) (e : ℕ) : Type 0 where
  pub list : List Bool
  pub message : ℕ
  pub race_event : ℕ
  pub steps : List Step
  pub is_locked : a ≡ first_locked list message race_event steps
  pub no_later : Ahead list l ⊎ ((list ≡ l) × (message ≤ e))

-- the numbers that the check of choices answers
abbrev pub chosen : List ℕ → ℕ → ℕ → ℕ → ChoiceNumbers
chosen text code scratch_length trace_length = choice_numbers (choice_answer_of text code scratch_length trace_length)

-- One verdict over the choice lists of a file, for every text, whatever buffers are lent.
pub record OneChoiceVerdict (text : List ℕ) (scratch_length trace_length : ℕ) : Type 0 where
  -- codes 2, 4 and 5 give the same word and, where locked, the same first list and race
  pub same_on_wired : (code other : ℕ) → IsWired code → IsWired other
      → SameChoiceVerdict (chosen text code scratch_length trace_length) (chosen text other scratch_length trace_length)
  -- a file locked there, or on any code, is locked on 0, on the same list or one ahead of it; on the same list, at the same or a lower message
  pub locked_on_zero : (code : ℕ) → code < channels → (l : List Bool) (e x : ℕ) (ts : List Step)
      → choice_answer_of text code scratch_length trace_length ≡ first_locked l e x ts
      → LockedNoLater (choice_answer_of text 0 scratch_length trace_length) l e
  -- hence a file free on 0 is free on all six
  pub free_on_all : (chosen text 0 scratch_length trace_length).word ≡ free_word → (code : ℕ) → code < channels
      → (chosen text code scratch_length trace_length).word ≡ free_word

-- The events of a run, in its order: a send does the message's send, a consumption its receive, a delivery none.
unfoldable pub events_of : List Step → List Event
events_of [] = []
events_of (send m ∷ ts) = send_of m ∷ events_of ts
events_of (deliver m ∷ ts) = events_of ts
events_of (consume m ∷ ts) = receive_of m ∷ events_of ts

-- how often an event occurs in a list
unfoldable pub occurrences : Event → List Event → ℕ
occurrences x [] = 0
occurrences x (y ∷ ys) = cond (eqb (number x) (number y)) (suc (occurrences x ys)) (occurrences x ys)

-- The sends and consumptions of a run are a rearrangement of all the scenario's events, in an order that "before" allows.
pub record Rearranged (S : Scenario) (ts : List Step) : Type 0 where
  -- every event of the scenario occurs once, and no other occurs
  pub each_once : (x : Event) → message_of x < S.count → occurrences x (events_of ts) ≡ 1
  pub no_other : (x : Event) → S.count ≤ message_of x → occurrences x (events_of ts) ≡ 0
  -- so there are two a message
  pub how_many : length (events_of ts) ≡ 2 * S.count
  -- no event comes ahead of one that is before it, boards across too: wherever the run is cut in two, nothing behind the cut is before
  -- an event ahead of it
  pub allowed_by_before : (ahead behind : List Event) → events_of ts ≡ ahead ++ behind → (x y : Event) → 1 ≤ occurrences x ahead
      → 1 ≤ occurrences y behind → S.before y x ≡ false

-- Finished runs, for every text and code, whatever buffers are lent: whenever the sheet is accepted, its "before" is the paper's
-- relation, and the events of every finished run are such a rearrangement.
pub record FinishedRuns (text : List ℕ) (code scratch_length trace_length : ℕ) : Type 0 where
  pub causal_order : (S : Scenario) → accepted_of text code scratch_length trace_length ≡ ok S → Meets text S
  pub finished_run : (S : Scenario) → accepted_of text code scratch_length trace_length ≡ ok S
      → (ts : List Step) → EndsFinished S (channel_of code) ts → Rearranged S ts
  -- and so on any list of options of a file with A rows
  pub order_on_list : (file : List Row) (l : List Bool) (S : Scenario) → choosable text code scratch_length trace_length ≡ ok file
      → expanded_with l file ≡ ok S → IsMet (exchange_with l file) S
  pub finished_on_list : (file : List Row) (l : List Bool) (S : Scenario) → choosable text code scratch_length trace_length ≡ ok file
      → expanded_with l file ≡ ok S → (ts : List Step) → EndsFinished S (channel_of code) ts → Rearranged S ts
