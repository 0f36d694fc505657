-- Request (k), several makers at the counter: a dispatcher of up to eight accepted jobs, its calls, and what they promise, of one call and
-- over whole lists of calls. Assumes nothing.
use Rattle.std.specs.Prelude.{ℕ, suc, ◌+◌, ◌*◌, ◌<◌, ◌≤◌, ◌≡◌, ◌↔◌, ◌⊎◌, Bool, true, false, not, cond, ◌&&◌, ◌||◌, List, [], ◌∷◌, ◌++◌, eqb, ltb, leb, length, get_or, take, drop, replicate}
use Rattle.std.proofs.Math.Option.{Option, none, some}
use Rattle.model.specs.Limits.{text_most, channels, scratch_least, trace_least, jobs_most, job_numbers, job_words_least, turns_most}
use Rattle.model.specs.Bounded.{among, each_once, lowest}
use Rattle.model.specs.Refusal.{Out, ok, refusal, channel_refusal, bench_refusal, length_refusal, jobs_refusal, held_refusal}
use Rattle.model.specs.Order.{Scenario}
use Rattle.model.specs.Closure.{cells}
use Rattle.model.specs.Answer.{sheet_of, Numbers, locked_word, answer_for, answer_of, numbers_of, trace_after}
use Rattle.model.specs.Verdict.{Meets, Verdict}

-- What every call is lent: the sheets, 8,192 bytes a place, of which the first `lengths p` are the sheet of place p; a code a place; and
-- the words, `scratch_least` a place.
pub record Lent : Type 0 where
  pub sheets : List ℕ
  pub lengths : List ℕ
  pub codes : List ℕ
  pub words : List ℕ

-- a length that its slice does not have counts as 0, a code as 6
unfoldable pub length_at : Lent → ℕ → ℕ
length_at l p = get_or l.lengths p 0

unfoldable pub code_at : Lent → ℕ → ℕ
code_at l p = get_or l.codes p channels

-- the sheet lent in place p: bytes that the slice does not have are not there
unfoldable pub sheet_at : Lent → ℕ → List ℕ
sheet_at l p = take (length_at l p) (take text_most (drop (text_most * p) l.sheets))

-- the words of place p
unfoldable pub place_words : ℕ → List ℕ → List ℕ
place_words p words = take scratch_least (drop (scratch_least * p) words)

-- A job held: its number and place, the code that it was admitted with, the messages that its walk meets, and the turns that it had.
pub record Job : Type 0 where
  pub number : ℕ
  pub place : ℕ
  pub code : ℕ
  pub count : ℕ
  pub turns : ℕ

-- The dispatcher: the jobs held, the head of the queue first, and how many numbers were given out.
pub record DispatcherState : Type 0 where
  pub queue : List Job
  pub given : ℕ

abbrev pub empty_dispatcher : DispatcherState
empty_dispatcher = record { queue = []; given = 0 }

unfoldable pub places_of : List Job → List ℕ
places_of [] = []
places_of (j ∷ js) = j.place ∷ places_of js

unfoldable pub numbers_in : List Job → List ℕ
numbers_in [] = []
numbers_in (j ∷ js) = j.number ∷ numbers_in js

-- no job is in the place
unfoldable pub is_free : DispatcherState → ℕ → Bool
is_free d p = not (among p (places_of d.queue))

-- the place that an admission takes: the lowest free one
unfoldable pub free_place : DispatcherState → Option ℕ
free_place d = lowest jobs_most (is_free d)

-- the words lent are too few
unfoldable pub words_short : Lent → Bool
words_short l = ltb (length l.words) job_words_least

-- The sheet of an admission in the lowest free place, unless it is refused: 1, 2, 16, 3 and then as the check. With no place free there is no new
-- sheet and no code to judge: 2, then 16.
unfoldable pub admissible : DispatcherState → Lent → Out Scenario
admissible d l =
    elim (free_place d) [
      | none ↦ cond (words_short l) (refusal bench_refusal 0) (refusal jobs_refusal 0)
      | some p ↦ cond (ltb (code_at l p) channels)
          (cond (words_short l) (refusal bench_refusal 0)
          (cond (ltb d.given job_numbers)
          (cond (ltb text_most (length_at l p)) (refusal length_refusal 0) (sheet_of (sheet_at l p)))
          (refusal jobs_refusal 0)))
          (refusal channel_refusal 0)
    ]

-- the new job has the next number, and goes behind the last
abbrev pub new_job : DispatcherState → ℕ → ℕ → ℕ → Job
new_job d p code count = record { number = d.given; place = p; code = code; count = count; turns = 0 }

unfoldable pub admitting : DispatcherState → ℕ → ℕ → ℕ → DispatcherState
admitting d p code count = record { queue = d.queue ++ (new_job d p code count ∷ []); given = suc d.given }

-- a job of n messages is answered on its own turn number 2n + 1
unfoldable pub is_last : Job → Bool
is_last j = leb (2 * j.count) j.turns

-- a turn takes the head of the queue; unanswered, it goes behind the last; answered, it leaves
unfoldable pub turned : List Job → List Job
turned [] = []
turned (j ∷ js) =
    cond (is_last j) js (js ++ (record { number = j.number; place = j.place; code = j.code; count = j.count; turns = suc j.turns } ∷ []))

-- a job cancelled leaves; the others stay in their order
unfoldable pub without : ℕ → List Job → List Job
without n [] = []
without n (j ∷ js) = cond (eqb j.number n) js (j ∷ without n js)

-- A call with what it is lent: an admission; a turn, with the trace; cancelling a number.
pub data Call : Type 0 where
  admit : Lent → Call
  turn : Lent → List ℕ → Call
  cancel : ℕ → Lent → Call

abbrev pub lent_to : Call → Lent
lent_to (admit l) = l
lent_to (turn l trace) = l
lent_to (cancel n l) = l

-- the trace lent: to a turn alone
abbrev pub trace_to : Call → List ℕ
trace_to (admit l) = []
trace_to (turn l trace) = trace
trace_to (cancel n l) = []

-- What a call answers: admitted, with the job's number and place; idle; a turn of a job, unanswered; a job answered; cancelled; refused, with
-- number and line.
pub data Outcome : Type 0 where
  admitted : ℕ → ℕ → Outcome
  idle : Outcome
  taken : ℕ → Outcome
  answered : ℕ → Outcome
  cancelled : ℕ → Outcome
  refused : ℕ → ℕ → Outcome

-- a turn's refusal 2 judges words and trace, also with no job held
unfoldable pub turn_short : Lent → List ℕ → Bool
turn_short l trace = words_short l || ltb (length trace) trace_least

unfoldable pub head_outcome : List Job → Outcome
head_outcome [] = idle
head_outcome (j ∷ js) = cond (is_last j) (answered j.number) (taken j.number)

-- an admission's answer, by the place that it takes and the sheet, or the refusal
unfoldable pub admission : DispatcherState → Option ℕ → Out Scenario → Outcome
admission d place (refusal number line) = refused number line
admission d none (ok S) = refused jobs_refusal 0
admission d (some p) (ok S) = admitted d.given p

unfoldable pub outcome_of : DispatcherState → Call → Outcome
outcome_of d (admit l) = admission d (free_place d) (admissible d l)
outcome_of d (turn l trace) = cond (turn_short l trace) (refused bench_refusal 0) (head_outcome d.queue)
outcome_of d (cancel n l) =
    cond (words_short l) (refused bench_refusal 0) (cond (among n (numbers_in d.queue)) (cancelled n) (refused held_refusal 0))

-- the dispatcher behind an admission, by the same
unfoldable pub admitted_to : DispatcherState → Lent → Option ℕ → Out Scenario → DispatcherState
admitted_to d l place (refusal number line) = d
admitted_to d l none (ok S) = d
admitted_to d l (some p) (ok S) = admitting d p (code_at l p) S.count

-- the dispatcher behind a call; idle turns and refusals leave it as it was
unfoldable pub behind : DispatcherState → Call → DispatcherState
behind d (admit l) = admitted_to d l (free_place d) (admissible d l)
behind d (turn l trace) = cond (turn_short l trace) d (record { queue = turned d.queue; given = d.given })
behind d (cancel n l) =
    cond (words_short l) d (cond (among n (numbers_in d.queue)) (record { queue = without n d.queue; given = d.given }) d)

-- The answer of a call as numbers: the word, two numbers, and on "answered" the check's own.
abbrev pub admitted_word : ℕ
admitted_word = 0

abbrev pub idle_word : ℕ
idle_word = 1

abbrev pub taken_word : ℕ
taken_word = 2

abbrev pub answered_word : ℕ
answered_word = 3

abbrev pub cancelled_word : ℕ
cancelled_word = 4

abbrev pub refused_word : ℕ
refused_word = 5

pub record Told : Type 0 where
  pub word : ℕ
  pub one : ℕ
  pub two : ℕ
  pub answer : Numbers

abbrev pub no_answer : Numbers
no_answer = record { word = 0; one = 0; two = 0; three = 0 }

-- the numbers of an outcome; those of the check are zero but on "answered"
abbrev pub told_as : Outcome → Numbers → Told
told_as (admitted n p) a = record { word = admitted_word; one = n; two = p; answer = no_answer }
told_as idle a = record { word = idle_word; one = 0; two = 0; answer = no_answer }
told_as (taken n) a = record { word = taken_word; one = n; two = 0; answer = no_answer }
told_as (answered n) a = record { word = answered_word; one = n; two = 0; answer = a }
told_as (cancelled n) a = record { word = cancelled_word; one = n; two = 0; answer = no_answer }
told_as (refused number line) a = record { word = refused_word; one = number; two = line; answer = no_answer }

-- refusals 1 and 2 touch nothing
unfoldable pub touches_nothing : Outcome → Bool
touches_nothing (admitted n p) = false
touches_nothing idle = false
touches_nothing (taken n) = false
touches_nothing (answered n) = false
touches_nothing (cancelled n) = false
touches_nothing (refused number line) = leb number bench_refusal

-- idle turns and refusals leave the dispatcher as it was
unfoldable pub leaves_all : Outcome → Bool
leaves_all (admitted n p) = false
leaves_all idle = true
leaves_all (taken n) = false
leaves_all (answered n) = false
leaves_all (cancelled n) = false
leaves_all (refused number line) = true

-- The words behind a call, from those lent.
pub record WordsLeft (d : DispatcherState) (c : Call) (exit : List ℕ) : Type 0 where
  -- refusals 1 and 2 do not touch them, and no call those behind the last place
  pub untouched : touches_nothing (outcome_of d c) ≡ true → exit ≡ (lent_to c).words
  pub length_kept : length exit ≡ length (lent_to c).words
  pub rest_kept : drop job_words_least exit ≡ drop job_words_least (lent_to c).words
  -- words of free places are zero, whatever they held
  pub free_zero : touches_nothing (outcome_of d c) ≡ false → (p : ℕ) → p < jobs_most → is_free (behind d c) p ≡ true
      → place_words p exit ≡ replicate scratch_least 0
  -- those of a job held before and behind the call are unchanged: its admission alone writes them
  pub held_kept : (p : ℕ) → p < jobs_most → is_free d p ≡ false → is_free (behind d c) p ≡ false
      → place_words p exit ≡ place_words p (lent_to c).words

-- What a call hands back: its numbers, and the dispatcher to go on with.
pub record Served (M : Type 0) : Type 0 where
  pub told : Told
  pub next : M

-- j is one of the jobs
abbrev pub Member : Job → List Job → Type 0
Member j [] = ⊥
Member j (k ∷ ks) = (j ≡ k) ⊎ Member j ks

-- what is so of every dispatcher that calls leave: each job has a place and a number of its own
pub record Orderly (d : DispatcherState) : Type 0 where
  pub places : each_once jobs_most (places_of d.queue) ≡ true
  pub numbers : each_once d.given (numbers_in d.queue) ≡ true

-- the check's answer for a scenario and a code, and the trace behind it
pub record AsTheCheck (S : Scenario) (code : ℕ) (trace trace_exit : List ℕ) (answer : Numbers) : Type 0 where
  pub numbers : answer ≡ numbers_of (answer_for (ok S) code)
  pub trace_left : trace_exit ≡ trace_after (answer_for (ok S) code) trace

-- What the calls give, for dispatchers M whose state `state_in` reads. `Holds` says that a dispatcher and the words of a job's place hold its
-- scenario; what that means is the code's own affair, and no promise over whole lists speaks of it.
module _ {M : Type 0} (state_in : M → DispatcherState) (Holds : M → List ℕ → Job → Scenario → Type 0) where
  pub record Serves (d : M) (c : Call) (words_exit trace_exit : List ℕ) (r : Served M) : Type 0 where
    -- for every dispatcher and everything lent: the answer but for the check's numbers, and the dispatcher behind it
    pub told : r.told ≡ told_as (outcome_of (state_in d) c) r.told.answer
    pub next : state_in r.next ≡ behind (state_in d) c
    pub left_alone : leaves_all (outcome_of (state_in d) c) ≡ true → r.next ≡ d
    pub words_left : WordsLeft (state_in d) c words_exit
    -- only admission refuses a sheet: whatever is lent, what a turn answers of one is free or locked
    pub free_or_locked : (r.told.answer ≡ no_answer) ⊎ (r.told.answer.word ≡ locked_word)
    -- the trace changes only where the check's word is "locked", in the bytes of the steps counted
    pub trace_kept : (r.told.answer.word ≡ locked_word → ⊥) → trace_exit ≡ trace_to c
    pub trace_locked : r.told.answer.word ≡ locked_word → (2 * r.told.answer.three ≤ length (trace_to c)) × (length trace_exit ≡ length (trace_to c))
        × (drop (2 * r.told.answer.three) trace_exit ≡ drop (2 * r.told.answer.three) (trace_to c))
    -- a job admitted is held; and one held stays so, where its words are lent as they were left
    pub admits : (l : Lent) (p : ℕ) (S : Scenario) → c ≡ admit l → free_place (state_in d) ≡ some p → admissible (state_in d) l ≡ ok S
        → Holds r.next (place_words p words_exit) (new_job (state_in d) p (code_at l p) S.count) S
    pub keeps : Orderly (state_in d) → (j k : Job) (S : Scenario) → Member j (state_in d).queue → Member k (behind (state_in d) c).queue
        → j.number ≡ k.number → Holds d (place_words j.place (lent_to c).words) j S → Holds r.next (place_words k.place words_exit) k S
    -- and it is answered as by the check
    pub answers : Orderly (state_in d) → (j : Job) (js : List Job) (S : Scenario) → (state_in d).queue ≡ j ∷ js
        → outcome_of (state_in d) c ≡ answered j.number → Holds d (place_words j.place (lent_to c).words) j S
        → AsTheCheck S j.code (trace_to c) trace_exit r.told.answer

-- One call of a list: what it was lent, what it answered, and what it left in the words and the trace.
pub record Entry : Type 0 where
  pub call : Call
  pub told : Told
  pub words : List ℕ
  pub trace : List ℕ

module _ {M : Type 0} (state_in : M → DispatcherState) (Holds : M → List ℕ → Job → Scenario → Type 0) (empty : M) where
  -- Calls from the empty dispatcher, each taking the one that the last call left.
  pub data Session : List Entry → M → Type 0 where
    opened : Session [] empty
    served : {es : List Entry} {d : M} {e : Entry} {r : Served M} → Session es d → Serves state_in Holds d e.call e.words e.trace r
        → e.told ≡ r.told → Session (es ++ (e ∷ [])) r.next

unfoldable pub calls_of : List Entry → List Call
calls_of [] = []
calls_of (e ∷ es) = e.call ∷ calls_of es

-- the dispatcher behind a list of calls
unfoldable pub dispatcher_from : DispatcherState → List Call → DispatcherState
dispatcher_from d [] = d
dispatcher_from d (c ∷ cs) = dispatcher_from (behind d c) cs

-- each call answered, but for the check's numbers, as the dispatcher that it was handed says
abbrev pub ToldFrom : DispatcherState → List Entry → Type 0
ToldFrom d [] = Unit {0}
ToldFrom d (e ∷ es) = (e.told ≡ told_as (outcome_of d e.call) e.told.answer) × ToldFrom (behind d e.call) es

-- the entry has this word, and job n in its first number
unfoldable pub says : ℕ → ℕ → Entry → Bool
says word n e = eqb e.told.word word && eqb e.told.one n

-- a turn of job n, answered or not
unfoldable pub is_turn_of : ℕ → Entry → Bool
is_turn_of n e = says taken_word n e || says answered_word n e

-- how many entries pass the test
unfoldable pub counted : (Entry → Bool) → List Entry → ℕ
counted test [] = 0
counted test (e ∷ es) = cond (test e) 1 0 + counted test es

-- a turn that is not refused
unfoldable pub is_unrefused_turn : Entry → Bool
is_unrefused_turn e = eqb e.told.word idle_word || eqb e.told.word taken_word || eqb e.told.word answered_word

-- the numbers given out, in their order
unfoldable pub given_out : List Entry → List ℕ
given_out [] = []
given_out (e ∷ es) = cond (eqb e.told.word admitted_word) (e.told.one ∷ given_out es) (given_out es)

-- refused with 1 or 2, which touches nothing
unfoldable pub touched_nothing : Entry → Bool
touched_nothing e = eqb e.told.word refused_word && leb e.told.one bench_refusal

-- The words as the last call left them, which were `left` before the call e. One refused with 1 or 2 wrote none, and may have been lent others.
unfoldable pub last_left : List ℕ → Entry → List ℕ
last_left left e = cond (touched_nothing e) left e.words

-- every call, but one refused with 1 or 2, is lent the words of place p as the last call left them
abbrev pub KeptFrom : ℕ → List ℕ → List Entry → Type 0
KeptFrom p left [] = Unit {0}
KeptFrom p left (e ∷ es) =
    (touched_nothing e ≡ false → place_words p (lent_to e.call).words ≡ place_words p left) × KeptFrom p (last_left left e) es

-- What is so of the job n that call a admitted into place p, in the calls behind it.
pub record JobServed (a : Entry) (n p : ℕ) (after : List Entry) : Type 0 where
  -- its sheet, accepted, and its channel
  pub scenario : Scenario
  pub is_sheet : sheet_of (sheet_at (lent_to a.call) p) ≡ ok scenario
  pub causal_order : Meets (sheet_at (lent_to a.call) p) scenario
  pub is_channel : code_at (lent_to a.call) p < channels
  -- it is answered on its own turn number 2m + 1, m being the messages of its scenario, and on none before
  pub last_turn : (mid : List Entry) (e : Entry) (rest : List Entry) → after ≡ mid ++ (e ∷ rest) → is_turn_of n e ≡ true
      → says answered_word n e ≡ eqb (counted (is_turn_of n) mid) (2 * scenario.count)
  -- answered or cancelled it leaves
  pub leaves : (mid : List Entry) (e : Entry) (rest : List Entry) → after ≡ mid ++ (e ∷ rest)
      → (says answered_word n e || says cancelled_word n e) ≡ true → counted (is_turn_of n) rest + counted (says cancelled_word n) rest ≡ 0
  -- not cancelled, it is answered within `turns_most` unrefused turns: in every part of the calls, from its admission on, that has so many
  pub within : (part rest : List Entry) → after ≡ part ++ rest → counted (says cancelled_word n) part ≡ 0 → turns_most ≤ counted is_unrefused_turn part
      → counted (says answered_word n) part ≡ 1
  -- while its words are lent as the last call left them, the answer is exactly the check's: its numbers, the bytes of the trace, and point 3
  pub answer : (mid : List Entry) (e : Entry) (rest : List Entry) → after ≡ mid ++ (e ∷ rest) → says answered_word n e ≡ true
      → KeptFrom p a.words (mid ++ (e ∷ []))
      → (scratch : List ℕ) → scratch_least ≤ length scratch
      → (e.told.answer ≡ numbers_of (answer_of (sheet_at (lent_to a.call) p) (code_at (lent_to a.call) p) (length scratch) (length (trace_to e.call))))
      × (e.trace ≡ trace_after (answer_of (sheet_at (lent_to a.call) p) (code_at (lent_to a.call) p) (length scratch) (length (trace_to e.call))) (trace_to e.call))
      × Verdict scenario (code_at (lent_to a.call) p) e.told.answer e.trace

-- What is so of a list of calls, and of the dispatcher that it leaves.
pub record WholeList {M : Type 0} (state_in : M → DispatcherState) (es : List Entry) (d : M) : Type 0 where
  -- the queue, the places and the numbers are those of the calls, one after the other, and so are the answers
  pub state : state_in d ≡ dispatcher_from empty_dispatcher (calls_of es)
  pub answers : ToldFrom empty_dispatcher es
  -- at most eight jobs, each in a place of its own; and no place is free exactly with eight held
  pub orderly : Orderly (state_in d)
  pub held_most : length (state_in d).queue ≤ jobs_most
  pub all_held : (free_place (state_in d) ≡ none) ↔ (length (state_in d).queue ≡ jobs_most)
  -- numbers: 0 first, then one more each time, and none twice; the dispatcher has how many there were
  pub numbers : given_out es ≡ cells (length (given_out es)) (λ k. k)
  pub numbers_most : length (given_out es) ≤ job_numbers
  pub numbers_given : (state_in d).given ≡ length (given_out es)
  -- every job admitted is served
  pub jobs : (before : List Entry) (a : Entry) (after : List Entry) (n p : ℕ) → es ≡ before ++ (a ∷ after)
      → a.told ≡ told_as (admitted n p) no_answer → JobServed a n p after

-- One theorem, of every list of calls from the empty dispatcher.
abbrev pub WholeLists : {M : Type 0} → (M → DispatcherState) → (M → List ℕ → Job → Scenario → Type 0) → M → Type 0
WholeLists {M} state_in Holds empty = (es : List Entry) (d : M) → Session state_in Holds empty es d → WholeList state_in es d
