-- Request (k): what a call does, one case for each outcome. The other files speak of calls through these cases. Assumes nothing.
use Prim.Native.Nat.{ℕ, suc, ◌*◌, ◌<◌, ◌≤◌}
use native.Mathlib.Omega.{arith}
use mathlib.Core.Path.{◌≡◌, refl, subst}
use mathlib.Core.Bool.{Bool, true, false}
use mathlib.Core.List.{List, [], ◌∷◌, ◌++◌}
use mathlib.Core.Option.{Option, none, some}
use lib.Dec.{ltb}
use lib.ListN.{length}
use borrow.Author.Tests.{leb-true, leb-false, ltb-true, ltb-false}
use Rattle.model.specs.Limits.{text_most, channels, trace_least, job_numbers, job_words_least}
use Rattle.model.specs.Bounded.{among}
use Rattle.model.specs.Refusal.{Out, ok, refusal}
use Rattle.model.specs.Order.{Scenario}
use Rattle.model.specs.Answer.{sheet_of}
use Rattle.model.specs.Dispatcher.{Lent, length_at, code_at, sheet_at, Job, DispatcherState, numbers_in, free_place, admissible, admitting, is_last, turned, without, Call, admit, turn, cancel, Outcome, admitted, idle, taken, answered, cancelled, refused, words_short, turn_short, head_outcome, admission, outcome_of, admitted_to, behind}
use Rattle.model.proofs.Bounded.{or_neither}
use Rattle.model.proofs.Refusal.{cond_ok, cond_refused}

-- an admission that is not refused: the lowest free place, its code and its sheet, and a number left
pub record Admissible (d : DispatcherState) (l : Lent) (p : ℕ) (S : Scenario) : Type 0 where
  pub place : free_place d ≡ some p
  pub is_ok : admissible d l ≡ ok S
  pub code_known : code_at l p < channels
  pub number_left : d.given < job_numbers
  pub sheet : sheet_of (sheet_at l p) ≡ ok S

admissible_parts : (d : DispatcherState) (l : Lent) (p : ℕ) (S : Scenario) → free_place d ≡ some p → admissible d l ≡ ok S → Admissible d l p S
unfolding admissible words_short
admissible_parts d l p S place e =
    let a = cond_ok (ltb (code_at l p) channels) _ _ _ S (rw (place, admissible) at e) in
    let b = cond_refused (ltb (length l.words) job_words_least) _ _ _ S a.1 in
    let c = cond_ok (ltb d.given job_numbers) _ _ _ S b.1 in
    let f = cond_refused (ltb text_most (length_at l p)) _ _ _ S c.1 in
    record { place = place; is_ok = e; code_known = ltb-true _ _ a.0; number_left = ltb-true _ _ c.0; sheet = f.1 }

-- the job that had a turn more
abbrev pub again : Job → Job
again j = record { number = j.number; place = j.place; code = j.code; count = j.count; turns = suc j.turns }

-- What a call does: the dispatcher behind it, and its outcome.
pub data Does (d : DispatcherState) : Call → DispatcherState → Outcome → Type 0 where
  refuses : {c : Call} {number line : ℕ} → Does d c d (refused number line)
  idles : {l : Lent} {trace : List ℕ} → d.queue ≡ [] → Does d (turn l trace) d idle
  admits : {l : Lent} {p : ℕ} {S : Scenario} → Admissible d l p S
      → Does d (admit l) (admitting d p (code_at l p) S.count) (admitted d.given p)
  -- unanswered, the head goes behind the last
  takes : {l : Lent} {trace : List ℕ} {j : Job} {js : List Job} → d.queue ≡ j ∷ js → j.turns < 2 * j.count
      → Does d (turn l trace) (record { queue = js ++ (again j ∷ []); given = d.given }) (taken j.number)
  -- answered, it leaves
  answers : {l : Lent} {trace : List ℕ} {j : Job} {js : List Job} → d.queue ≡ j ∷ js → 2 * j.count ≤ j.turns → trace_least ≤ length trace
      → Does d (turn l trace) (record { queue = js; given = d.given }) (answered j.number)
  cancels : {n : ℕ} {l : Lent} → among n (numbers_in d.queue) ≡ true
      → Does d (cancel n l) (record { queue = without n d.queue; given = d.given }) (cancelled n)

-- a job's last turn is due when it had two for each message, and not before
last_due : (j : Job) → is_last j ≡ true → 2 * j.count ≤ j.turns
unfolding is_last
last_due j e = omega (arith, leb-true)

not_yet_due : (j : Job) → is_last j ≡ false → j.turns < 2 * j.count
unfolding is_last
not_yet_due j e = omega (arith, leb-false)

answered_leaves : (j : Job) (js : List Job) → is_last j ≡ true → turned (j ∷ js) ≡ js
unfolding turned
answered_leaves j js e = rw e

taken_goes_behind : (j : Job) (js : List Job) → is_last j ≡ false → turned (j ∷ js) ≡ js ++ (again j ∷ [])
unfolding turned
taken_goes_behind j js e = rw e

answered_named : (j : Job) (js : List Job) → is_last j ≡ true → head_outcome (j ∷ js) ≡ answered j.number
unfolding head_outcome
answered_named j js e = rw e

taken_named : (j : Job) (js : List Job) → is_last j ≡ false → head_outcome (j ∷ js) ≡ taken j.number
unfolding head_outcome
taken_named j js e = rw e

turn_does : (d : DispatcherState) (l : Lent) (trace : List ℕ) (js : List Job) → d.queue ≡ js → trace_least ≤ length trace
    → Does d (turn l trace) (record { queue = turned js; given = d.given }) (head_outcome js)
unfolding turned head_outcome
turn_does d l trace [] e long = subst (λ (q : List Job). Does d (turn l trace) (record { queue = q; given = d.given }) idle) e (idles e)
turn_does d l trace (j ∷ js) e long = go (is_last j) refl
  where
    go : (last : Bool) → is_last j ≡ last → Does d (turn l trace) (record { queue = turned (j ∷ js); given = d.given }) (head_outcome (j ∷ js))
    go true i = rw (answered_leaves j js i, answered_named j js i) (answers e (last_due j i) long)
    go false i = rw (taken_goes_behind j js i, taken_named j js i) (takes e (not_yet_due j i))

pub call_does : (d : DispatcherState) (c : Call) → Does d c (behind d c) (outcome_of d c)
unfolding behind outcome_of admission admitted_to turn_short
call_does d (admit l) = go (free_place d) (admissible d l) refl refl
  where
    go : (place : Option ℕ) (sheet : Out Scenario) → free_place d ≡ place → admissible d l ≡ sheet
        → Does d (admit l) (behind d (admit l)) (outcome_of d (admit l))
    go place (refusal number line) e f = rw f refuses
    go none (ok S) e f = rw (e, f) refuses
    go (some p) (ok S) e f = let a = admissible_parts d l p S e f in rw (e, f) (admits a)
call_does d (turn l trace) = go (turn_short l trace) refl
  where
    go : (short : Bool) → turn_short l trace ≡ short → Does d (turn l trace) (behind d (turn l trace)) (outcome_of d (turn l trace))
    go true e = rw e refuses
    go false e =
        let short = or_neither (words_short l) (ltb (length trace) trace_least) e in
        rw e (turn_does d l trace d.queue refl (ltb-false (length trace) trace_least short.1))
call_does d (cancel n l) = go (words_short l) refl (among n (numbers_in d.queue)) refl
  where
    go : (short : Bool) → words_short l ≡ short → (held : Bool) → among n (numbers_in d.queue) ≡ held
        → Does d (cancel n l) (behind d (cancel n l)) (outcome_of d (cancel n l))
    go true e held f = rw e refuses
    go false e true f = rw (e, f) (cancels f)
    go false e false f = rw (e, f) refuses
