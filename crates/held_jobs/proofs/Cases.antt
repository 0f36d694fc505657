-- What each call comes to, from the facts that lead there. Assumes nothing.
use mathlib.Core.Path.{◌≡◌, sym, ◌∙◌, ap}
use mathlib.Core.Bool.{true, false, or-true}
use mathlib.Core.List.{List, [], ◌∷◌, ◌++◌}
use mathlib.Core.Option.{none, some}
use Prim.Native.Nat.{ℕ, ◌<◌, ◌≤◌}
use borrow.Author.Tests.{lt-ltb, le-ltb}
use lib.ListN.{length}
use Rattle.model.specs.Limits.{channels, text_most, trace_least, job_numbers, job_words_least}
use Rattle.model.specs.Bounded.{among}
use Rattle.model.specs.Refusal.{ok, refusal, channel_refusal, bench_refusal, length_refusal, jobs_refusal, held_refusal}
use Rattle.model.specs.Order.{Scenario}
use Rattle.model.specs.Answer.{sheet_of}
use Rattle.model.specs.Dispatcher.{Lent, length_at, code_at, sheet_at, Job, DispatcherState, numbers_in, free_place, admissible, admitting, is_last, turned, without, Call, admit, turn, cancel, Outcome, admitted, idle, taken, answered, cancelled, refused, words_short, turn_short, head_outcome, admission, outcome_of, admitted_to, behind}
use Rattle.model.proofs.CallCases.{again}

-- the outcome of a call, and the dispatcher behind it
pub record Case (d : DispatcherState) (c : Call) (o : Outcome) (next : DispatcherState) : Type 0 where
  pub outcome : outcome_of d c ≡ o
  pub leaves : behind d c ≡ next

-- ---- a turn
module _ (d : DispatcherState) (l : Lent) (trace : List ℕ) where
  short : turn_short l trace ≡ true → Case d (turn l trace) (refused bench_refusal 0) d
  unfolding outcome_of behind
  short e = record { outcome = rw e; leaves = rw e }

  pub turn_words : length l.words < job_words_least → Case d (turn l trace) (refused bench_refusal 0) d
  unfolding turn_short words_short
  turn_words h = short (rw (lt-ltb (length l.words) job_words_least h))

  pub turn_trace : length trace < trace_least → Case d (turn l trace) (refused bench_refusal 0) d
  unfolding turn_short
  turn_trace h = short (rw (lt-ltb (length trace) trace_least h) (or-true (words_short l)))

  module _ (w : job_words_least ≤ length l.words) (t : trace_least ≤ length trace) where
    long : turn_short l trace ≡ false
    unfolding turn_short words_short
    long = rw (le-ltb (length l.words) job_words_least w, le-ltb (length trace) trace_least t)

    pub turn_idle : d.queue ≡ [] → Case d (turn l trace) idle d
    unfolding outcome_of behind head_outcome turned
    turn_idle e =
        record {
          outcome = rw (long, outcome_of, e);
          leaves = rw (long, behind) (ap (λ q. record { queue = turned q; given = d.given }) e ∙ ap (λ (q : List Job). record { queue = q; given = d.given }) (sym e));
        }

    module _ (j : Job) (js : List Job) (e : d.queue ≡ j ∷ js) where
      pub turn_taken : is_last j ≡ false → Case d (turn l trace) (taken j.number) (record { queue = js ++ (again j ∷ []); given = d.given })
      unfolding outcome_of behind head_outcome turned
      turn_taken f = record { outcome = rw (long, outcome_of, e, head_outcome, f); leaves = rw (long, behind, e, turned, f) }

      pub turn_answered : is_last j ≡ true → Case d (turn l trace) (answered j.number) (record { queue = js; given = d.given })
      unfolding outcome_of behind head_outcome turned
      turn_answered f = record { outcome = rw (long, outcome_of, e, head_outcome, f); leaves = rw (long, behind, e, turned, f) }

-- ---- cancelling
module _ (d : DispatcherState) (n : ℕ) (l : Lent) where
  pub cancel_words : length l.words < job_words_least → Case d (cancel n l) (refused bench_refusal 0) d
  unfolding outcome_of behind words_short
  cancel_words h = record { outcome = rw (lt-ltb (length l.words) job_words_least h); leaves = rw (lt-ltb (length l.words) job_words_least h) }

  module _ (w : job_words_least ≤ length l.words) where
    pub cancel_unheld : among n (numbers_in d.queue) ≡ false → Case d (cancel n l) (refused held_refusal 0) d
    unfolding outcome_of behind words_short
    cancel_unheld f =
        record { outcome = rw (le-ltb (length l.words) job_words_least w, f); leaves = rw (le-ltb (length l.words) job_words_least w, f) }

    pub cancel_held : among n (numbers_in d.queue) ≡ true
        → Case d (cancel n l) (cancelled n) (record { queue = without n d.queue; given = d.given })
    unfolding outcome_of behind words_short
    cancel_held t =
        record { outcome = rw (le-ltb (length l.words) job_words_least w, t); leaves = rw (le-ltb (length l.words) job_words_least w, t) }

-- ---- an admission
module _ (d : DispatcherState) (l : Lent) where
  pub admit_refused : (number line : ℕ) → admissible d l ≡ refusal number line → Case d (admit l) (refused number line) d
  unfolding outcome_of behind admission admitted_to
  admit_refused number line e = record { outcome = rw (e, admission); leaves = rw (e, admitted_to) }

  pub admit_admitted : (p : ℕ) (S : Scenario) → free_place d ≡ some p → admissible d l ≡ ok S
      → Case d (admit l) (admitted d.given p) (admitting d p (code_at l p) S.count)
  unfolding outcome_of behind admission admitted_to
  admit_admitted p S f e = record { outcome = rw (e, f, admission); leaves = rw (e, f, admitted_to) }

  -- with no place free there is no new sheet and no code to judge
  pub full_short : free_place d ≡ none → length l.words < job_words_least → admissible d l ≡ refusal bench_refusal 0
  unfolding admissible words_short
  full_short f h = rw (f, admissible, lt-ltb (length l.words) job_words_least h)

  pub full_held : free_place d ≡ none → job_words_least ≤ length l.words → admissible d l ≡ refusal jobs_refusal 0
  unfolding admissible words_short
  full_held f h = rw (f, admissible, le-ltb (length l.words) job_words_least h)

  module _ (p : ℕ) (f : free_place d ≡ some p) where
    pub code_unknown : channels ≤ code_at l p → admissible d l ≡ refusal channel_refusal 0
    unfolding admissible words_short
    code_unknown h = rw (f, admissible, le-ltb (code_at l p) channels h)

    module _ (k : code_at l p < channels) where
      pub words_short_holds : length l.words < job_words_least → admissible d l ≡ refusal bench_refusal 0
      unfolding admissible words_short
      words_short_holds h = rw (f, admissible, lt-ltb (code_at l p) channels k, lt-ltb (length l.words) job_words_least h)

      module _ (w : job_words_least ≤ length l.words) where
        pub numbers_out : job_numbers ≤ d.given → admissible d l ≡ refusal jobs_refusal 0
        unfolding admissible words_short
        numbers_out h = rw (f, admissible, lt-ltb (code_at l p) channels k, le-ltb (length l.words) job_words_least w, le-ltb d.given job_numbers h)

        module _ (g : d.given < job_numbers) where
          pub sheet_long : text_most < length_at l p → admissible d l ≡ refusal length_refusal 0
          unfolding admissible words_short
          sheet_long h =
              rw (f, admissible, lt-ltb (code_at l p) channels k, le-ltb (length l.words) job_words_least w, lt-ltb d.given job_numbers g, lt-ltb text_most (length_at l p) h)

          pub sheet_judged : length_at l p ≤ text_most → admissible d l ≡ sheet_of (sheet_at l p)
          unfolding admissible words_short
          sheet_judged h =
              rw (f, admissible, lt-ltb (code_at l p) channels k, le-ltb (length l.words) job_words_least w, lt-ltb d.given job_numbers g, le-ltb text_most (length_at l p) h)
