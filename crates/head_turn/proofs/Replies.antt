-- What each return of a turn is to show, from what led there. Assumes nothing.
use mathlib.Core.Path.{◌≡◌, refl, sym, ◌∙◌, ap, subst⁻¹}
use mathlib.Core.Bool.{Bool, true, false}
use mathlib.Core.List.{List, [], ◌∷◌}
use mathlib.Core.Option.{none, some}
use Prim.Native.Nat.{ℕ, ◌-◌, ◌%◌, ◌<◌, ◌≤◌, ◌^◌}
use native.Mathlib.Omega.{arith}
use borrow.Rule.Slice.PartMut.{mid_of}
use lib.ListN.{length, set}
use lib.Seq.{set-get_or}
use Rattle.model.specs.Limits.{trace_least, jobs_most, job_words_least}
use Rattle.model.specs.Refusal.{bench_refusal}
use Rattle.model.specs.Dispatcher as model
use Rattle.model.specs.Dispatcher.{is_last, turned, idle, idle_word, taken_word, answered_word, refused_word, touches_nothing, leaves_all, Served}
use Rattle.queue.specs.declared.Job.{Job}
use Rattle.queue.specs.declared.Queue.{Queue}
use Rattle.queue.specs.declared.Taken.{Taken}
use Rattle.std.specs.Prelude as std
use Rattle.std.specs.Prelude.{Some, None, Result, Ok, Err}
use Rattle.queue.specs.Bridge.{job_in, queue_in, PlacesOf, head_in, head_of, FirstPlace}
use Rattle.taken_places.specs.Places.{TakenIn}
use Rattle.queue_moves.proofs.Turns.{turned_places}
use Rattle.places.specs.Words.{FreeCleared, ClearedBut}
use Rattle.places.proofs.Parts.{from, to}
use Rattle.share.specs.declared.Race.{Race}
use Rattle.share.specs.Search.{Looks}
use Rattle.last_turn.specs.declared.Numbers.{Numbers}
use Rattle.last_turn.specs.Answer as last
use Rattle.last_turn.specs.Answer.{zeros, Concludes}
use Rattle.held_jobs.specs.Held.{Held, dispatcher_of, boards_at, lent, told_with}
use Rattle.held_jobs.proofs.Cases.{turn_words, turn_trace, turn_idle}
use Rattle.held_jobs.proofs.Serving.{untouched, cleared}
use Rattle.outcome.specs.declared.Refusal.{Refusal}
use Rattle.outcome.specs.declared.Reason.{Reason}
use Rattle.outcome.specs.declared.Reason.TheVariants.{Bench}
use Rattle.head_turn.specs.declared.Turn.{Turn}
use Rattle.head_turn.specs.declared.Turn.TheVariants as turn
use Rattle.head_turn.specs.Serving.{Parts, turned_by, Turns, TurnIn, TakesTurn}
use Rattle.head_turn.proofs.Turning.{taken_serves, answered_serves}

-- ---- of one dispatcher, whatever sheets and codes it is lent
module _ (d : Held) (words trace : List ℕ) (r : Served Held) where
  pub turn_short_words : length words < job_words_least → r ≡ told_with refused_word bench_refusal 0 d → Turns d words trace words trace r
  turn_short_words h e sheets lengths codes = untouched d _ bench_refusal 0 r (turn_words (dispatcher_of d) (lent sheets lengths codes words) trace h) (omega arith) e

  pub turn_short_trace : length trace < trace_least → r ≡ told_with refused_word bench_refusal 0 d → Turns d words trace words trace r
  turn_short_trace h e sheets lengths codes = untouched d _ bench_refusal 0 r (turn_trace (dispatcher_of d) (lent sheets lengths codes words) trace h) (omega arith) e

  pub turn_idles : (exit : List ℕ) (h : std.Option Job) → head_in h ≡ head_of (queue_in d.queue) → h ≡ None → job_words_least ≤ length words → trace_least ≤ length trace
      → FreeCleared (queue_in d.queue) words exit → r ≡ told_with idle_word 0 0 d → Turns d words trace exit trace r
  unfolding touches_nothing leaves_all
  turn_idles exit h found i w t F e sheets lengths codes =
      cleared d _ idle exit r (turn_idle (dispatcher_of d) (lent sheets lengths codes words) trace w t (no_head (queue_in d.queue) (sym found ∙ ap head_in i))) refl refl e F
    where
      no_head : (js : List model.Job) → head_of js ≡ none → js ≡ []
      no_head [] e = refl
      no_head (j ∷ js) e = let z : ◌≡◌ {A = ℕ} 0 1 = cc in absurd (omega arith)

pub last_is : (j : model.Job) (r b : Bool) → r ≡ is_last j → r ≡ b → is_last j ≡ b
last_is j r b e t = sym e ∙ t

pub is_head : (js : List model.Job) (v : std.Option Job) (job : Job) → head_in v ≡ head_of js → v ≡ Some job → head_of js ≡ some (job_in job)
is_head js v job e i = sym e ∙ ap head_in i

-- ---- a turn, as it is of every dispatcher with these parts
module _ (queue : Queue) (place : ℕ) (race : Race) (on : List ℕ) where
  module _ (words trace : List ℕ) where
    pub serve_short_words : (r : Refusal) → r ≡ record { reason = Bench; line = 0 } → length words < job_words_least → TurnIn queue place race on words trace words trace (Err r)
    serve_short_words r i h = record { serves = λ d P. turn_short_words d words trace _ h (ap (λ (q : Refusal). turned_by d place (Err q)) i) }

    pub serve_short_trace : (r : Refusal) → r ≡ record { reason = Bench; line = 0 } → length trace < trace_least → TurnIn queue place race on words trace words trace (Err r)
    serve_short_trace r i h = record { serves = λ d P. turn_short_trace d words trace _ h (ap (λ (q : Refusal). turned_by d place (Err q)) i) }

    pub serve_idles : (taken : Taken) → TakenIn queue taken → (exit : List ℕ) (h : std.Option Job) → head_in h ≡ head_of (queue_in queue) → h ≡ None
        → job_words_least ≤ length words → trace_least ≤ length trace → ClearedBut taken.places words exit
        → TurnIn queue place race on words trace exit trace (Ok turn.Idle)
    serve_idles taken T exit h found i w t C =
        record {
          serves = λ d P.
              turn_idles d words trace (turned_by d place (Ok turn.Idle)) exit h
              (subst⁻¹ (λ (q : Queue). head_in h ≡ head_of (queue_in q)) P.is_queue found) i w t
              (subst⁻¹ (λ (q : Queue). FreeCleared (queue_in q) words exit) P.is_queue (C.cleared (queue_in queue) T.taken)) refl;
        }

-- the place taken out is that of the head
module _ (queue : Queue) (place : ℕ) (F : FirstPlace (queue_in queue) place) (race : Race) (on words exit : List ℕ) (r : Result Turn Refusal) (v : std.Option Job) (job : Job)
    (found : head_in v ≡ head_of (queue_in queue)) (i : v ≡ Some job) where
  at_head : place ≡ job.place % jobs_most
  at_head = F.head (job_in job) (is_head (queue_in queue) v job found i)

  pub serve_answers : (trace trace_exit : List ℕ) → TurnIn queue (job.place % jobs_most) race on words trace exit trace_exit r → TurnIn queue place race on words trace exit trace_exit r
  serve_answers trace trace_exit T = subst⁻¹ (λ (p : ℕ). TurnIn queue p race on words trace exit trace_exit r) at_head T

  pub serve_takes : (trace : List ℕ) → TakesTurn queue (job.place % jobs_most) race on words exit r → trace_least ≤ length trace
      → TurnIn queue place race on words trace exit trace r
  serve_takes trace T t = serve_answers trace trace (T.serves trace t)

-- a turn of the head, unanswered or answered
module _ (queue : Queue) (job : Job) (race : Race) (on words : List ℕ) (head : head_of (queue_in queue) ≡ some (job_in job)) (long : job_words_least ≤ length words)
    (left : Queue) (is_left : queue_in left ≡ turned (queue_in queue)) (exit : List ℕ) where
  abbrev at : ℕ
  at = job.place % jobs_most

  abbrev own : List ℕ
  own = mid_of (from at) (to at - from at) words

  module _ (d : Held) (P : Parts d queue at race on) where
    head_of_holds : head_of (queue_in d.queue) ≡ some (job_in job)
    head_of_holds = subst⁻¹ (λ (q : Queue). head_of (queue_in q) ≡ some (job_in job)) P.is_queue head

    left_of : queue_in left ≡ turned (queue_in d.queue)
    left_of = subst⁻¹ (λ (q : Queue). queue_in left ≡ turned (queue_in q)) P.is_queue is_left

  pub take_serves : (taken : Taken) → TakenIn queue taken → ClearedBut taken.places words exit → is_last (job_in job) ≡ false → (found : Race)
      → Looks job.count on own job.code job.turns race found → TakesTurn queue at race on words exit (Ok (turn.Taken job.number found left))
  take_serves taken T C early found looks =
      record {
        serves = λ trace t.
            record {
              serves = λ d P sheets lengths codes.
                  taken_serves d job words (head_of_holds d P) long P.races early found
                  (subst⁻¹ (λ (r : Race). Looks job.count (boards_at d at) own job.code job.turns r found) P.is_race
                  (subst⁻¹ (λ (b : List ℕ). Looks job.count b own job.code job.turns race found) P.is_on looks))
                  left (left_of d P) exit
                  (subst⁻¹ (λ (js : List model.Job). FreeCleared js words exit) is_left
                  (C.cleared (turned (queue_in queue)) (turned_places (queue_in queue) (job_in job) taken.places head early T.taken)))
                  (lent sheets lengths codes words) refl trace t _ refl;
            };
      }

  pub answer_serves : (bits : ℕ) → PlacesOf (queue_in left) bits → ClearedBut bits words exit → is_last (job_in job) ≡ true → (trace trace_exit : List ℕ) (a : Numbers)
      → Concludes job.count on own job.code race trace trace_exit (last.numbers_in a) → trace_least ≤ length trace
      → TurnIn queue at race on words trace exit trace_exit (Ok (turn.Answered job.number a left))
  answer_serves bits B C late trace trace_exit a K t =
      record {
        serves = λ d P sheets lengths codes.
            answered_serves d job words (head_of_holds d P) long P.races late left (left_of d P) exit (C.cleared (queue_in left) B) trace trace_exit (last.numbers_in a)
            (subst⁻¹ (λ (r : Race). Concludes job.count (boards_at d at) own job.code r trace trace_exit (last.numbers_in a)) P.is_race
            (subst⁻¹ (λ (b : List ℕ). Concludes job.count b own job.code race trace trace_exit (last.numbers_in a)) P.is_on K))
            (lent sheets lengths codes words) refl t _ refl;
      }
