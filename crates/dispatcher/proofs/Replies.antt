-- What each return of the calls is to show, from what led there. Assumes nothing.
use mathlib.Core.Path.{◌≡◌, refl, sym, ◌∙◌, ap, subst⁻¹}
use mathlib.Core.List.{List, [], ◌∷◌}
use Prim.Native.Nat.{ℕ, zero, suc, ◌<◌}
use native.Mathlib.Nat.{not-suc-le-zero, le_of_suc-le-suc}
use native.Mathlib.Omega.{arith}
use lib.ListN.{length, get_or}
use Rattle.model.specs.Limits.{jobs_most}
use Rattle.model.specs.Dispatcher as model
use Rattle.model.specs.Dispatcher.{empty_dispatcher, Call, admit, cancel, turn, Served, Serves, WholeLists}
use Rattle.model.proofs.Dispatcher.{whole_lists}
use Rattle.queue.specs.declared.Queue.{Queue}
use Rattle.queue.specs.Bridge.{empty_queue, queue_in}
use Rattle.queue.proofs.Apart.{empty_none}
use Rattle.share.specs.declared.Race.{Race}
use Rattle.held_jobs.specs.declared.Boards.{Boards}
use Rattle.held_jobs.specs.Held.{Held, dispatcher_of, boards_at, race_at, HoldsJob, lent}
use Rattle.admission.specs.declared.Entry.{Entry}
use Rattle.admission.specs.Admission.{AdmitIn, entered_by}
use Rattle.head_turn.specs.declared.Turn.{Turn}
use Rattle.head_turn.specs.Serving.{TurnIn, turned_by}
use Rattle.cancellation.specs.Cancelling.{LeavesIn, left_by}
use Rattle.std.specs.Prelude.{Result}
use Rattle.outcome.specs.declared.Refusal.{Refusal}
use Rattle.dispatcher.specs.declared.Dispatcher.{Dispatcher}
use Rattle.dispatcher.specs.Bridge.{held_in, dispatcher_in, Holds, emptied, TurnOf, CancelOf, AdmitOf}

-- with an empty queue and no number given out it is the model's empty dispatcher
pub empty_state : (q : Queue) → q ≡ empty_queue → dispatcher_in (record { queue = q; given = 0; races = emptied.races; boards = emptied.boards }) ≡ empty_dispatcher
empty_state q e = ap (λ (p : Queue). record { queue = queue_in p; given = 0 }) e ∙ ap (λ (q : List model.Job). record { queue = q; given = 0 }) empty_none

-- the theorem over whole lists of calls
pub whole : WholeLists dispatcher_in Holds emptied
whole = whole_lists dispatcher_in Holds emptied (empty_state empty_queue refl)

pub empty_as : (q : Queue) → q ≡ empty_queue → record { queue = q; given = 0; races = emptied.races; boards = emptied.boards } ≡ emptied
empty_as q e = ap (λ (p : Queue). record { queue = p; given = 0; races = emptied.races; boards = emptied.boards }) e

-- what is so of a dispatcher's fields is so of the dispatcher
serves_as : (d : Dispatcher) (c : Call) (exit trace_exit : List ℕ) (r : Served Dispatcher)
    → Serves dispatcher_of HoldsJob (held_in d) c exit trace_exit (record { told = r.told; next = held_in r.next }) → Serves dispatcher_in Holds d c exit trace_exit r
serves_as d c exit trace_exit r s =
    record {
      told = s.told;
      next = s.next;
      left_alone = λ u. ap (λ (h : Held). record { queue = h.queue; given = h.given; races = h.races; boards = h.boards }) (s.left_alone u);
      words_left = s.words_left;
      free_or_locked = s.free_or_locked;
      trace_kept = s.trace_kept;
      trace_locked = s.trace_locked;
      admits = s.admits;
      keeps = s.keeps;
      answers = s.answers;
    }

-- an element that there is, whatever stands for one that there is not
pub there : {A : Type 0} (l : List A) (i : ℕ) (d e : A) → i < length l → get_or l i d ≡ get_or l i e
there [] i d e h = absurd (not-suc-le-zero h)
there (a ∷ l) zero d e h = refl
there (a ∷ l) (suc i) d e h = there l i d e (le_of_suc-le-suc h)

-- what a place has, as the code reads it
pub race_read : (d : Held) (p : ℕ) (other : Race) → length d.races ≡ jobs_most → p < jobs_most → get_or d.races p other ≡ race_at d p
race_read d p other long h = there d.races p other _ (omega arith)

pub boards_read : (d : Held) (p : ℕ) (other : Boards) → length d.boards ≡ jobs_most → p < jobs_most → (get_or d.boards p other).on ≡ boards_at d p
boards_read d p other long h = ap (λ (b : Boards). b.on) (there d.boards p other _ (omega arith))

-- what is told, and the dispatcher read as what it holds
abbrev pub served_in : Served Dispatcher → Served Held
served_in r = record { told = r.told; next = held_in r.next }

-- ---- the calls, from what their parts leave
module _ (d : Dispatcher) (r : Served Dispatcher) where
  pub admit_as : (place : ℕ) (sheets lengths codes words exit : List ℕ) (t : Result Entry Refusal) → length d.races ≡ jobs_most → length d.boards ≡ jobs_most
      → AdmitIn (record { queue = d.queue; given = d.given }) place sheets lengths codes words exit t → served_in r ≡ entered_by (held_in d) place t
      → AdmitOf d sheets lengths codes words exit r
  admit_as place sheets lengths codes words exit t races boards A e =
      serves_as d _ exit [] r
      (subst⁻¹ (λ (s : Served Held). Serves dispatcher_of HoldsJob (held_in d) (admit (lent sheets lengths codes words)) exit [] s) e
      (A.serves (held_in d) (record { is = refl; races = races; boards = boards })))

  pub turn_as : (place : ℕ) (race_else : Race) (boards_else : Boards) (words trace exit trace_exit : List ℕ) (t : Result Turn Refusal)
      → length d.races ≡ jobs_most → length d.boards ≡ jobs_most → place < jobs_most
      → TurnIn d.queue place (get_or d.races place race_else) (get_or d.boards place boards_else).on words trace exit trace_exit t
      → served_in r ≡ turned_by (held_in d) place t → TurnOf d words trace exit trace_exit r
  turn_as place race_else boards_else words trace exit trace_exit t races boards h T e =
      record {
        serves = λ sheets lengths codes.
            serves_as d _ exit trace_exit r
            (subst⁻¹ (λ (s : Served Held). Serves dispatcher_of HoldsJob (held_in d) (turn (lent sheets lengths codes words) trace) exit trace_exit s) e
            (T.serves (held_in d)
            (record { is_queue = refl; is_race = sym (race_read (held_in d) place race_else races h); is_on = sym (boards_read (held_in d) place boards_else boards h); races = races })
            sheets lengths codes));
      }

  pub cancel_as : (n : ℕ) (words exit : List ℕ) (t : Result Queue Refusal) → LeavesIn d.queue n words exit t → served_in r ≡ left_by (held_in d) n t
      → CancelOf d n words exit r
  cancel_as n words exit t L e =
      record {
        serves = λ sheets lengths codes.
            serves_as d _ exit [] r
            (subst⁻¹ (λ (s : Served Held). Serves dispatcher_of HoldsJob (held_in d) (cancel n (lent sheets lengths codes words)) exit [] s) e
            (L.serves (held_in d) refl sheets lengths codes));
      }
