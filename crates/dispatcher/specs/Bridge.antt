-- The dispatcher's value as the model's, its answers, and what it holds of a job. Assumes nothing.
use Rattle.std.specs.Prelude.{List, [], ℕ, ◌*◌, replicate}
use Rattle.model.specs.Limits.{messages_most, jobs_most}
use Rattle.model.specs.Order.{Scenario}
use Rattle.model.specs.Dispatcher as model
use Rattle.model.specs.Dispatcher.{DispatcherState, admit, turn, cancel, refused_word, no_answer, Told, Served, Serves}
use Rattle.queue.specs.Bridge.{empty_queue}
use Rattle.last_turn.specs.Answer.{numbers_in}
use Rattle.held_jobs.specs.Held.{Held, dispatcher_of, HoldsJob}
pub use Rattle.held_jobs.specs.Held.{lent}
use Rattle.outcome.specs.declared.Refusal.{Refusal}
use Rattle.outcome.specs.Refusals.{number_in}
use Rattle.dispatcher.specs.declared.Dispatcher.{Dispatcher}
use Rattle.dispatcher.specs.declared.DispatcherAnswer.{DispatcherAnswer}
use Rattle.dispatcher.specs.declared.Told as code

abbrev pub held_in : Dispatcher → Held
held_in d = record { queue = d.queue; given = d.given; races = d.races; boards = d.boards }

abbrev pub dispatcher_in : Dispatcher → DispatcherState
dispatcher_in d = dispatcher_of (held_in d)

abbrev pub Holds : Dispatcher → List ℕ → model.Job → Scenario → Type 0
Holds d words j S = HoldsJob (held_in d) words j S

-- the answer
abbrev pub told_in : DispatcherAnswer → Told
told_in r = record { word = r.word; one = r.one; two = r.two; answer = numbers_in r.answer }

abbrev pub answer_in : DispatcherAnswer → Served Dispatcher
answer_in r = record { told = told_in r; next = r.next }

-- what a call tells without the dispatcher, and with what is held after it; with no answer of the check's; and refused
abbrev pub told_of : code.Told → Told
told_of t = record { word = t.word; one = t.one; two = t.two; answer = numbers_in t.answer }

abbrev pub served_as : code.Told → Dispatcher → Served Held
served_as t d = record { told = told_of t; next = held_in d }

abbrev pub unanswered_as : ℕ → ℕ → ℕ → Told
unanswered_as word one two = record { word = word; one = one; two = two; answer = no_answer }

abbrev pub refused_as : Refusal → Told
refused_as f = unanswered_as refused_word (number_in f.reason) f.line

-- the dispatcher that holds no job and gave out no number
abbrev pub emptied : Dispatcher
emptied =
    record {
      queue = empty_queue;
      given = 0;
      races = replicate jobs_most (record { found = 0; message = 0; event = 0 });
      boards = replicate jobs_most (record { on = replicate (2 * messages_most) 0 });
    }

-- ---- what the calls promise: an admission; a turn, whatever sheets and codes it is lent; and cancelling a number
abbrev pub AdmitOf : Dispatcher → List ℕ → List ℕ → List ℕ → List ℕ → List ℕ → Served Dispatcher → Type 0
AdmitOf d sheets lengths codes words exit r = Serves dispatcher_in Holds d (admit (lent sheets lengths codes words)) exit [] r

pub record TurnOf (d : Dispatcher) (words trace exit trace_exit : List ℕ) (r : Served Dispatcher) : Type 0 where
  pub serves : (sheets lengths codes : List ℕ) → Serves dispatcher_in Holds d (turn (lent sheets lengths codes words) trace) exit trace_exit r

pub record CancelOf (d : Dispatcher) (n : ℕ) (words exit : List ℕ) (r : Served Dispatcher) : Type 0 where
  pub serves : (sheets lengths codes : List ℕ) → Serves dispatcher_in Holds d (cancel n (lent sheets lengths codes words)) exit [] r
