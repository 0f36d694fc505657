-- What a turn promises of every dispatcher with the parts that it takes. Assumes nothing.
use Rattle.std.specs.Prelude.{◌≡◌, List, ℕ, ◌≤◌, ◌<◌, ◌^◌, length, set, Result, Ok, Err}
use Rattle.model.specs.Limits.{trace_least, jobs_most}
use Rattle.model.specs.Dispatcher.{turn, idle_word, taken_word, answered_word, refused_word, Served, Serves}
use Rattle.queue.specs.declared.Queue.{Queue}
use Rattle.share.specs.declared.Race.{Race}
use Rattle.last_turn.specs.Answer.{numbers_in}
use Rattle.held_jobs.specs.Held.{Held, dispatcher_of, boards_at, race_at, HoldsJob, lent, told_with}
use Rattle.outcome.specs.declared.Refusal.{Refusal}
use Rattle.outcome.specs.Refusals.{number_in}
use Rattle.head_turn.specs.declared.Turn.{Turn}
use Rattle.head_turn.specs.declared.Turn.TheVariants.{Idle, Taken, Answered}

-- a dispatcher with this queue, and with this race and these boards in the place
pub record Parts (d : Held) (queue : Queue) (place : ℕ) (race : Race) (on : List ℕ) : Type 0 where
  pub is_queue : d.queue ≡ queue
  pub is_race : race_at d place ≡ race
  pub is_on : boards_at d place ≡ on
  pub races : length d.races ≡ jobs_most

-- the dispatcher with what a turn leaves of them: a job's turn or answer, or the dispatcher as it was
abbrev pub turned_by : Held → ℕ → Result Turn Refusal → Served Held
turned_by d place (Ok Idle) = told_with idle_word 0 0 d
turned_by d place (Ok (Taken number race queue)) =
    told_with taken_word number 0 (record { queue = queue; given = d.given; races = set d.races place race; boards = d.boards })
turned_by d place (Ok (Answered number answer queue)) =
    record {
      told = record { word = answered_word; one = number; two = 0; answer = numbers_in answer };
      next = record { queue = queue; given = d.given; races = d.races; boards = d.boards };
    }
turned_by d place (Err r) = told_with refused_word (number_in r.reason) r.line d

-- a turn of one dispatcher, whatever sheets and codes it is lent, and as it is of every one with these parts
abbrev pub Turns : Held → List ℕ → List ℕ → List ℕ → List ℕ → Served Held → Type 0
Turns d words trace exit trace_exit r = (sheets lengths codes : List ℕ) → Serves dispatcher_of HoldsJob d (turn (lent sheets lengths codes words) trace) exit trace_exit r

pub record TurnIn (queue : Queue) (place : ℕ) (race : Race) (on words trace exit trace_exit : List ℕ) (r : Result Turn Refusal) : Type 0 where
  pub serves : (d : Held) → Parts d queue place race on → Turns d words trace exit trace_exit (turned_by d place r)

-- one that does not touch the trace
pub record TakesTurn (queue : Queue) (place : ℕ) (race : Race) (on words exit : List ℕ) (r : Result Turn Refusal) : Type 0 where
  pub serves : (trace : List ℕ) → trace_least ≤ length trace → TurnIn queue place race on words trace exit trace r
