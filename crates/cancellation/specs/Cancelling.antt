-- What a cancellation promises. Assumes nothing.
use Rattle.std.specs.Prelude.{◌≡◌, ◌<◌, ◌^◌, List, [], ℕ, Result, Ok, Err}
use Rattle.model.specs.Dispatcher.{cancel, cancelled_word, refused_word, Served, Serves}
use Rattle.queue.specs.declared.Queue.{Queue}
use Rattle.held_jobs.specs.Held.{Held, dispatcher_of, HoldsJob, lent, told_with}
use Rattle.outcome.specs.declared.Refusal.{Refusal}
use Rattle.outcome.specs.Refusals.{number_in}

-- the dispatcher with the queue that a cancellation leaves; and cancelling as it is of every dispatcher with the queue
abbrev pub left_by : Held → ℕ → Result Queue Refusal → Served Held
left_by d n (Ok left) = told_with cancelled_word n 0 (record { queue = left; given = d.given; races = d.races; boards = d.boards })
left_by d n (Err r) = told_with refused_word (number_in r.reason) r.line d

pub record LeavesIn (queue : Queue) (n : ℕ) (words exit : List ℕ) (r : Result Queue Refusal) : Type 0 where
  pub serves : (d : Held) → d.queue ≡ queue → (sheets lengths codes : List ℕ)
      → Serves dispatcher_of HoldsJob d (cancel n (lent sheets lengths codes words)) exit [] (left_by d n r)
