-- From the queue's data to the model's jobs. Assumes nothing.
use Rattle.std.specs.Prelude.{◌≡◌, Bool, not, cond, ◌&&◌, List, [], ◌∷◌, ℕ, ◌%◌, ◌<◌, ◌≤◌, ltb, length, take, replicate}
use Rattle.std.proofs.Math.Option.{Option, none, some}
use Rattle.model.specs.Limits.{jobs_most}
use Rattle.model.specs.Bounded.{among, lowest}
use Rattle.model.specs.Dispatcher as model
use Rattle.model.specs.Dispatcher.{places_of}
use Rattle.relation.specs.Rows.{has}
use Rattle.queue.specs.declared.Job.{Job}
use Rattle.queue.specs.declared.Queue.{Queue}
use Rattle.std.specs.Prelude as code
use Rattle.std.specs.Prelude.{Some, None}

abbrev pub job_in : Job → model.Job
job_in j = record { number = j.number; place = j.place; code = j.code; count = j.count; turns = j.turns }

unfoldable pub jobs_in : List Job → List model.Job
jobs_in [] = []
jobs_in (j ∷ js) = job_in j ∷ jobs_in js

-- the jobs of a list as far as each has a place of its own, besides those seen
unfoldable pub apart_from : List ℕ → List model.Job → List model.Job
apart_from seen [] = []
apart_from seen (j ∷ js) = cond (ltb j.place jobs_most && not (among j.place seen)) (j ∷ apart_from (j.place ∷ seen) js) []

-- the jobs held, the head first. The calls of a dispatcher leave each job in a place of its own, so that all are read; a value that none of them
-- made is read as far as that is so.
abbrev pub queue_in : Queue → List model.Job
queue_in q = apart_from [] (jobs_in (take q.held q.jobs))

-- no job is held
abbrev pub empty_queue : Queue
empty_queue = record { jobs = replicate jobs_most (record { number = 0; turns = 0; count = 0; place = 0; code = 0 }); held = 0 }

-- so many jobs of the array are held, and it has room for eight
pub record Counted (q : Queue) (count : ℕ) : Type 0 where
  pub first : queue_in q ≡ jobs_in (take count q.jobs)
  pub most : count ≤ jobs_most
  pub room : length q.jobs ≡ jobs_most

-- bit p is set exactly if a job is in place p
pub record PlacesOf (js : List model.Job) (bits : ℕ) : Type 0 where
  pub bit : (p : ℕ) → p < jobs_most → has bits p ≡ among p (places_of js)

-- no job of the queue is in the place; the lowest such place
abbrev pub is_free_in : List model.Job → ℕ → Bool
is_free_in js p = not (among p (places_of js))

abbrev pub free_place_in : List model.Job → Option ℕ
free_place_in js = lowest jobs_most (is_free_in js)

-- the head of the queue
abbrev pub head_of : List model.Job → Option model.Job
head_of [] = none
head_of (j ∷ js) = some j

abbrev pub head_in : code.Option Job → Option model.Job
head_in (Some j) = some (job_in j)
head_in None = none

-- the place of the head, where there is one; one of the eight in any case
pub record FirstPlace (js : List model.Job) (p : ℕ) : Type 0 where
  pub below : p < jobs_most
  pub head : (j : model.Job) → head_of js ≡ some j → p ≡ j.place % jobs_most
