-- How many jobs of a queue are held and where, and the lowest free place. Assumes nothing.
use Rattle.std.specs.Prelude.{◌≡◌, Bool, not, ◌&&◌, List, ℕ, ◌<◌, ltb}
use Rattle.std.proofs.Math.Option.{some}
use Rattle.model.specs.Limits.{jobs_most}
use Rattle.model.specs.Dispatcher as model
use Rattle.relation.specs.Rows.{has}
use Rattle.queue.specs.declared.Queue.{Queue}
use Rattle.queue.specs.declared.Taken.{Taken}
use Rattle.queue.specs.Bridge.{queue_in, Counted, PlacesOf, free_place_in}

-- a job may be put in the place, bit p of the word standing for place p: it is one of the eight, and not taken
pub record MayStand (taken place : ℕ) (r : Bool) : Type 0 where
  pub is : r ≡ (ltb place jobs_most && not (has taken place))

pub record TakenIn (q : Queue) (r : Taken) : Type 0 where
  pub counted : Counted q r.count
  pub taken : PlacesOf (queue_in q) r.places

-- the lowest free place, where there is one; one of the eight in any case
pub record SparePlace (js : List model.Job) (p : ℕ) : Type 0 where
  pub below : p < jobs_most
  pub lowest : (k : ℕ) → free_place_in js ≡ some k → p ≡ k
