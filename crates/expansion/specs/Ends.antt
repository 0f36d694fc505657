-- Where a walk begins and where it ends, as the code keeps it. Assumes nothing.
use Rattle.std.specs.Prelude.{ℕ, ◌*◌, ◌≤◌, ◌≡◌, List, Result, Ok, Err}
use Rattle.model.specs.Limits.{boards, messages_most, calls_most}
use Rattle.model.specs.Refusal.{Out, ok}
use Rattle.model.specs.Expansion.{Progress}
use Rattle.relation.specs.Width.{width}
use Rattle.blocks.specs.Store.{Store, store_of}
use Rattle.blocks.specs.Room.{Room}
use Rattle.walk.specs.Block.{fresh, state_of}
use Rattle.walk.specs.declared.Walk.{Walk}
use Rattle.outcome.specs.declared.Refusal.{Refusal}
use Rattle.outcome.specs.Refusals.{refused_in}
use Rattle.expansion.specs.Outcome.{zeros}

-- nothing is met, whatever the words hold
abbrev pub beginning : List ℕ → Progress Store
beginning words = state_of fresh (store_of (zeros (2 * messages_most)) words (zeros (boards * width)))

-- a walk from which the next can go on: the open block is empty, and the limits are kept
pub record Rests (w : Walk) (t : Store) : Type 0 where
  pub few : w.calls ≤ calls_most
  pub empty : w.first ≡ w.count
  pub room : Room w.count w.count t

abbrev pub ended_of : Result Walk Refusal → Store → Out (Progress Store)
ended_of (Ok w) t = ok (state_of w t)
ended_of (Err r) t = refused_in r

abbrev pub RestsAt : Result Walk Refusal → Store → Type 0
RestsAt (Ok w) t = Rests w t
RestsAt (Err r) t = Unit {0}

pub record Ends (r : Result Walk Refusal) (t : Store) (expected : Out (Progress Store)) : Type 0 where
  pub exact : ended_of r t ≡ expected
  pub rests : RestsAt r t
