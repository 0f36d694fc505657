-- The events that are left, in a row that stands by itself, and a relation that a course can be taken from. Assumes nothing.
use Rattle.std.specs.Prelude.{◌≡◌, List, ℕ, ◌<◌, ltb}
use Rattle.std.proofs.Math.Option.{none}
use Rattle.model.specs.Bounded.{lowest}
use Rattle.relation.specs.Width.{width}
use Rattle.relation.specs.Order.{before, Transitive}
use Rattle.relation.specs.Own.{is_own}
use Rattle.run.specs.State.{in_row}
use Rattle.free_event.specs.Free.{row_bits}

-- the first n events are left
abbrev pub AllLeft : ℕ → List ℕ → Type 0
AllLeft n left = (k : ℕ) → k < row_bits → in_row left k ≡ ltb k n

-- the relation of the first n events is closed, and none of them is before itself
pub record NoCircle (n : ℕ) (words : List ℕ) : Type 0 where
  pub closed : Transitive n (before width words)
  pub none_own : lowest n (is_own width words) ≡ none
