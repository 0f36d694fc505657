-- `closure::lowest_own` meets its contract. The loop keeps that no row passed holds its own event.
use mathlib.Core.Path.{◌≡◌}
use mathlib.Core.Option.{none}
use Prim.Native.Nat.{◌-◌, ◌≤◌}
use Rattle.model.specs.Bounded.{lowest}
use Rattle.relation.specs.Width.{width}
use Rattle.relation.specs.Own.{is_own}
use Rattle.closure.proofs.lowest_own.Given as goal

abbrev pub invariant-loop-event : goal.invariant-loop-event
invariant-loop-event l = (lowest l.event (is_own width l.words) ≡ none) × (l.event ≤ l.rows)

abbrev pub decreases-loop-event : goal.decreases-loop-event
decreases-loop-event l = l.rows - l.event
