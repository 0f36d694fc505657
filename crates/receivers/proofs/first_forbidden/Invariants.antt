-- `receivers::first_forbidden` meets its contract: the loop keeps that no message passed is forbidden. Assumes nothing.
use mathlib.Core.Path.{◌≡◌}
use mathlib.Core.Option.{none}
use Prim.Native.Nat.{◌≤◌}
use Rattle.model.specs.Bounded.{lowest}
use Rattle.receivers.specs.Permitted.{is_forbidden_in}
use Rattle.receivers.proofs.first_forbidden.Given as goal

abbrev pub invariant-loop-m : goal.invariant-loop-m
invariant-loop-m l = (lowest l.m (is_forbidden_in l.permitted l.boards) ≡ none) × (l.m ≤ l.count)
