-- `first_left` meets its contract. The loop keeps that no event of the words passed is left undone.
use mathlib.Core.Path.{◌≡◌}
use mathlib.Core.Option.{none}
use Prim.Native.Nat.{◌*◌}
use Rattle.model.specs.Bounded.{lowest}
use Rattle.relation.specs.Width.{width, word_bits}
use Rattle.first_left.specs.Left.{left_of}
use Rattle.first_left.proofs.first_left.Given as goal

abbrev pub invariant-loop-i : goal.invariant-loop-i
invariant-loop-i l = lowest (word_bits * l.i) (left_of width l.words l.y l.masks l.mask l.done) ≡ none
