-- `apart` meets its contract. The loop keeps that the words passed have no event in common.
use mathlib.Core.Path.{◌≡◌}
use mathlib.Core.Bool.{true}
use Prim.Native.Nat.{◌*◌}
use Rattle.relation.specs.Width.{width, word_bits}
use Rattle.run.specs.State.{in_row}
use Rattle.row_tests.specs.Tests.{none_of_row}
use Rattle.row_tests.proofs.apart.Given as goal

abbrev pub invariant-loop-i : goal.invariant-loop-i
invariant-loop-i l = none_of_row (word_bits * l.i) width l.words l.y l.masks l.mask (in_row l.given) ≡ true
