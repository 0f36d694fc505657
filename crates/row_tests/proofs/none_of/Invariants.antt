-- `none_of` meets its contract. The loop keeps that the words passed have no event in common.
use mathlib.Core.Path.{◌≡◌}
use mathlib.Core.Bool.{true}
use Prim.Native.Nat.{◌*◌}
use Rattle.relation.specs.Width.{width, word_bits}
use Rattle.row_tests.specs.Tests.{none_in}
use Rattle.row_tests.proofs.none_of.Given as goal

abbrev pub invariant-loop-i : goal.invariant-loop-i
invariant-loop-i l = none_in (word_bits * l.i) width l.masks l.mask l.given l.y ≡ true
