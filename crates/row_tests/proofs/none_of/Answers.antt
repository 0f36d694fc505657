-- `none_of` meets its contract. The loop keeps that the words passed have no event in common.
use mathlib.Core.Path.{refl}
use Prim.Native.Nat.{◌+◌, ◌*◌}
use Rattle.model.specs.Bounded.{every}
use Rattle.relation.specs.Width.{width}
use Rattle.row_tests.specs.Tests.{none_in}
use Rattle.row_tests.proofs.Words.{none_of_more, none_of_found, none_of_end}
use Rattle.row_tests.proofs.none_of.Goals as goal

pub loop-i-init : goal.loop-i-init
unfolding none_in every
loop-i-init c = refl

pub returns-then-masks-by-ne0 : goal.returns-then-masks-by-ne0
returns-then-masks-by-ne0 c = let a = c.args in
    none_of_found width a.masks.now a.mask a.given.now a.y c.loop-i.i c.if-masks-by-ne0.true
    (c.type_inv.masks (a.mask * width + c.loop-i.i)).fits c.loop-i-test.true

pub loop-i-preserved : goal.loop-i-preserved
loop-i-preserved c = search none_of_more

pub returns : goal.returns
returns c = search none_of_end
