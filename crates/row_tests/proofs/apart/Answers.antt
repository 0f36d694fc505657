-- `apart` meets its contract. The loop keeps that the words passed have no event in common.
use mathlib.Core.Path.{refl}
use Prim.Native.Nat.{◌+◌, ◌*◌}
use lib.ListN.{get_or}
use Rattle.model.specs.Bounded.{every}
use Rattle.relation.specs.Width.{width}
use Rattle.relation.proofs.Words.{alone_row}
use Rattle.run.specs.State.{in_row}
use Rattle.row_tests.specs.Tests.{none_of_row}
use Rattle.row_tests.proofs.Words.{row_more, row_found, row_end}
use Rattle.row_tests.proofs.apart.Goals as goal

pub loop-i-init : goal.loop-i-init
unfolding none_of_row every
loop-i-init c = refl

pub returns-then-words-at-ne0 : goal.returns-then-words-at-ne0
returns-then-words-at-ne0 c = let a = c.args in
    row_found width a.words.now a.y a.masks.now a.mask (in_row a.given.now) (λ j. get_or a.given.now j 0) (alone_row width a.given.now) c.loop-i.i c.if-words-at-ne0.true
    (c.type_inv.masks (a.mask * width + c.loop-i.i)).fits c.loop-i-test.true

pub loop-i-preserved : goal.loop-i-preserved
loop-i-preserved c = let a = c.args in
    row_more width a.words.now a.y a.masks.now a.mask (in_row a.given.now) (λ j. get_or a.given.now j 0) (alone_row width a.given.now) c.loop-i.i
    c.if-words-at-ne0.false c.loop-i.invariant c.loop-i-test.true

pub returns : goal.returns
returns c = search row_end
