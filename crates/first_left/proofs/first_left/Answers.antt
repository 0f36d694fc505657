-- `first_left` meets its contract: in the first word that has an event left, its lowest bit is the event.
use mathlib.Core.Path.{refl}
use Prim.Native.Nat.{◌+◌, ◌*◌}
use Rattle.model.specs.Bounded.{lowest}
use Rattle.relation.specs.Width.{width}
use Rattle.first_left.proofs.Words.{left_more, left_here, left_end}
use Rattle.first_left.proofs.first_left.Goals as goal

pub loop-i-init : goal.loop-i-init
unfolding lowest
loop-i-init c = refl

pub returns-then-left-ne0 : goal.returns-then-left-ne0
returns-then-left-ne0 c = let a = c.args in
    left_here width a.words.now a.y a.masks.now a.mask a.done.now (λ j. (c.type_inv.done j).fits) c.loop-i.i
    c.if-left-ne0.true (c.type_inv.masks (a.mask * width + c.loop-i.i)).fits c.loop-i.invariant c.loop-i-test.true

pub loop-i-preserved : goal.loop-i-preserved
loop-i-preserved c = let a = c.args in
    left_more width a.words.now a.y a.masks.now a.mask a.done.now (λ j. (c.type_inv.done j).fits) c.loop-i.i
    c.if-left-ne0.false c.loop-i.invariant c.loop-i-test.true

pub returns : goal.returns
returns c = search left_end
