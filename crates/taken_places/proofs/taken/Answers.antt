-- `taken_places::taken` meets its contract. Assumes nothing.
use mathlib.Core.Bool.{not}
use mathlib.Core.Path.{ap}
use Prim.Native.Nat.{◌-◌}
use Rattle.queue.proofs.Room.{room}
use Rattle.taken_places.proofs.Standing.{standing_none, standing_held, standing_all, standing_barred, standing_one, stands_below}
use borrow.Author.Rules.{rules}
use Rattle.taken_places.proofs.taken.Goals as goal

pub loop-i-init : goal.loop-i-init
loop-i-init c = search standing_none

pub returns-then-queue-i : goal.returns-then-queue-i
returns-then-queue-i c = standing_held _ (room c.args.queue _ c.well_formed.0) _ _ c.loop-i.invariant (search rules)

pub returns-then-not-may_stand : goal.returns-then-not-may_stand
returns-then-not-may_stand c = standing_barred _ (room c.args.queue _ c.well_formed.0) _ _ c.loop-i.invariant _ _ c.may_stand.ensures (search rules) (search rules) (ap not c.if-not-may_stand.true)

pub overflow_shl-places : goal.overflow_shl-places
overflow_shl-places c = let low = stands_below _ _ _ c.may_stand.ensures (ap not c.if-not-may_stand.false) in search rules

pub loop-i-preserved : goal.loop-i-preserved
loop-i-preserved c = standing_one _ (room c.args.queue _ c.well_formed.0) _ _ c.loop-i.invariant _ _ c.may_stand.ensures (search rules) (search rules) (ap not c.if-not-may_stand.false)

pub returns : goal.returns
returns c = standing_all _ (room c.args.queue _ c.well_formed.0) _ _ c.loop-i.invariant (search rules)
