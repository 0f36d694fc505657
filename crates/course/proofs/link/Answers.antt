-- `course::link` meets its contract. The loop keeps `Linking`: the links ahead of the place at hand are in the words. Assumes nothing.
use Prim.Native.Nat.{◌-◌}
use Rattle.course.proofs.Lists.{linking_start, linking_more, linking_end, member_fits}
use mathlib.Core.Path.{refl}
use native.Mathlib.Omega.{arith}
use Rattle.course.proofs.link.Goals as goal

pub loop-i-init : goal.loop-i-init
loop-i-init c = search linking_start

pub insert-requires : goal.insert-requires
insert-requires c = let linked = c.loop-i.invariant in
    let x = member_fits _ _ _ _ _ (c.loop-i.i - 1) _ c.requires.room c.requires.list_value linked (omega arith) refl in
    let y = member_fits _ _ _ _ _ c.loop-i.i _ c.requires.room c.requires.list_value linked c.loop-i-test.true refl in
    record { width_in_bounds = search (x.1, y.1); width_in_bounds_2 = search (x.1, y.1); width_in_bounds_3 = omega (arith, c.requires.room.rows, linked.long); x_bound = search (x.0, y.0); y_bound = search (x.0, y.0) }

pub loop-i-preserved : goal.loop-i-preserved
loop-i-preserved c = linking_more _ _ _ _ _ _ _ _ c.loop-i.invariant c.loop-i-test.true refl
    refl c.insert.ensures

pub returns : goal.returns
returns c = search linking_end
