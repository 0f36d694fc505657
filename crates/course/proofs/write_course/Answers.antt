-- `course::write_course` meets its contract. The loop keeps `Writing`: so many events of the course are written, and which are left. Assumes nothing.
use mathlib.Core.Path.{refl}
use Rattle.course.proofs.Written.{writing_start, finds, found_below, writing_more, writing_end}
use native.Mathlib.Omega.{arith}
use Rattle.course.proofs.write_course.Goals as goal

pub loop-i-init : goal.loop-i-init
loop-i-init c = writing_start _ _ _ _ c.all_left-left.ensures c.all_left-left.type_inv.1.0.1

pub unwrap-k-requires : goal.unwrap-k-requires
unwrap-k-requires c = finds _ _ c.requires.no_circle _ _ _ _ c.loop-i.invariant c.requires.events_bound.0 c.loop-i-test.true _ c.next_event.ensures

pub overflow_cast-output : goal.overflow_cast-output
overflow_cast-output c = let below = found_below _ _ c.requires.no_circle _ _ _ _ c.loop-i.invariant c.requires.events_bound.0 c.loop-i-test.true _ _ c.next_event.ensures c.unwrap-k.ensures in
    record { fits = omega arith }

pub without-left-requires : goal.without-left-requires
without-left-requires c = let below = found_below _ _ c.requires.no_circle _ _ _ _ c.loop-i.invariant c.requires.events_bound.0 c.loop-i-test.true _ _ c.next_event.ensures c.unwrap-k.ensures in
    omega arith

pub loop-i-preserved : goal.loop-i-preserved
loop-i-preserved c = writing_more _ _ c.requires.no_circle _ _ _ _ c.loop-i.invariant c.requires.events_bound.0 c.loop-i-test.true _ _ c.next_event.ensures c.unwrap-k.ensures _ _
    c.requires.events_bound.1 refl c.without-left.ensures c.without-left.type_inv.1.0.1

pub returns : goal.returns
returns c = search writing_end
