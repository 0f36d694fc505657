-- `free_in_word` meets its contract. The loop keeps `Trying`: the bits that it took out are of no free event. Assumes nothing.
use Rattle.free_event.proofs.Taking.{trying_start, bit_below, trying_found, fewer_less, trying_more, trying_end}
use mathlib.Core.Path.{refl}
use borrow.Author.Rules.{rules}
use native.Mathlib.Omega.{arith}
use Rattle.free_event.proofs.free_in_word.Goals as goal

pub loop-bits-init : goal.loop-bits-init
loop-bits-init c = trying_start _ _ _ (c.shared_slice_known-3-1.given _).fits

pub overflow_add-k : goal.overflow_add-k
overflow_add-k c = let few = bit_below _ _ _ _ _ refl c.loop-bits.invariant c.loop-bits-test.true in
    record { fits = omega arith }

pub none_of-requires : goal.none_of-requires
none_of-requires c = let few = bit_below _ _ _ _ _ refl c.loop-bits.invariant c.loop-bits-test.true in
    record { width_in_bounds = omega arith; width_in_bounds_2 = search rules }

pub returns-then-none_of : goal.returns-then-none_of
returns-then-none_of c = search trying_found

pub overflow_shl-bits : goal.overflow_shl-bits
overflow_shl-bits c = let few = bit_below _ _ _ _ _ refl c.loop-bits.invariant c.loop-bits-test.true in
    omega arith

pub loop-bits-smaller : goal.loop-bits-smaller
loop-bits-smaller c = search fewer_less

pub loop-bits-preserved : goal.loop-bits-preserved
loop-bits-preserved c = search trying_more

pub returns : goal.returns
returns c = search trying_end
