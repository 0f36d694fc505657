-- `candidates::needed_deliveries` meets its contract. The loop keeps `Filled`: the words passed are those in common with the sends whose receive the relation's row has. Assumes nothing.
use mathlib.Core.Path.{ap}
use Prim.Native.Nat.{ℕ, ◌+◌, ◌*◌, ◌/◌, ◌^◌}
use native.Mathlib.Omega.{arith}
use lib.Bits.{bit_and}
use lib.ListN.{get_or}
use Rattle.relation.specs.Width.{width}
use Rattle.candidates.proofs.Filled.{filled_start, filled_more, needed_deliveries_all}
use Rattle.candidates.proofs.needed_deliveries.Goals as goal

pub loop-i-init : goal.loop-i-init
loop-i-init c = filled_start _ _ c.well_formed.1.1.0.1.0.1

pub loop-i-preserved : goal.loop-i-preserved
loop-i-preserved c = let p = c.loop-i.invariant in
    filled_more _ _ _ _ _ p (ap (λ (w : ℕ). bit_and w (get_or c.args.words.now (2 * c.args.e * width + c.loop-i.i) 0 / 2 ^ 1)) (p.kept c.loop-i.i (omega arith))) c.loop-i-test.true

pub returns : goal.returns
returns c = needed_deliveries_all _ _ _ _ _ c.loop-i.invariant c.loop-i-test.false
