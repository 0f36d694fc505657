-- `candidates::unsent` meets its contract. The loop keeps `Filled`: the words passed are the sends that they have not. Assumes nothing.
use mir.Syntax.{w64}
use borrow.Author.Rules.{elem_Fits}
use mathlib.Core.Path.{ap}
use Prim.Native.Nat.{ℕ, ◌-◌, ◌^◌}
use native.Mathlib.Omega.{arith}
use lib.Bits.{bit_and}
use Rattle.relation.specs.Width.{word_bits}
use Rattle.relation.proofs.Words.{even_bits}
use Rattle.candidates.proofs.Filled.{filled_start, filled_more, unsent_all}
use Rattle.candidates.proofs.unsent.Goals as goal

pub loop-i-init : goal.loop-i-init
loop-i-init c = filled_start _ _ c.well_formed.0.1.0.1

pub loop-i-preserved : goal.loop-i-preserved
loop-i-preserved c = let p = c.loop-i.invariant in
    filled_more _ _ _ _ _ p (ap (λ (w : ℕ). bit_and (2 ^ word_bits - 1 - w) even_bits) (p.kept c.loop-i.i (omega arith))) c.loop-i-test.true

pub returns : goal.returns
returns c = unsent_all _ _ _ c.loop-i.invariant c.loop-i-test.false (λ j. (elem_Fits w64 w64 c.args.done c.well_formed.0.0 j c.well_formed.0.1.1 tt).fits)
