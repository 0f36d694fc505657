-- `covers::hide_word` meets its contract. Assumes nothing.
use Prim.Native.Nat.{◌-◌}
use Rattle.relation.specs.Width.{word_bits}
use Rattle.covers.proofs.Hiding.{Taking}
use Rattle.covers.proofs.hide_word.Given as goal

abbrev pub invariant-loop-bit : goal.invariant-loop-bit
invariant-loop-bit l = Taking l.words l.count l.e l.i l.bit l.hidden

abbrev pub decreases-loop-bit : goal.decreases-loop-bit
decreases-loop-bit l = word_bits - l.bit
