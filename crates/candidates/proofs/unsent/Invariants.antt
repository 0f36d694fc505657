-- `candidates::unsent` meets its contract. The loop keeps `Filled`: the words passed are the sends that they have not. Assumes nothing.
use Rattle.candidates.proofs.Filled.{Filled, sends_out}
use Rattle.candidates.proofs.unsent.Given as goal

abbrev pub invariant-loop-i : goal.invariant-loop-i
invariant-loop-i l = Filled (sends_out l.initial.rest) l.initial.rest l.rest l.i
