-- `candidates::needed` meets its contract. The loop keeps `Filled`: the words passed are those in common. Assumes nothing.
use Rattle.candidates.proofs.Filled.{Filled, common}
use Rattle.candidates.proofs.needed.Given as goal

abbrev pub invariant-loop-i : goal.invariant-loop-i
invariant-loop-i l = Filled (common l.words l.from l.row) l.row l.kept l.i
