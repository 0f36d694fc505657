-- `candidates::needed_deliveries` meets its contract. The loop keeps `Filled`: the words passed are those in common with the sends whose receive the relation's row has. Assumes nothing.
use Rattle.candidates.proofs.Filled.{Filled, behind_sends}
use Rattle.candidates.proofs.needed_deliveries.Given as goal

abbrev pub invariant-loop-i : goal.invariant-loop-i
invariant-loop-i l = Filled (behind_sends l.words l.from l.initial.kept) l.initial.kept l.kept l.i
