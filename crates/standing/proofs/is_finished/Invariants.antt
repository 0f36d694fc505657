-- `standing::is_finished` meets its contract. Assumes nothing.
use Rattle.standing.proofs.AtEnd.{Finishing}
use Rattle.standing.proofs.is_finished.Given as goal

abbrev pub invariant-loop-m : goal.invariant-loop-m
invariant-loop-m l = Finishing l.done l.count l.m
