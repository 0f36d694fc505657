-- `receivers::permitted_by` meets its contract: the loop keeps that the senders passed have their sets. Assumes nothing.
use Rattle.receivers.proofs.Deciding.{Filling}
use Rattle.receivers.proofs.permitted_by.Given as goal

abbrev pub invariant-loop-sender : goal.invariant-loop-sender
invariant-loop-sender l = Filling l.rules l.count l.sender l.permitted
