-- `receivers::receivers_of` meets its contract: the loop keeps what the rules from number i on permit. Assumes nothing.
use Rattle.receivers.proofs.Deciding.{Going}
use Rattle.receivers.proofs.receivers_of.Given as goal

abbrev pub invariant-loop-i : goal.invariant-loop-i
invariant-loop-i l = Going l.rules l.count l.sender l.i l.receivers
