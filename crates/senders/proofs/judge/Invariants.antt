-- `judge` meets its contract. The loop's invariant: no pair of the senders passed is faulty. Assumes nothing.
use lib.ListN.{take}
use Rattle.senders.proofs.Judging.{Judging}
use Rattle.senders.proofs.judge.Given as goal

abbrev pub invariant-loop-sender : goal.invariant-loop-sender
invariant-loop-sender l = Judging (take l.count l.rules) l.sender
