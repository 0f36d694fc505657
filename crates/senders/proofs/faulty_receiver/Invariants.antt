-- `faulty_receiver` meets its contract. Assumes nothing.
use Rattle.senders.proofs.Receivers.{Searching}
use Rattle.senders.proofs.faulty_receiver.Given as goal

abbrev pub invariant-loop-receiver : goal.invariant-loop-receiver
invariant-loop-receiver l = Searching l.once l.twice l.receiver
