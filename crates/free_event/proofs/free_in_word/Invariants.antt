-- `free_in_word` meets its contract. The loop keeps `Trying`: the bits that it took out are of no free event. Assumes nothing.
use Rattle.free_event.proofs.Taking.{Trying}
use Rattle.free_event.proofs.free_in_word.Given as goal

abbrev pub invariant-loop-bits : goal.invariant-loop-bits
invariant-loop-bits l = Trying l.words l.left l.w l.bits

abbrev pub decreases-loop-bits : goal.decreases-loop-bits
decreases-loop-bits l = l.bits
