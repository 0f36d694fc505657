-- `complete` meets its contract. The loop's invariant: no call up to row `i` is to an absent sheet. Assumes nothing.
use Rattle.presence.proofs.Searching.{Searching}
use Rattle.presence.proofs.complete.Given as goal

abbrev pub invariant-loop-i : goal.invariant-loop-i
invariant-loop-i l = Searching l.kind l.one l.two l.start l.count l.i
