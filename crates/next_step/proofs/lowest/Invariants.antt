-- `next_step::lowest` meets its contract. Assumes nothing.
use Prim.Native.Nat.{◌-◌}
use Rattle.next_step.proofs.Searching.{Passed}
use Rattle.next_step.proofs.lowest.Given as goal

abbrev pub invariant-loop-m : goal.invariant-loop-m
invariant-loop-m l = Passed l.scenario.count l.scenario.boards.now l.scenario.words.now l.c l.parts.done.now l.parts.way.now l.parts.rows.now l.e l.class l.m

abbrev pub decreases-loop-m : goal.decreases-loop-m
decreases-loop-m l = l.scenario.count - l.m
