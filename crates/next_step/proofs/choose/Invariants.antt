-- `next_step::choose` meets its contract. Assumes nothing.
use Rattle.next_step.proofs.Searching.{Tried}
use Rattle.next_step.proofs.choose.Given as goal

abbrev pub invariant-loop-class : goal.invariant-loop-class
invariant-loop-class l = Tried l.scenario.count l.scenario.boards.now l.scenario.words.now l.c l.parts.done.now l.parts.way.now l.parts.rows.now l.e l.class-index
