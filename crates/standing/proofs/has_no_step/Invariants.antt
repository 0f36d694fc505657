-- `standing::has_no_step` meets its contract. Assumes nothing.
use Rattle.standing.proofs.AtEnd.{WithoutStep}
use Rattle.standing.proofs.has_no_step.Given as goal

abbrev pub invariant-loop-m : goal.invariant-loop-m
invariant-loop-m l = WithoutStep l.scenario.count l.scenario.boards.now l.scenario.words.now l.c l.parts.done.now l.parts.way.now l.parts.rows.now l.m
