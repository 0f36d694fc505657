-- `trace_steps::take_steps` meets its contract. Assumes nothing.
use Rattle.trace_steps.proofs.Going.{Going}
use Rattle.trace_steps.proofs.take_steps.Given as goal

abbrev pub invariant-loop-i : goal.invariant-loop-i
invariant-loop-i l = Going l.scenario.count l.scenario.boards.now l.scenario.words.now l.c l.trace l.i-end l.run l.i
