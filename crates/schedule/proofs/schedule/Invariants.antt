-- `schedule::schedule` meets its contract. The loop keeps `Goes`. Assumes nothing.
use Rattle.schedule.proofs.Running.{Goes}
use Rattle.schedule.proofs.schedule.Given as goal

abbrev pub invariant-loop-i : goal.invariant-loop-i
invariant-loop-i l = Goes l.scenario.count l.scenario.boards.now l.scenario.words.now l.scenario.masks.now l.c l.e l.initial.trace l.i-end l.trace l.run l.rows l.held l.i
