-- `waits::waits_of` meets its contract. The loop keeps `Answered`: the boards passed are answered. Assumes nothing.
use Rattle.model.specs.Waits.{wait_of}
use Rattle.relation.specs.Scenario.{scenario_in}
use Rattle.run.specs.State.{state_of}
use Rattle.waits.proofs.Searching.{Answered}
use Rattle.waits.proofs.waits_of.Given as goal

abbrev pub invariant-loop-b : goal.invariant-loop-b
invariant-loop-b l = Answered (wait_of (scenario_in l.scenario.count l.scenario.boards.now l.scenario.words.now) (state_of l.run)) l.b l.waits
