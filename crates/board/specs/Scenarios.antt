-- The scenario that the code's value holds. Assumes nothing.
use Rattle.model.specs.Order as model
use Rattle.relation.specs.Scenario.{scenario_in}
use Rattle.board.specs.declared.Scenario.{Scenario}

abbrev pub scenario_of : Scenario → model.Scenario
scenario_of s = scenario_in s.count s.boards.now s.words.now
