-- `lowest_message` meets its contract. Assumes nothing.
use Prim.Native.Nat.{◌-◌}
use Rattle.race.specs.Bridge.{rule_in}
use Rattle.lowest_race.proofs.Messages.{Passed}
use Rattle.lowest_race.proofs.lowest_message.Given as goal

abbrev pub invariant-loop-e : goal.invariant-loop-e
invariant-loop-e l = Passed l.scenario.count l.scenario.boards.now l.scenario.words.now (rule_in l.rule) l.e

abbrev pub decreases-loop-e : goal.decreases-loop-e
decreases-loop-e l = l.scenario.count - l.e
