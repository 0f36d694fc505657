-- `race_list::list_messages` meets its contract. The races of the messages passed are added. Assumes nothing.
use Prim.Native.Nat.{◌-◌}
use Rattle.race.specs.Bridge.{rule_in}
use Rattle.race_list.proofs.Words.{Messaged}
use Rattle.race_list.proofs.list_messages.Given as goal

abbrev pub invariant-loop-e : goal.invariant-loop-e
invariant-loop-e l = Messaged l.scenario.count l.scenario.boards.now l.scenario.words.now (rule_in l.rule) l.initial.output l.e l.output l.found

abbrev pub decreases-loop-e : goal.decreases-loop-e
decreases-loop-e l = l.scenario.count - l.e
