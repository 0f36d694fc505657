-- `race_list::list_message` meets its contract. The races of the words passed are added. Assumes nothing.
use Prim.Native.Nat.{◌-◌}
use Rattle.race.specs.Bridge.{rule_in}
use Rattle.race_list.proofs.Words.{Worded}
use Rattle.race_list.proofs.list_message.Given as goal

abbrev pub invariant-loop-w : goal.invariant-loop-w
invariant-loop-w l = Worded l.scenario.count l.scenario.boards.now l.scenario.words.now (rule_in l.rule) l.e l.initial.output l.found l.w l.output l.at

abbrev pub decreases-loop-w : goal.decreases-loop-w
decreases-loop-w l = l.used - l.w
