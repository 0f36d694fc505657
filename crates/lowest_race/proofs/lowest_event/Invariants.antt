-- `lowest_event` meets its contract. Assumes nothing.
use Prim.Native.Nat.{◌-◌}
use Rattle.relation.specs.Width.{width}
use Rattle.race.specs.Bridge.{rule_in}
use Rattle.lowest_race.proofs.Events.{Searched}
use Rattle.lowest_race.proofs.lowest_event.Given as goal

abbrev pub invariant-loop-w : goal.invariant-loop-w
invariant-loop-w l = Searched l.scenario.count l.scenario.boards.now l.scenario.words.now (rule_in l.rule) l.e l.w

abbrev pub decreases-loop-w : goal.decreases-loop-w
decreases-loop-w l = width - l.w
