-- `share::lowest_between` meets its contract. Assumes nothing.
use Prim.Native.Nat.{◌-◌}
use Rattle.race.specs.Bridge.{rule_in}
use Rattle.race.proofs.Search.{Between}
use Rattle.share.proofs.lowest_between.Given as goal

abbrev pub invariant-loop-w : goal.invariant-loop-w
invariant-loop-w l = Between l.count l.boards l.words (rule_in l.rule) l.e l.from l.w

abbrev pub decreases-loop-w : goal.decreases-loop-w
decreases-loop-w l = l.to - l.w
