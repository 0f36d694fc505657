-- `covers::cover` meets its contract. Assumes nothing.
use Prim.Native.Nat.{◌-◌}
use Rattle.relation.specs.Width.{width}
use Rattle.covers.proofs.Covering.{Covering}
use Rattle.covers.proofs.cover.Given as goal

abbrev pub invariant-loop-i : goal.invariant-loop-i
invariant-loop-i l = Covering l.scenario.words.now l.scenario.masks.now l.scenario.boards.now l.scenario.count l.e l.hidden l.i l.row

abbrev pub decreases-loop-i : goal.decreases-loop-i
decreases-loop-i l = width - l.i
