-- `cured_sheet::events_of` meets its contract. Assumes nothing.
use Prim.Native.Nat.{◌-◌}
use Rattle.cured_sheet.proofs.Spans.{Gathered}
use Rattle.cured_sheet.proofs.events_of.Given as goal

abbrev pub invariant-loop-e : goal.invariant-loop-e
invariant-loop-e l = Gathered l.words l.count l.w l.e l.events

abbrev pub decreases-loop-e : goal.decreases-loop-e
decreases-loop-e l = l.count - l.e
