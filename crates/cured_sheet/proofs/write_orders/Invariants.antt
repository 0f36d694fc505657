-- `cured_sheet::write_orders` meets its contract. Assumes nothing.
use Prim.Native.Nat.{◌*◌, ◌-◌}
use Rattle.cured_sheet.proofs.Rows.{To}
use Rattle.cured_sheet.proofs.write_orders.Given as goal

abbrev pub invariant-loop-x : goal.invariant-loop-x
invariant-loop-x l = To l.words l.count l.initial.rest l.rest l.at l.span l.x

abbrev pub decreases-loop-x : goal.decreases-loop-x
decreases-loop-x l = 2 * l.count - l.x
