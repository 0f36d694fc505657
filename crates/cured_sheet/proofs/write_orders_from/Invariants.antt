-- `cured_sheet::write_orders_from` meets its contract. Assumes nothing.
use Prim.Native.Nat.{◌-◌}
use Rattle.cured_sheet.proofs.Rows.{From}
use Rattle.cured_sheet.proofs.write_orders_from.Given as goal

abbrev pub invariant-loop-e : goal.invariant-loop-e
invariant-loop-e l = From l.words l.count l.x l.initial.rest l.rest l.at l.e

abbrev pub decreases-loop-e : goal.decreases-loop-e
decreases-loop-e l = l.e-end - l.e
