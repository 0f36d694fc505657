-- `cured_sheet::write_messages` meets its contract. Assumes nothing.
use Prim.Native.Nat.{◌-◌}
use Rattle.cured_sheet.proofs.Rows.{Messages}
use Rattle.cured_sheet.proofs.write_messages.Given as goal

abbrev pub invariant-loop-m : goal.invariant-loop-m
invariant-loop-m l = Messages l.boards l.count l.initial.rest l.rest l.at l.m

abbrev pub decreases-loop-m : goal.decreases-loop-m
decreases-loop-m l = l.count - l.m
