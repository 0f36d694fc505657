-- `cured_sheet::write_head` meets its contract. Assumes nothing.
use Rattle.cured_sheet.proofs.Rows.{head_room, head_written, head_few}
use native.Mathlib.Omega.{arith}
use Rattle.cured_sheet.proofs.write_head.Goals as goal

pub write_row-requires : goal.write_row-requires
write_row-requires c = (search head_room, omega arith, omega arith)

pub returns : goal.returns
returns c = record { writes = search head_written; upper_bound = search head_few }
