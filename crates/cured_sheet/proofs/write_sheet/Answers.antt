-- `cured_sheet::write_sheet` meets its contract. Assumes nothing.
use Rattle.cured_sheet.proofs.Rows.{sheet_room, sheet_written}
use borrow.Author.Rules.{rules}
use Rattle.cured_sheet.proofs.write_sheet.Goals as goal

pub write_orders-requires : goal.write_orders-requires
write_orders-requires c = record { count_le_messages_most = search rules; width_in_bounds = search rules; row_bytes_most_in_bounds = search sheet_room }

pub returns : goal.returns
returns c = search sheet_written
