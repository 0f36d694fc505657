-- `cured_sheet::write_listed` meets its contract. Assumes nothing.
use Rattle.cured_sheet.proofs.Rows.{listed_room, listed_written}
use borrow.Author.Rules.{rules}
use Rattle.cured_sheet.proofs.write_listed.Goals as goal

pub write_messages-requires : goal.write_messages-requires
write_messages-requires c = record { count_le_messages_most = search rules; count_in_bounds = search listed_room }

pub returns : goal.returns
returns c = record { writes = search listed_written; upper_bound = search rules }
