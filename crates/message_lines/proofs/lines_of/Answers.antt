-- `message_lines::lines_of` meets its contract. Assumes nothing.
use borrow.Author.Rules.{rules}
use Rattle.scenario.proofs.Parts.{rows_read}
use Rattle.message_lines.proofs.Whole.{not_read, asked_rows, found}
use Rattle.message_lines.proofs.lines_of.Goals as goal

pub walk_rows-requires : goal.walk_rows-requires
walk_rows-requires c = record { rows_read = search rows_read; asked_in_bounds = search asked_rows; asked_in_bounds_2 = search rules }

pub returns-in_default : goal.returns-in_default
returns-in_default c = search not_read

pub returns-in-Ok : goal.returns-in-Ok
returns-in-Ok c = search found
