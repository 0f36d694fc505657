-- `sheet_text::write_row` meets its contract. Assumes nothing.
use Rattle.sheet_text.proofs.Putting.{row_writes}
use Rattle.sheet_text.proofs.write_row.Goals as goal

pub returns : goal.returns
returns c = search row_writes
