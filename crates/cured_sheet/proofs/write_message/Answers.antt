-- `cured_sheet::write_message` meets its contract. Assumes nothing.
use Rattle.cured_sheet.proofs.Rows.{message_writes}
use Rattle.cured_sheet.proofs.write_message.Goals as goal

pub returns : goal.returns
returns c = search message_writes
