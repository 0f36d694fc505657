-- `lent_sheet::read_sheet` meets its contract. Assumes nothing.
use Rattle.lent_sheet.proofs.Parts.{reads}
use Rattle.lent_sheet.proofs.read_sheet.Goals as goal

pub returns : goal.returns
returns c = search reads
