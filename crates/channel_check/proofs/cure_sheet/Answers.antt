-- `channel_check::cure_sheet` meets its contract: the numbers are those of the answer. Assumes nothing.
use Rattle.answers.proofs.CureNumbers.{small_cured, same_cured}
use Rattle.channel_check.proofs.cure_sheet.Goals as goal

pub cured-requires : goal.cured-requires
cured-requires c = search small_cured

pub returns : goal.returns
returns c = search same_cured
