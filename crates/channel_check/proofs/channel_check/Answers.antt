-- `channel_check::channel_check` meets its contract: the numbers are those of the answer, and the theorem is the model's. Assumes nothing.
use Rattle.model.proofs.EverySheet.{every_sheet}
use Rattle.answers.proofs.CheckNumbers.{small_checked, same_numbers}
use Rattle.channel_check.proofs.channel_check.Goals as goal

pub checked-requires : goal.checked-requires
checked-requires c = search small_checked

pub returns : goal.returns
returns c = record { checked = search same_numbers; every_sheet = every_sheet }
