-- `channel_check::permitted_check` meets its contract. Assumes nothing.
use Rattle.answers.proofs.TableNumbers.{small_permitted, same_permitted}
use Rattle.channel_check.proofs.permitted_check.Goals as goal

pub checked-requires : goal.checked-requires
checked-requires c = search small_permitted

pub returns : goal.returns
returns c = search same_permitted
