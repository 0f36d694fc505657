-- `channel_check::senders_check` meets its contract. Assumes nothing.
use Rattle.answers.proofs.TableNumbers.{small_judged, same_judged}
use Rattle.channel_check.proofs.senders_check.Goals as goal

pub judged-requires : goal.judged-requires
judged-requires c = search small_judged

pub returns : goal.returns
returns c = search same_judged
