-- `channel_check::taps_check` meets its contract: the numbers are those of the answer. Assumes nothing.
use Rattle.answers.proofs.TapNumbers.{small_fitted, same_fitted}
use Rattle.channel_check.proofs.taps_check.Goals as goal

pub fitted-requires : goal.fitted-requires
fitted-requires c = search small_fitted

pub returns : goal.returns
returns c = search same_fitted
