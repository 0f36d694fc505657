-- `replay::trace_check` meets its contract: the numbers are those of the verdict. Assumes nothing.
use Rattle.replay.proofs.Whole.{small_replayed, same_numbers}
use Rattle.replay.proofs.trace_check.Goals as goal

pub numbers-requires : goal.numbers-requires
numbers-requires c = search small_replayed

pub returns : goal.returns
returns c = search same_numbers
