-- `choice::choice_check` meets its contract: the numbers are those of the answer. Assumes nothing.
use Rattle.choice.proofs.Whole.{small_checked, same_numbers}
use Rattle.choice.proofs.choice_check.Goals as goal

pub numbers-requires : goal.numbers-requires
numbers-requires c = search small_checked

pub returns : goal.returns
returns c = search same_numbers
