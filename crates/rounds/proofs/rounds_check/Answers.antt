-- `rounds::rounds_check` meets its contract: the numbers are those of the answer. Assumes nothing.
use Rattle.rounds.proofs.Bounds.{small_checked}
use Rattle.rounds.proofs.Whole.{told_checked}
use Rattle.rounds.proofs.rounds_check.Goals as goal

pub told-requires : goal.told-requires
told-requires c = search small_checked

pub returns : goal.returns
returns c = search told_checked
