-- `standing::stand_of` meets its contract. Assumes nothing.
use Rattle.standing.proofs.AtEnd.{stands_finished, stands_stuck, stands_open}
use Rattle.standing.proofs.stand_of.Goals as goal

pub returns-then-is_finished : goal.returns-then-is_finished
returns-then-is_finished c = search stands_finished

pub returns-then-has_no_step : goal.returns-then-has_no_step
returns-then-has_no_step c = search stands_stuck

pub returns : goal.returns
returns c = search stands_open
