-- `monitor_standing::standing_of` meets its contract. Assumes nothing.
use Rattle.monitor_standing.proofs.standing_of.Goals as goal

pub returns : goal.returns
returns c = rw c.answered.ensures c.judge_standing.ensures.promise
