-- `second_walk::decide_rounds` meets its contract. Assumes nothing.
use Rattle.second_walk.proofs.Deciding.{decided_free, decided_locked}
use Rattle.second_walk.proofs.decide_rounds.Goals as goal

pub returns-in-Free : goal.returns-in-Free
returns-in-Free c = decided_free _ _ _ _ _ c.in-Free.ensures

pub returns-in-Locked : goal.returns-in-Locked
returns-in-Locked c = decided_locked _ _ _ _ _ _ _ _ c.in-Locked.ensures
