-- `choice_verdict::decide_list` meets its contract. Assumes nothing.
use Rattle.choice_verdict.proofs.Deciding.{decided_free, list_locked}
use Rattle.choice_verdict.proofs.decide_list.Goals as goal

pub returns-in-Free : goal.returns-in-Free
returns-in-Free c = decided_free _ _ _ _ _ c.in-Free.ensures

pub returns-in-Locked : goal.returns-in-Locked
returns-in-Locked c = list_locked _ _ c.requires.met_le_choices_most.0 _ _ _ _ _ _ _ _ c.in-Locked.ensures c.choices_of.ensures
