-- `choice_verdict::lock_list` meets its contract: the list was not refused before, and is not now. Assumes nothing.
use mathlib.Core.Path.{refl}
use borrow.Author.Rules.{rules}
use Rattle.choice_verdict.proofs.Deciding.{lock_refused, lock_short, lock_decides, lock_fit}
use Rattle.choice_verdict.proofs.lock_list.Goals as goal

pub returns-in_err-counted : goal.returns-in_err-counted
returns-in_err-counted c = lock_refused _ _ _ c.requires.lock_at c.expand_list.new.boards c.expand_list.new.words _ c.in_err-counted.ensures _ refl

pub decide_list-requires : goal.decide_list-requires
decide_list-requires c = record { fit = lock_fit _ _ _ _ _ _ _ _ _ _ c.requires.lock_at c.in_ok-counted.ensures c.requires.rows_read (search rules) (search rules); met_le_choices_most = (lock_short _ _ _ c.requires.lock_at _ _ _ c.in_ok-counted.ensures _ refl, search rules, search rules) }

pub returns : goal.returns
returns c = lock_decides _ _ _ c.requires.lock_at _ _ _ c.in_ok-counted.ensures _ refl _ _ _ c.decide_list.ensures
