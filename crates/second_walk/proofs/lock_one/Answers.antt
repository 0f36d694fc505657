-- `second_walk::lock_one` meets its contract. Assumes nothing.
use borrow.Author.Rules.{rules}
use Rattle.second_walk.proofs.Deciding.{one_refused, one_decides, one_fit}
use Rattle.second_walk.proofs.lock_one.Goals as goal

pub returns-in_err-messages : goal.returns-in_err-messages
returns-in_err-messages c = one_refused _ _ c.requires.one_locks _ c.in_err-messages.ensures

pub decide_rounds-requires : goal.decide_rounds-requires
decide_rounds-requires c = record { fit = one_fit _ _ _ _ _ c.requires.rows_read _ _ _ c.in_ok-messages.ensures (search rules) (search rules); code_lt_channels = (search rules, search rules) }

pub returns : goal.returns
returns c = one_decides _ _ c.requires.one_locks _ _ _ c.in_ok-messages.ensures _ _ _ c.decide_rounds.ensures
