-- `second_walk::judge_rows` meets its contract. Assumes nothing.
use borrow.Author.Rules.{rules}
use Rattle.std.proofs.lemmas.Result.{err_from_is_err_and}
use Rattle.second_walk.proofs.Deciding.{two_decide, two_fit, one_locked, walks_refused}
use Rattle.second_walk.proofs.judge_rows.Goals as goal

pub returns-in_err-walks : goal.returns-in_err-walks
returns-in_err-walks c = let p = err_from_is_err_and c.from_residual.result c.from_residual.ensures.1 in rw (p.1, p.2) (walks_refused _ _ _ _ c.in_err-walks.ensures)

pub lock_one-requires : goal.lock_one-requires
lock_one-requires c = record { rows_read = c.requires.rows_read; plain = c.requires.plain; one_locks = one_locked _ _ _ _ _ c.in_ok-walks.ensures c.in-OneLocked.is; code_lt_channels = (search rules, search rules); boards_len = (search rules, search rules) }

pub decide_rounds-requires : goal.decide_rounds-requires
decide_rounds-requires c = record { fit = (two_fit _ _ _ _ _ _ c.in_ok-walks.ensures c.in-OneFree.is).fit; code_lt_channels = (search rules, search rules) }

pub returns-in-OneFree : goal.returns-in-OneFree
returns-in-OneFree c = two_decide _ _ _ _ _ _ _ _ (two_fit _ _ _ _ _ _ c.in_ok-walks.ensures c.in-OneFree.is) c.decide_rounds.ensures
