-- `choice_verdict::judge_lists` meets its contract. Assumes nothing.
use native.Mathlib.Omega.{arith}
use borrow.Author.Rules.{rules}
use Rattle.choice_verdict.proofs.Deciding.{walked_refused, walked_short, walked_decides, walked_ahead}
use Rattle.choice_verdict.proofs.judge_lists.Goals as goal

pub returns-in-Err : goal.returns-in-Err
returns-in-Err c = walked_refused _ _ _ _ c.in-Err.ensures

pub lock_list-requires : goal.lock_list-requires
lock_list-requires c = record { rows_read = c.requires.rows_read; lock_at = c.in-Ok.ensures.locked_ahead _ c.in-Some.is; code_lt_channels = c.requires.code_lt_channels; boards_len = (omega (arith, c.requires.boards_len.0), omega (arith, c.requires.boards_len.1)) }

pub returns-in-Some : goal.returns-in-Some
returns-in-Some c = walked_ahead _ _ _ _ _ c.in-Ok.ensures _ _ _ c.lock_list.ensures

pub decide_list-requires : goal.decide_list-requires
decide_list-requires c = record { fit = c.in-Ok.ensures.fit; met_le_choices_most = (walked_short _ _ _ _ _ c.in-Ok.ensures, search rules, search rules) }

pub returns-in-None : goal.returns-in-None
returns-in-None c = walked_decides _ _ _ _ _ c.in-Ok.ensures _ _ _ c.in-None.is c.decide_list.ensures
