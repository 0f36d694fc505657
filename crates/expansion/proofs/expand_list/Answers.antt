-- `expansion::expand_list` meets its contract. Assumes nothing.
use mathlib.Core.Path.{refl}
use borrow.Author.Rules.{rules}
use Rattle.std.proofs.lemmas.Result.{err_from_is_err_and}
use Rattle.expansion.proofs.Whole.{nothing_past, counted_refused, counted_messages}
use Rattle.expansion.proofs.expand_list.Goals as goal

pub walk_once-requires : goal.walk_once-requires
walk_once-requires c = record { rows_read = search rules; boards_len = search rules; words_len = search rules; past_value = nothing_past }

pub returns-in_err-walk : goal.returns-in_err-walk
returns-in_err-walk c = let p = err_from_is_err_and c.from_residual.result c.from_residual.ensures.1 in rw (p.1, p.2) (counted_refused _ _ _ _ _ _ c.requires.rows_read _ c.requires.words_len _ _ c.in_err-walk.ensures _ refl)

pub returns : goal.returns
returns c = counted_messages _ _ _ _ _ _ c.requires.rows_read _ c.requires.words_len _ _ c.in_ok-walk.ensures _ refl
