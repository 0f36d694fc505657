-- `choice::judge` meets its contract. Assumes nothing.
use mathlib.Core.Path.{refl}
use borrow.Author.Rules.{rules}
use Rattle.std.proofs.lemmas.Result.{err_from_is_err_and}
use Rattle.choice.proofs.Reading.{text_refused, text_rows, text_judged}
use Rattle.choice.proofs.judge.Goals as goal

pub judge_lists-requires : goal.judge_lists-requires
judge_lists-requires c = record { rows_read = text_rows _ _ _ _ _ _ c.in_ok-count.ensures _ refl; code_lt_channels = (search rules, search rules); boards_len = (search rules, search rules) }

pub returns-in_err-count : goal.returns-in_err-count
returns-in_err-count c = let p = err_from_is_err_and c.from_residual.result c.from_residual.ensures.1 in rw (p.1, p.2) (text_refused _ _ _ _ _ _ c.in_err-count.ensures _ _ _ refl)

pub returns : goal.returns
returns c = text_judged _ _ _ _ _ _ c.in_ok-count.ensures _ refl _ _ _ _ c.judge_lists.ensures
