-- `sheet_messages::list` meets its contract. Assumes nothing.
use borrow.Author.Rules.{rules}
use Rattle.std.proofs.lemmas.Result.{err_from_is_err_and}
use Rattle.sheet_messages.proofs.OfSheet.{refusal_line, lists_refused, messages_few, lines_asked, lists_told}
use Rattle.sheet_messages.proofs.list.Goals as goal

pub lines_of-requires : goal.lines_of-requires
lines_of-requires c = record { words_len = search rules; asked_in_bounds = lines_asked _ _ _ _ c.in_ok-count.ensures; asked_in_bounds_2 = messages_few _ _ _ _ c.in_ok-count.ensures }

pub tell-requires : goal.tell-requires
tell-requires c = record { count_le_messages_most = messages_few _ _ _ _ c.in_ok-count.ensures; message_numbers_least_in_bounds = search rules }

pub returns-in_err-count : goal.returns-in_err-count
returns-in_err-count c = let p = err_from_is_err_and c.from_residual.result c.from_residual.ensures.1 in rw (p.1, p.2) (record { lists = lists_refused _ _ _ _ c.in_err-count.ensures _; small = refusal_line _ _ _ _ c.in_err-count.ensures })

pub returns : goal.returns
returns c = record { lists = lists_told _ _ _ _ c.in_ok-count.ensures _ _ _ _ c.lines_of.ensures c.tell.ensures; small = messages_few _ _ _ _ c.in_ok-count.ensures }
