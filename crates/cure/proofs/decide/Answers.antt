-- `cure::decide` meets its contract. Assumes nothing.
use Rattle.cure.proofs.Parts.{rows_fit, too_many, sheet_decides}
use borrow.Author.Rules.{rules}
use Rattle.cure.proofs.decide.Goals as goal

pub returns-then-rows-gt-ROWS_MOST : goal.returns-then-rows-gt-ROWS_MOST
returns-then-rows-gt-ROWS_MOST c = record { cover_rows = search rules; decides = search too_many }

pub write_sheet-requires : goal.write_sheet-requires
write_sheet-requires c = record { count_le_messages_most = search rules; width_in_bounds = search rules; sheet_output_least_in_bounds = search rules; words_len_bound = search rows_fit }

pub returns : goal.returns
returns c = record { cover_rows = search rules; decides = search sheet_decides }
