-- `scenario::scenario_of` meets its contract. Assumes nothing.
use borrow.Author.Rules.{rules}
use Rattle.scenario.proofs.Parts.{reading_refuses, rows_read, rows_plain, rows_expanded}
use Rattle.scenario.proofs.scenario_of.Goals as goal

pub returns-in-Err : goal.returns-in-Err
returns-in-Err c = reading_refuses _ _ _ _ _ _ c.read.ensures _ _ _ c.in-Err.is

pub expand-requires : goal.expand-requires
expand-requires c = record { rows_read = rows_read _ _ _ _ _ _ c.read.ensures _ c.in-Ok.is; plain = rows_plain _ _ _ _ _ _ c.read.ensures _ c.in-Ok.is; boards_len = search rules; words_len = search rules }

pub returns : goal.returns
returns c = rows_expanded _ _ _ _ _ _ c.read.ensures _ c.in-Ok.is _ _ _ c.expand.ensures (search rules) (search rules)
