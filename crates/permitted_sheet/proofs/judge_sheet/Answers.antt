-- `permitted_sheet::judge_sheet` meets its contract. Assumes nothing.
use Rattle.permitted_sheet.proofs.Sheet.{forbidden_met, forbidden_few, sheet_not_read, nothing_forbidden, message_refused}
use Rattle.permitted_sheet.proofs.judge_sheet.Goals as goal

pub returns-in-Err : goal.returns-in-Err
returns-in-Err c = sheet_not_read _ _ _ _ _ _ _ c.in-Err.ensures

pub line_of-line-requires-clause-message_in_bounds : goal.line_of-line-requires-clause-message_in_bounds
line_of-line-requires-clause-message_in_bounds c = forbidden_met _ _ _ _ c.in-Ok.ensures _ _ c.permitted_by-permitted.ensures _ c.in-Some.ensures

pub line_of-line-requires-clause-message_lt_messages_most : goal.line_of-line-requires-clause-message_lt_messages_most
line_of-line-requires-clause-message_lt_messages_most c = forbidden_few _ _ _ _ c.in-Ok.ensures _ _ c.permitted_by-permitted.ensures _ c.in-Some.ensures

pub returns-in-Some : goal.returns-in-Some
returns-in-Some c =
    rw c.at.ensures (message_refused _ _ _ _ c.in-Ok.ensures _ _ c.permitted_by-permitted.ensures _ c.in-Some.ensures _ _ _ c.line_of-line.ensures)

pub returns : goal.returns
returns c = nothing_forbidden _ _ _ _ c.in-Ok.ensures _ _ c.permitted_by-permitted.ensures c.in_default.ensures _ _ _ _ c.decide.ensures
