-- `message_lines::walk_rows` meets its contract: its loop keeps `Writing`. It ends, since each turn brings it nearer to the end of the walk.
use borrow.Author.Rules.{rules}
use Rattle.message_lines.proofs.Looking.{start_there, writing_start, call_deep, call_scaled, call_level, call_count, call_one, call_place, call_sheet, call_less, writing_called, back_level, back_noted, back_scaled, back_next, back_less, writing_back, row_line, row_next, row_less, line_narrow, line_room, writing_message, writing_on, all_written}
use Rattle.message_lines.proofs.walk_rows.Goals as goal

pub start_of-at-requires : goal.start_of-at-requires
start_of-at-requires c = search start_there

pub loop-met-init : goal.loop-met-init
loop-met-init c = search writing_start

pub offset_bounds-from-level : goal.offset_bounds-from-level
offset_bounds-from-level c = search call_scaled

pub bounds-from-level : goal.bounds-from-level
bounds-from-level c = search call_deep

pub overflow_add-level : goal.overflow_add-level
overflow_add-level c = search call_level

pub overflow_add-calls : goal.overflow_add-calls
overflow_add-calls c = search call_count

pub bounds-rows-at : goal.bounds-rows-at
bounds-rows-at c = search call_one

pub start_of-at-requires-then-letter-eq67 : goal.start_of-at-requires-then-letter-eq67
start_of-at-requires-then-letter-eq67 c = search call_sheet

pub loop-met-smaller-then-letter-eq67 : goal.loop-met-smaller-then-letter-eq67
loop-met-smaller-then-letter-eq67 c = search call_less

pub loop-met-preserved-then-letter-eq67 : goal.loop-met-preserved-then-letter-eq67
loop-met-preserved-then-letter-eq67 c = search writing_called

pub overflow_sub-level : goal.overflow_sub-level
overflow_sub-level c = search back_level

pub offset_bounds-from-level-then-letter-eq83 : goal.offset_bounds-from-level-then-letter-eq83
offset_bounds-from-level-then-letter-eq83 c = search back_scaled

pub bounds-from-level-then-letter-eq83 : goal.bounds-from-level-then-letter-eq83
bounds-from-level-then-letter-eq83 c = search back_noted

pub overflow_add-at : goal.overflow_add-at
overflow_add-at c = search (back_next, rules)

pub loop-met-smaller-then-letter-eq83 : goal.loop-met-smaller-then-letter-eq83
loop-met-smaller-then-letter-eq83 c = search back_less

pub loop-met-preserved-then-letter-eq83 : goal.loop-met-preserved-then-letter-eq83
loop-met-preserved-then-letter-eq83 c = search writing_back

pub overflow_add-lines : goal.overflow_add-lines
overflow_add-lines c = search (row_line, rules)

pub overflow_cast-lines : goal.overflow_cast-lines
overflow_cast-lines c = search (line_narrow, rules)

pub bounds-lines-met : goal.bounds-lines-met
bounds-lines-met c = search line_room

pub overflow_add-at-then-letter-eq77 : goal.overflow_add-at-then-letter-eq77
overflow_add-at-then-letter-eq77 c = search row_next

pub loop-met-smaller-then-letter-eq77 : goal.loop-met-smaller-then-letter-eq77
loop-met-smaller-then-letter-eq77 c = search row_less

pub loop-met-preserved-then-letter-eq77 : goal.loop-met-preserved-then-letter-eq77
loop-met-preserved-then-letter-eq77 c = search writing_message

pub overflow_add-at-in-loop-met : goal.overflow_add-at-in-loop-met
overflow_add-at-in-loop-met c = search row_next

pub loop-met-smaller : goal.loop-met-smaller
loop-met-smaller c = search row_less

pub loop-met-preserved : goal.loop-met-preserved
loop-met-preserved c = search writing_on

pub offset_bounds-rows-at : goal.offset_bounds-rows-at
offset_bounds-rows-at c = search call_place

pub returns : goal.returns
returns c = search all_written
