-- `next_block` meets its contract: its loop keeps `Seeking`. It ends, since each turn brings it nearer to the end.
use borrow.Author.Rules.{rules}
use Rattle.levels.proofs.Choosing.{room_left}
use Rattle.next_block.proofs.Seeking.{seeking_start, seeking_block, seeking_deep, seeking_calls, seeking_ninth, seeking_end, seeking_called, seeking_back, seeking_behind, called_less, back_less, behind_less, on_next, on_inside, back_next, call_line, call_few, call_one, call_two, call_sheet}
use Rattle.next_block.proofs.next_block.Goals as goal

pub loop-options-init : goal.loop-options-init
loop-options-init c = search seeking_start

pub returns-then-in_block : goal.returns-then-in_block
returns-then-in_block c = search seeking_block

pub overflow_add-line : goal.overflow_add-line
overflow_add-line c = search (call_line, rules)

pub returns-then-level-eq-LEVELS : goal.returns-then-level-eq-LEVELS
returns-then-level-eq-LEVELS c = search seeking_deep

pub returns-then-calls-ge-CALLS_MOST : goal.returns-then-calls-ge-CALLS_MOST
returns-then-calls-ge-CALLS_MOST c = search seeking_calls

pub returns-then-is_ninth : goal.returns-then-is_ninth
returns-then-is_ninth c = search seeking_ninth

pub called_sheet-sheet-requires : goal.called_sheet-sheet-requires
called_sheet-sheet-requires c = record { choices_value = room_left _ _ _ c.is_ninth.ensures c.if-is_ninth.false; row_lt_rows_most = (search call_few, search call_one, search call_two) }

pub choices_behind-choices-requires : goal.choices_behind-choices-requires
choices_behind-choices-requires c = room_left _ _ _ c.is_ninth.ensures c.if-is_ninth.false

pub start_of-at-requires : goal.start_of-at-requires
start_of-at-requires c = search call_sheet

pub loop-options-smaller-then-is_call : goal.loop-options-smaller-then-is_call
loop-options-smaller-then-is_call c = search called_less

pub loop-options-preserved-then-is_call : goal.loop-options-preserved-then-is_call
loop-options-preserved-then-is_call c = search seeking_called

pub returns-then-level-eq0 : goal.returns-then-level-eq0
returns-then-level-eq0 c = search seeking_end

pub overflow_add-at : goal.overflow_add-at
overflow_add-at c = search (back_next, rules)

pub loop-options-smaller-then-letter-eq83 : goal.loop-options-smaller-then-letter-eq83
loop-options-smaller-then-letter-eq83 c = search back_less

pub loop-options-preserved-then-letter-eq83 : goal.loop-options-preserved-then-letter-eq83
loop-options-preserved-then-letter-eq83 c = search seeking_back

pub overflow_add-at-in-loop-options : goal.overflow_add-at-in-loop-options
overflow_add-at-in-loop-options c = search (on_next, rules)

pub behind_blocks-at-requires : goal.behind_blocks-at-requires
behind_blocks-at-requires c = search on_inside

pub loop-options-smaller : goal.loop-options-smaller
loop-options-smaller c = search behind_less

pub loop-options-preserved : goal.loop-options-preserved
loop-options-preserved c = search seeking_behind
