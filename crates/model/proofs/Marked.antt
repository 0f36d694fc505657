-- The eight marked sheets: every answer is the expected one, computed from the text on. Assumes nothing.
use mathlib.Core.Path.{◌≡◌, refl}
use Rattle.model.specs.Bounded.{every, any, lowest, among, same}
use Rattle.model.specs.Closure.{listed, cells, tabled, reads, linked}
use Rattle.model.specs.Refusal.{and_then}
use Rattle.model.specs.Text.{ascii, lines_of, ahead_of_line, fields_of, ahead_of_field, digits_only, decimal, well_begun, number_up_to, place_of, columns_of, are_columns, heading_of}
use Rattle.model.specs.Rows.{formed, from_fields, row_of}
use Rattle.model.specs.Place.{message_fits, order_fits, moved, is_sheet, placed, is_own_pair, block_direct, block_table, block_circle, circle_at, judged, rows_from, opens, absent_call, complete, body_of, read_with}
use Rattle.model.specs.Expansion.{start_of, block_opened, call_made, message_met, order_met, walk_rows, call_at, expand}
use Rattle.model.specs.Order.{number, event, message_of, board_of, is_event, is_own, is_earlier, direct, before_table, scenario_of, at_or_before, met_ops, exchange_of}
use Rattle.model.specs.Run.{with, with_done, with_held, next, every_event, is_ahead, ready, buffer_empty, board_free, may_send, may_deliver, allowed}
use Rattle.model.specs.Race.{origin, not_at_or_before, is_race, races, lowest_event, lowest_message, lowest_race}
use Rattle.model.specs.Schedule.{choose, schedule_from, schedule}
use Rattle.model.specs.Answer.{expanded_with, sheet_of, accepted_of, verdict_of, answer_for, answer_of}
use Rattle.model.specs.Marked.{marked, answers_from, computed}

pub marked_hold : computed marked ≡ marked
unfolding
    every any lowest among same and_then ascii lines_of ahead_of_line fields_of ahead_of_field digits_only decimal well_begun number_up_to place_of columns_of
    are_columns heading_of formed from_fields row_of message_fits order_fits moved is_sheet placed is_own_pair block_direct block_table block_circle circle_at judged rows_from opens absent_call complete body_of read_with
    start_of block_opened call_made message_met order_met walk_rows call_at expand number event message_of board_of is_event is_own is_earlier cells tabled
    reads linked direct before_table scenario_of at_or_before met_ops listed exchange_of with with_done with_held next every_event is_ahead ready
    buffer_empty board_free may_send may_deliver allowed origin not_at_or_before is_race races lowest_event lowest_message lowest_race choose schedule_from
    schedule expanded_with sheet_of accepted_of verdict_of answer_for answer_of marked answers_from computed
marked_hold = refl
