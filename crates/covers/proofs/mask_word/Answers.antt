-- `covers::mask_word` meets its contract. Assumes nothing.
use Rattle.covers.proofs.Covering.{send_below, mask_at}
use borrow.Author.Rules.{rules}
use Rattle.covers.proofs.mask_word.Goals as goal

pub overflow_mul-at : goal.overflow_mul-at
overflow_mul-at c = let low = send_below c.args.scenario.now.boards.now c.args.scenario.now.count c.args.e _ c.args.scenario.now.standing.boards_below c.requires.0 c.board_of-board.ensures in
    search rules

pub overflow_add-at : goal.overflow_add-at
overflow_add-at c = let low = send_below c.args.scenario.now.boards.now c.args.scenario.now.count c.args.e _ c.args.scenario.now.standing.boards_below c.requires.0 c.board_of-board.ensures in
    search rules

pub offset_bounds-scenario-at : goal.offset_bounds-scenario-at
offset_bounds-scenario-at c = let low = send_below c.args.scenario.now.boards.now c.args.scenario.now.count c.args.e _ c.args.scenario.now.standing.boards_below c.requires.0 c.board_of-board.ensures in
    search rules

pub bounds-scenario-at : goal.bounds-scenario-at
bounds-scenario-at c = let low = send_below c.args.scenario.now.boards.now c.args.scenario.now.count c.args.e _ c.args.scenario.now.standing.boards_below c.requires.0 c.board_of-board.ensures in
    search rules

pub returns : goal.returns
returns c = search mask_at
