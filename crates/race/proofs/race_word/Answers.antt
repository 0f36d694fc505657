-- `race::race_word` meets its contract. Assumes nothing.
use borrow.Author.Rules.{rules}
use Rattle.race.proofs.Words.{receive_below, races_in_word}
use Rattle.race.proofs.race_word.Goals as goal

pub overflow_mul-on : goal.overflow_mul-on
overflow_mul-on c = let low = receive_below c.args.scenario.now.standing c.requires.0 c.board_of-board.ensures in
    search rules

pub overflow_add-on : goal.overflow_add-on
overflow_add-on c = let low = receive_below c.args.scenario.now.standing c.requires.0 c.board_of-board.ensures in
    search rules

pub offset_bounds-scenario-on : goal.offset_bounds-scenario-on
offset_bounds-scenario-on c = let low = receive_below c.args.scenario.now.standing c.requires.0 c.board_of-board.ensures in
    search rules

pub bounds-scenario-on : goal.bounds-scenario-on
bounds-scenario-on c = let low = receive_below c.args.scenario.now.standing c.requires.0 c.board_of-board.ensures in
    search rules

pub returns : goal.returns
returns c = search races_in_word
