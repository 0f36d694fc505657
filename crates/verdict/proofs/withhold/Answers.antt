-- `verdict::withhold` meets its contract. Assumes nothing.
use borrow.Author.Rules.{rules}
use Rattle.verdict.proofs.Parts.{on_channel}
use Rattle.verdict.proofs.withhold.Goals as goal

pub board_masks-requires : goal.board_masks-requires
board_masks-requires c = record { count_le_messages_most = search rules; count_in_bounds = search rules; width_in_bounds = search rules; boards_below = c.requires.fit.boards_below }

pub invariant_of-scenario : goal.invariant_of-scenario
invariant_of-scenario c = record {
  standing = record {
    few = search rules;
    boards_long = search rules;
    words_long = search rules;
    masks_long = search rules;
    boards_below = c.requires.fit.boards_below;
    masks_of = c.board_masks.ensures;
  };
}

pub returns : goal.returns
returns c = search on_channel
