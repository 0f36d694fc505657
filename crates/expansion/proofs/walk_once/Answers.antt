-- `expansion::walk_once` meets its contract. Assumes nothing.
use borrow.Author.Rules.{rules}
use Rattle.expansion.proofs.Whole.{boards_zero, fresh_rests, fresh_ends}
use Rattle.expansion.proofs.walk_once.Goals as goal

pub walk_on-requires : goal.walk_on-requires
walk_on-requires c = record {
  rows_read = search rules;
  rests = fresh_rests _ c.requires.words_len _ _ _ (boards_zero _ _ c.requires.boards_len (c.fill.ensures.after (λ y h. h))) c.requires.past_value c.fresh-nothing.ensures;
}

pub returns : goal.returns
returns c = fresh_ends _ _ _ _ _ _ _ _ (boards_zero _ _ c.requires.boards_len (c.fill.ensures.after (λ y h. h))) c.requires.past_value c.fresh-nothing.ensures c.walk_on.ensures
