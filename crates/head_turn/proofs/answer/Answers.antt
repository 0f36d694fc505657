-- `head_turn::answer` meets its contract. Assumes nothing.
use Rattle.head_turn.proofs.Replies.{answer_serves}
use borrow.Author.Rules.{rules}
use Rattle.head_turn.proofs.answer.Goals as goal

pub clear_free-requires : goal.clear_free-requires
clear_free-requires c = let long = c.requires.job_words_least_in_bounds.0 in search rules

pub returns : goal.returns
returns c = answer_serves c.args.queue c.args.job c.args.race _ _ c.requires.queue_value.0 c.requires.job_words_least_in_bounds.0 c.turned-turned.result c.turned-turned.ensures _ _ c.places-left.ensures
    c.clear_free.ensures c.requires.queue_value.1 _ _ c.conclude-told.result c.conclude-told.ensures c.requires.job_words_least_in_bounds.1
