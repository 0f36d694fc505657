-- `head_turn::take` meets its contract. Assumes nothing.
use Rattle.head_turn.proofs.Replies.{take_serves}
use Rattle.head_turn.proofs.take.Goals as goal

pub returns : goal.returns
returns c = take_serves c.args.queue c.args.job c.args.race _ _ c.requires.queue_value.0 c.requires.job_words_least_in_bounds c.turned-turned.result c.turned-turned.ensures _ c.args.taken c.requires.taken_in
    c.clear_free.ensures c.requires.queue_value.1 _ c.looked-found.ensures
