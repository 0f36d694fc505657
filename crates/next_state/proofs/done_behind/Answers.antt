-- `next_state::done_behind` meets its contract, kind by kind. Assumes nothing.
use Rattle.next_state.proofs.Behind.{done_sent, done_kept, done_consumed}
use Rattle.next_state.proofs.done_behind.Goals as goal

pub returns-in-Send : goal.returns-in-Send
returns-in-Send c = search done_sent

pub returns-in-Deliver : goal.returns-in-Deliver
returns-in-Deliver c = search done_kept

pub returns-in-Consume : goal.returns-in-Consume
returns-in-Consume c = search done_consumed
