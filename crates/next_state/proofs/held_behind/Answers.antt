-- `next_state::held_behind` meets its contract, kind by kind. Assumes nothing.
use Rattle.next_state.proofs.Behind.{held_kept, held_delivered, held_consumed}
use Rattle.next_state.proofs.held_behind.Goals as goal

pub returns-in-Send : goal.returns-in-Send
returns-in-Send c = search held_kept

pub returns-in-Deliver : goal.returns-in-Deliver
returns-in-Deliver c = search held_delivered

pub returns-in-Consume : goal.returns-in-Consume
returns-in-Consume c = search held_consumed
