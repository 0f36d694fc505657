-- `next_state::way_behind` meets its contract, kind by kind. Assumes nothing.
use Rattle.next_state.proofs.Behind.{way_sent, way_delivered, way_kept}
use Rattle.next_state.proofs.way_behind.Goals as goal

pub returns-in-Send : goal.returns-in-Send
returns-in-Send c = search way_sent

pub returns-in-Deliver : goal.returns-in-Deliver
returns-in-Deliver c = search way_delivered

pub returns-in-Consume : goal.returns-in-Consume
returns-in-Consume c = search way_kept
