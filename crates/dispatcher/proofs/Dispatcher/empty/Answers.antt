-- `Dispatcher::empty` meets its contract. Assumes nothing.
use Rattle.dispatcher.proofs.Replies.{empty_as, empty_state}
use Rattle.dispatcher.proofs.Dispatcher.empty.Goals as goal

pub returns : goal.returns
returns c = record { value = search empty_as; result_value = search empty_state }
