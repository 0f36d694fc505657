-- `Dispatcher::cancel` meets its contract. Assumes nothing.
use Rattle.dispatcher.proofs.Replies.{cancel_as, whole}
use Rattle.dispatcher.proofs.Dispatcher.cancel.Goals as goal

pub returns : goal.returns
returns c = (cancel_as _ _ _ _ _ _ c.leave-outcome.ensures.leaves c.left-told.ensures, whole)
