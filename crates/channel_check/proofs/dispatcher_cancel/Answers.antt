-- `channel_check::dispatcher_cancel` meets its contract. Assumes nothing.
use Rattle.channel_check.proofs.Served.{cancel_served}
use borrow.Author.Rules.{rules}
use Rattle.channel_check.proofs.dispatcher_cancel.Goals as goal

pub returns : goal.returns
returns c = (search cancel_served, search rules)
