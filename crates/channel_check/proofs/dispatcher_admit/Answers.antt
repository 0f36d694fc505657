-- `channel_check::dispatcher_admit` meets its contract. Assumes nothing.
use borrow.Author.Rules.{rules}
use Rattle.channel_check.proofs.dispatcher_admit.Goals as goal

pub returns : goal.returns
returns c = (search rules, search rules)
