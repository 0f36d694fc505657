-- `channel_check::dispatcher_turn` meets its contract. Assumes nothing.
use Rattle.channel_check.proofs.Served.{turn_served}
use borrow.Author.Rules.{rules}
use Rattle.channel_check.proofs.dispatcher_turn.Goals as goal

pub returns : goal.returns
returns c = (search turn_served, search rules)
