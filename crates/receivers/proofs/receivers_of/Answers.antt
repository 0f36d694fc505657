-- `receivers::receivers_of` meets its contract: the loop keeps what the rules from number i on permit. Assumes nothing.
use borrow.Author.Rules.{rules}
use Rattle.receivers.proofs.Deciding.{going_start, going_on, going_end}
use Rattle.receivers.proofs.receivers_of.Goals as goal

pub loop-i-init : goal.loop-i-init
loop-i-init c = search going_start

pub loop-i-preserved : goal.loop-i-preserved
loop-i-preserved c = going_on _ _ _ _ _ c.loop-i.invariant _ _ c.decided-receivers.ensures (search rules) (search rules)

pub returns : goal.returns
returns c = search going_end
