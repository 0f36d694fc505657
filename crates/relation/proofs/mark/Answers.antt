-- `relation::mark` meets its contract: one shifted is the event's bit, and is joined to its word by or.
use Rattle.relation.specs.Rows.{marked}
use Rattle.relation.proofs.Bits.{mask_power}
use Rattle.relation.proofs.mark.Goals as goal

pub returns : goal.returns
unfolding marked
returns c = simp mask_power
