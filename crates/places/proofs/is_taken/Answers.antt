-- `places::is_taken` meets its contract. Assumes nothing.
use lib.Bits.{and_mask}
use Rattle.relation.specs.Rows.{has}
use Rattle.places.proofs.is_taken.Goals as goal

pub returns : goal.returns
unfolding has
returns c = rw (and_mask _ 1)
