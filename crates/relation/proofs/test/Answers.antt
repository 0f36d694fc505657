-- `relation::test` meets its contract: a shift and a mask read the bit.
use lib.Bits.{and_mask}
use Rattle.relation.specs.Rows.{holds, has}
use Rattle.relation.proofs.test.Goals as goal

pub returns : goal.returns
unfolding holds has
returns c = rw (and_mask _ 1)
