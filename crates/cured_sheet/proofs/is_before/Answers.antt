-- `cured_sheet::is_before` meets its contract. Assumes nothing.
use lib.Bits.{and_mask}
use Rattle.relation.specs.Rows.{has}
use Rattle.cured_sheet.proofs.is_before.Goals as goal

pub returns : goal.returns
unfolding has
returns c = rw (and_mask _ 1)
