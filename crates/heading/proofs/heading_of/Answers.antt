-- `heading_of` meets its contract. Assumes nothing.
use Rattle.line.proofs.Lines.{cut_known}
use Rattle.heading.proofs.Names.{heading_split, heading_unsplit}
use Rattle.heading.proofs.heading_of.Goals as goal

pub returns-in_err-cuts : goal.returns-in_err-cuts
returns-in_err-cuts c = rw c.from_residual.ensures (heading_unsplit _ c.in_err-cuts.ensures)

pub columns_in-requires : goal.columns_in-requires
columns_in-requires c = cut_known _ _ _ c.in_ok-cuts.ensures

pub returns : goal.returns
returns c = heading_split _ _ c.in_ok-cuts.ensures _ c.columns_in.ensures
