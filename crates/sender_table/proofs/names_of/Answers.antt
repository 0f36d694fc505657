-- `names_of` meets its contract. Assumes nothing.
use Rattle.line.proofs.Lines.{cut_known}
use Rattle.sender_table.proofs.Lines.{names_unsplit, names_split}
use Rattle.sender_table.proofs.names_of.Goals as goal

pub returns-in_err-cuts : goal.returns-in_err-cuts
returns-in_err-cuts c = rw c.from_residual.ensures (names_unsplit _ c.in_err-cuts.ensures)

pub names_in-requires : goal.names_in-requires
names_in-requires c = cut_known _ _ _ c.in_ok-cuts.ensures

pub returns : goal.returns
returns c = names_split _ _ _ c.in_ok-cuts.ensures c.names_in.ensures
