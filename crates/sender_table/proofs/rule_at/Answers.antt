-- `rule_at` meets its contract. Assumes nothing.
use Rattle.line.proofs.Lines.{cut_known}
use Rattle.sender_table.proofs.Lines.{rule_unsplit, rule_split}
use Rattle.sender_table.proofs.rule_at.Goals as goal

pub returns-in_err-cuts : goal.returns-in_err-cuts
returns-in_err-cuts c = rw c.from_residual.ensures (rule_unsplit _ _ c.in_err-cuts.ensures)

pub rule_in-requires : goal.rule_in-requires
rule_in-requires c = cut_known _ _ _ c.in_ok-cuts.ensures

pub returns : goal.returns
returns c = rule_split _ _ _ _ c.in_ok-cuts.ensures c.rule_in.ensures
