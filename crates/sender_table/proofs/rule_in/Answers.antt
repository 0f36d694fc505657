-- `rule_in` meets its contract. Assumes nothing.
use Rattle.sender_table.proofs.Lines.{rule_no_from, rule_no_to, rule_no_verdict, rule_read, verdict_fits}
use Prim.Native.Nat.{◌^◌, ◌<◌}
use borrow.Author.Rules.{rules}
use Rattle.sender_table.proofs.rule_in.Goals as goal

pub returns-in_err-from : goal.returns-in_err-from
returns-in_err-from c = rw c.from_residual.ensures (rule_no_from _ _ c.in_err-from.ensures)

pub returns-in_err-to : goal.returns-in_err-to
returns-in_err-to c = rw c.from_residual-in_err-to.ensures (rule_no_to _ _ _ c.in_ok-from.ensures c.in_err-to.ensures)

pub returns-in_err-verdict : goal.returns-in_err-verdict
returns-in_err-verdict c =
    rw c.from_residual-in_err-verdict.ensures (rule_no_verdict _ _ _ c.in_ok-from.ensures _ c.in_ok-to.ensures c.in_err-verdict.ensures)

pub overflow_cast-rule : goal.overflow_cast-rule
overflow_cast-rule c = let e : c.in_ok-verdict.verdict < 2 ^ 8 = verdict_fits c.args.table.now c.args.cuts _ c.in_ok-verdict.ensures in search rules

pub returns : goal.returns
returns c = rule_read _ _ _ c.in_ok-from.ensures _ c.in_ok-to.ensures _ c.in_ok-verdict.ensures
