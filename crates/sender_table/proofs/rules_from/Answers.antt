-- `rules_from` meets its contract. Assumes nothing.
use native.Mathlib.Omega.{arith}
use mathlib.Core.Path.{◌≡◌}
use Rattle.std.proofs.lemmas.Result.{err_from_is_err_and}
use Rattle.sender_table.proofs.Storing.{loop_begin, loop_full, loop_malformed, loop_further, loop_more, loop_done}
use Rattle.sender_table.proofs.rules_from.Goals as goal

pub loop-at-init : goal.loop-at-init
loop-at-init c = search loop_begin

pub returns-then-count-ge-RULES_MOST : goal.returns-then-count-ge-RULES_MOST
returns-then-count-ge-RULES_MOST c = rw c.at-refusal.ensures (loop_full _ _ _ _ _ c.loop-at.invariant c.loop-at-test.true (omega arith))

pub returns-in_err-read : goal.returns-in_err-read
returns-in_err-read c =
    let p = err_from_is_err_and c.from_residual.result c.from_residual.ensures.1 in
    let o = c.in_err-read.ensures in
    let e : c.in_err-read.field-0.0 ≡ c.at-refusal.result = grind (arith, o.value, o.ok_part) in
    rw (p.1, p.2, e, c.at-refusal.ensures)
    (loop_malformed _ _ _ _ _ c.loop-at.invariant c.loop-at-test.true (omega arith) (rw o.ok_part at c.rule_at.ensures))

pub loop-at-smaller : goal.loop-at-smaller
loop-at-smaller c =
    let r = rw c.in_ok-read.ensures.ok_part at c.rule_at.ensures in
    loop_further _ _ _ _ _ c.loop-at.invariant c.loop-at-test.true (omega arith) _ r

pub loop-at-preserved : goal.loop-at-preserved
loop-at-preserved c =
    let r = rw c.in_ok-read.ensures.ok_part at c.rule_at.ensures in
    loop_more _ _ _ _ _ c.loop-at.invariant c.loop-at-test.true (omega arith) _ r

pub returns : goal.returns
returns c = search loop_done
