-- `read_rows` meets its contract. The loop's invariant: what is read of the rows so far, and what the reader holds. Assumes nothing.
use Rattle.std.proofs.lemmas.Result.{err_from_is_err_and}
use Rattle.sheet.proofs.Storing.{loop_begin, loop_refused, loop_room, loop_further, loop_more, loop_done}
use borrow.Author.Rules.{rules}
use Rattle.sheet.proofs.read_rows.Goals as goal

pub loop-at-init : goal.loop-at-init
loop-at-init c = search loop_begin

pub returns-in-Err : goal.returns-in-Err
returns-in-Err c = rw c.at.ensures (loop_refused _ _ _ _ _ _ _ _ _ _ _ _ _ _ _ _ _ c.loop-at.invariant c.loop-at-test.true _ c.in-Err.ensures)

pub bounds-kind-row : goal.bounds-kind-row
bounds-kind-row c = search (loop_room, rules)

pub bounds-one-row : goal.bounds-one-row
bounds-one-row c = search (loop_room, rules)

pub bounds-two-row : goal.bounds-two-row
bounds-two-row c = search (loop_room, rules)

pub loop-at-smaller : goal.loop-at-smaller
loop-at-smaller c = loop_further _ _ _ _ _ _ _ _ _ _ _ _ _ _ _ _ _ c.loop-at.invariant c.loop-at-test.true _ c.in-Ok.ensures

pub loop-at-preserved : goal.loop-at-preserved
loop-at-preserved c = loop_more _ _ _ _ _ _ _ _ _ _ _ _ _ _ _ _ _ c.loop-at.invariant c.loop-at-test.true _ c.in-Ok.ensures

pub returns-in_err-complete : goal.returns-in_err-complete
returns-in_err-complete c =
    let p = err_from_is_err_and c.from_residual.result c.from_residual.ensures.1 in
    rw (p.1, p.2) (loop_done _ _ _ _ _ _ _ _ _ _ _ _ _ _ _ c.loop-at.invariant c.loop-at-test.false c.in_err-complete.ensures)

pub returns : goal.returns
returns c = loop_done _ _ _ _ _ _ _ _ _ _ _ _ _ _ _ c.loop-at.invariant c.loop-at-test.false c.in_ok-complete.ensures
