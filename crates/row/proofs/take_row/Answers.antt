-- `take_row` meets its contract. Assumes nothing.
use Rattle.row.proofs.Judging.{step_full, step_malformed, step_nowhere, row_within, step_circle, step_row}
use Rattle.std.proofs.lemmas.Result.{err_from_is_err_and}
use Rattle.outcome.specs.declared.Reason.TheVariants.{Row, Place}
use native.Mathlib.Omega.{arith}
use mathlib.Core.Path.{◌≡◌}
use Rattle.row.proofs.take_row.Goals as goal

pub returns-then-row-ge-ROWS_MOST : goal.returns-then-row-ge-ROWS_MOST
returns-then-row-ge-ROWS_MOST c = step_full _ _ _ _ _ _ _ _ _ (omega arith)

pub returns-in_err-kind : goal.returns-in_err-kind
returns-in_err-kind c =
    let p = err_from_is_err_and c.from_residual.result c.from_residual.ensures.1 in
    let o = c.in_err-kind.ensures in
    let e : c.in_err-kind.field-0.0 ≡ Row = grind (arith, o.value, o.ok_part) in
    rw (p.1, p.2, e) (step_malformed _ _ _ _ _ _ _ _ _ (rw o.ok_part at c.row_at.ensures))

pub returns-in_err-after : goal.returns-in_err-after
returns-in_err-after c =
    let p = err_from_is_err_and c.from_residual-in_err-after.result c.from_residual-in_err-after.ensures.1 in
    let o = c.in_err-after.ensures in
    let r = rw c.in_ok-kind.ensures.ok_part at c.row_at.ensures in
    let e : c.in_err-after.field-0.0 ≡ Place = grind (arith, o.value, o.ok_part) in
    rw (p.1, p.2, e) (step_nowhere _ _ _ _ _ _ _ _ _ _ r (omega arith) _ _ (rw o.ok_part at c.place.ensures))

pub note-circle-requires : goal.note-circle-requires
note-circle-requires c =
    let r = rw c.in_ok-kind.ensures.ok_part at c.row_at.ensures in
    let p = rw c.in_ok-after.ensures.ok_part at c.place.ensures in
    (c.requires.5, c.requires.2, row_within _ _ _ _ _ _ _ _ c.args.words.now _ r (omega arith) _ _ _ p c.requires.2 c.requires.4)

pub returns-then-circle : goal.returns-then-circle
returns-then-circle c =
    let r = rw c.in_ok-kind.ensures.ok_part at c.row_at.ensures in
    let p = rw c.in_ok-after.ensures.ok_part at c.place.ensures in
    step_circle _ _ _ _ _ _ _ _ _ _ r (omega arith) _ _ _ p c.requires.2 c.requires.4 _ _ c.note-circle.ensures c.if-circle.true

pub returns : goal.returns
returns c =
    let r = rw c.in_ok-kind.ensures.ok_part at c.row_at.ensures in
    let p = rw c.in_ok-after.ensures.ok_part at c.place.ensures in
    step_row _ _ _ _ _ _ _ _ _ _ r (omega arith) _ _ _ p c.requires.2 c.requires.4 _ _ c.note-circle.ensures c.requires.5 c.if-circle.false
