-- `read` meets its contract. Assumes nothing.
use Rattle.std.proofs.lemmas.Result.{err_from_is_err_and}
use native.Mathlib.Omega.{arith}
use mathlib.Core.Path.{◌≡◌}
use Rattle.sheet.proofs.Whole.{read_unmeasured, read_unnamed, read_named}
use borrow.Author.Rules.{rules}
use Rattle.sheet.proofs.read.Goals as goal

pub returns-then-is_empty : goal.returns-then-is_empty
returns-then-is_empty c = rw c.at.ensures (read_unmeasured _ _ _ _ _ _ _ c.is_empty.ensures c.then-is_empty.either)

pub returns-in_err-heading : goal.returns-in_err-heading
returns-in_err-heading c =
    let p = err_from_is_err_and c.from_residual.result c.from_residual.ensures.1 in
    let o = c.in_err-heading.ensures in
    let e : c.in_err-heading.field-0.0 ≡ c.at-2.result = grind (arith, o.value, o.ok_part) in
    rw (p.1, p.2, e, c.at-2.ensures)
    (read_unnamed _ _ _ _ _ _ _ c.is_empty.ensures c.if-is_empty.false (omega arith) (rw o.ok_part at c.heading_of.ensures))

pub read_rows-requires : goal.read_rows-requires
read_rows-requires c =
    let h = rw c.in_ok-heading.ensures.ok_part at c.heading_of.ensures in
    (h.named.0.inside, h.named.1, search rules, search rules)

pub returns : goal.returns
returns c =
    let h = rw c.in_ok-heading.ensures.ok_part at c.heading_of.ensures in
    read_named _ _ _ _ _ _ _ c.is_empty.ensures c.if-is_empty.false (omega arith) _ _ h c.read_rows.ensures
