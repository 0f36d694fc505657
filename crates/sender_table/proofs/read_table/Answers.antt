-- `read_table` meets its contract. Assumes nothing.
use native.Mathlib.Omega.{arith}
use mathlib.Core.Path.{◌≡◌}
use Rattle.std.proofs.lemmas.Result.{err_from_is_err_and}
use Rattle.sender_table.proofs.Whole.{table_unmeasured, table_unnamed, table_named}
use Rattle.sender_table.proofs.read_table.Goals as goal

pub returns-then-is_empty : goal.returns-then-is_empty
returns-then-is_empty c = rw c.at.ensures (table_unmeasured _ _ c.is_empty.ensures c.then-is_empty.either)

pub returns-in_err-first : goal.returns-in_err-first
returns-in_err-first c =
    let p = err_from_is_err_and c.from_residual.result c.from_residual.ensures.1 in
    let o = c.in_err-first.ensures in
    let e : c.in_err-first.field-0.0 ≡ c.at-2.result = grind (arith, o.value, o.ok_part) in
    rw (p.1, p.2, e, c.at-2.ensures)
    (table_unnamed _ _ c.is_empty.ensures c.if-is_empty.false (omega arith) (rw o.ok_part at c.names_of.ensures))

pub rules_from-requires : goal.rules_from-requires
rules_from-requires c = let h = rw c.in_ok-first.ensures.ok_part at c.names_of.ensures in h.1.inside

pub returns : goal.returns
returns c =
    let h = rw c.in_ok-first.ensures.ok_part at c.names_of.ensures in
    table_named _ _ c.is_empty.ensures c.if-is_empty.false (omega arith) _ _ h c.rules_from.ensures
