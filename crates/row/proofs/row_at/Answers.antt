-- `row_at` meets its contract. Assumes nothing.
use Rattle.line.proofs.Lines.{cut_known}
use Rattle.row.proofs.Forms.{next_fits, row_unsplit, row_no_one, row_no_two, row_formed, row_unformed}
use borrow.Author.Rules.{rules}
use Rattle.row.proofs.row_at.Goals as goal

pub returns-in_err-cuts : goal.returns-in_err-cuts
returns-in_err-cuts c = rw c.from_residual.ensures (row_unsplit _ _ _ _ c.in_err-cuts.ensures)

pub letter_in-kind-requires : goal.letter_in-kind-requires
letter_in-kind-requires c = (cut_known _ _ _ c.in_ok-cuts.ensures, search rules)

pub number_in-requires : goal.number_in-requires
number_in-requires c = (cut_known _ _ _ c.in_ok-cuts.ensures, search rules)

pub returns-in_err-one : goal.returns-in_err-one
returns-in_err-one c = rw c.from_residual-in_err-one.ensures (row_no_one _ _ _ _ _ c.in_ok-cuts.ensures c.in_err-one.ensures)

pub number_in-requires-2 : goal.number_in-requires-2
number_in-requires-2 c = (cut_known _ _ _ c.in_ok-cuts.ensures, search rules)

pub returns-in_err-two : goal.returns-in_err-two
returns-in_err-two c = rw c.from_residual-in_err-two.ensures (row_no_two _ _ _ _ _ c.in_ok-cuts.ensures c.in_err-two.ensures)

pub returns-then-not-is_formed : goal.returns-then-not-is_formed
returns-then-not-is_formed c =
    row_unformed _ _ _ _ _ c.in_ok-cuts.ensures _ _ _ _ c.letter_in-kind.ensures c.in_ok-one.ensures c.in_ok-two.ensures c.is_formed.ensures c.if-not-is_formed.true

pub overflow_add-result : goal.overflow_add-result
overflow_add-result c = search (next_fits, c.in_ok-cuts.ensures, rules)

pub returns : goal.returns
returns c =
    row_formed _ _ _ _ _ c.in_ok-cuts.ensures _ _ _ _ c.letter_in-kind.ensures c.in_ok-one.ensures c.in_ok-two.ensures c.is_formed.ensures c.if-not-is_formed.false
