-- `columns_in` meets its contract. Assumes nothing.
use Rattle.model.specs.Text.{ascii}
use Rattle.heading.proofs.Names.{columns_named_holds, no_kind, no_one, no_two}
use Rattle.heading.proofs.columns_in.Goals as goal

pub returns-in_err-kind : goal.returns-in_err-kind
unfolding ascii
returns-in_err-kind c = rw c.from_residual.ensures (no_kind _ _ c.in_err-kind.ensures)

pub returns-in_err-one : goal.returns-in_err-one
unfolding ascii
returns-in_err-one c = rw c.from_residual-in_err-one.ensures (no_one _ _ _ c.in_ok-kind.ensures c.in_err-one.ensures)

pub returns-in_err-two : goal.returns-in_err-two
unfolding ascii
returns-in_err-two c = rw c.from_residual-in_err-two.ensures (no_two _ _ _ c.in_ok-kind.ensures _ c.in_ok-one.ensures c.in_err-two.ensures)

pub returns : goal.returns
unfolding ascii
returns c = columns_named_holds _ _ _ c.in_ok-kind.ensures _ c.in_ok-one.ensures _ c.in_ok-two.ensures
