-- `cured_sheet::write_order` meets its contract. Assumes nothing.
use Rattle.cured_sheet.proofs.Rows.{order_none, order_one}
use Rattle.cured_sheet.proofs.write_order.Goals as goal

pub returns-then-not-test : goal.returns-then-not-test
returns-then-not-test c = search order_none

pub returns : goal.returns
returns c = search order_one
