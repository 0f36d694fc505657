-- `block_order::add_order` meets its contract. Assumes nothing.
use Rattle.block_order.proofs.Noting.{order_circle, order_more}
use Rattle.block_order.proofs.add_order.Goals as goal

pub returns-then-test : goal.returns-then-test
returns-then-test c = search order_circle

pub returns : goal.returns
returns c = search order_more
