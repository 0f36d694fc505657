-- `block_order::add_message` meets its contract: its three calls are the parts of `begun`. Assumes nothing.
use Rattle.block_order.proofs.Noting.{begun_parts}
use Rattle.block_order.proofs.add_message.Goals as goal

pub returns : goal.returns
returns c = begun_parts _ _ _ _ _ c.mark.ensures c.copy_from-2.ensures c.copy_from.ensures
