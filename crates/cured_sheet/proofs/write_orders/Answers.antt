-- `cured_sheet::write_orders` meets its contract. Assumes nothing.
use Prim.Native.Nat.{◌-◌}
use Rattle.cured_sheet.proofs.Rows.{to_none, to_room, to_more, to_all}
use borrow.Author.Rules.{rules}
use Rattle.cured_sheet.proofs.write_orders.Goals as goal

pub loop-x-init : goal.loop-x-init
loop-x-init c = search to_none

pub write_orders_from-at-requires : goal.write_orders_from-at-requires
write_orders_from-at-requires c = record { count_le_messages_most = search rules; width_in_bounds = search rules; span_of = search rules; row_bytes_most_in_bounds = search to_room }

pub loop-x-preserved : goal.loop-x-preserved
loop-x-preserved c = search to_more

pub returns : goal.returns
returns c = search to_all
