-- `cured_sheet::write_orders_from` meets its contract. Assumes nothing.
use Prim.Native.Nat.{◌-◌}
use Rattle.cured_sheet.proofs.Rows.{from_first, from_nothing, from_room, from_more, from_all}
use borrow.Author.Rules.{rules}
use Rattle.cured_sheet.proofs.write_orders_from.Goals as goal

pub returns-then-not-is_before : goal.returns-then-not-is_before
returns-then-not-is_before c = search from_nothing

pub loop-e-init : goal.loop-e-init
loop-e-init c = search from_first

pub write_order-at-requires : goal.write_order-at-requires
write_order-at-requires c = record { e_lt_messages_most = search rules; width_in_bounds = search rules; row_bytes_most_in_bounds = search from_room }

pub loop-e-preserved : goal.loop-e-preserved
loop-e-preserved c = search from_more

pub returns : goal.returns
returns c = search from_all
