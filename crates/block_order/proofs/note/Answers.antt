-- `block_order::note` meets its contract, by the letter of the row. Assumes nothing.
use Rattle.block_order.proofs.Noting.{within_message, within_first, within_second, noted_message, noted_order, noted_other}
use borrow.Author.Rules.{rules}
use Rattle.block_order.proofs.note.Goals as goal

pub add_message-requires : goal.add_message-requires
add_message-requires c = search (within_message, rules)

pub returns-then-kind-eq77 : goal.returns-then-kind-eq77
returns-then-kind-eq77 c = search noted_message

pub add_order-requires : goal.add_order-requires
add_order-requires c = search (within_first, within_second, rules)

pub returns-then-kind-eq80 : goal.returns-then-kind-eq80
returns-then-kind-eq80 c = search noted_order

pub returns : goal.returns
returns c = search noted_other
