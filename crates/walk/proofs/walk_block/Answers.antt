-- `walk::walk_block` meets its contract: its loop keeps `Meeting`. Assumes nothing.
use borrow.Author.Rules.{rules}
use Rattle.walk.proofs.Meeting.{meeting_start, meeting_refused, meeting_end, meeting_message, meeting_order, message_boards, order_events}
use Rattle.walk.proofs.walk_block.Goals as goal

pub loop-words-init : goal.loop-words-init
loop-words-init c = search meeting_start

pub add_order-requires : goal.add_order-requires
add_order-requires c = let o = order_events _ _ _ _ _ _ _ _ _ _ _ _ c.loop-words.invariant _ c.in_block.ensures c.loop-words-test.true c.if-rows-at-eq80.true in
    record { words_len = search rules; count_le_messages_most = search rules; x_bound = o }

pub loop-words-preserved-then-rows-at-eq80 : goal.loop-words-preserved-then-rows-at-eq80
loop-words-preserved-then-rows-at-eq80 c = meeting_order _ _ _ _ _ _ _ _ _ _ _ _ c.loop-words.invariant _ c.in_block.ensures c.loop-words-test.true c.if-rows-at-eq80.true _ c.add_order.ensures

pub returns-then-met-ge-MESSAGES_MOST : goal.returns-then-met-ge-MESSAGES_MOST
returns-then-met-ge-MESSAGES_MOST c = search meeting_refused

pub add_message-requires : goal.add_message-requires
add_message-requires c = let m = message_boards _ _ _ _ _ _ _ _ _ _ _ _ c.loop-words.invariant _ c.in_block.ensures c.loop-words-test.true c.if-rows-at-eq80.false in
    record { boards_len = search rules; words_len = search rules; past_len = search rules; m_lt_messages_most = search rules; a_lt_boards_most = m.0; b_lt_boards_most = m.1 }

pub loop-words-preserved : goal.loop-words-preserved
loop-words-preserved c = meeting_message _ _ _ _ _ _ _ _ _ _ _ _ c.loop-words.invariant _ c.in_block.ensures c.loop-words-test.true c.if-rows-at-eq80.false _ _ c.add_message.ensures c.if-met-ge-MESSAGES_MOST.false

pub returns : goal.returns
returns c = search meeting_end
