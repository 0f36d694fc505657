-- `sheet_messages::tell` meets its contract: its loop keeps `Telling`. Assumes nothing.
use Rattle.sheet_messages.proofs.Telling.{telling_start, room, message_room, telling_next, all_told}
use Rattle.sheet_messages.proofs.tell.Goals as goal

pub loop-m-init : goal.loop-m-init
loop-m-init c = search telling_start

pub put-requires : goal.put-requires
put-requires c = record { m_lt_messages_most = search message_room; m_in_bounds = search room }

pub loop-m-preserved : goal.loop-m-preserved
loop-m-preserved c = search telling_next

pub returns : goal.returns
returns c = search all_told
