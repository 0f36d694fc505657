-- From the code's channel table to the model's. Assumes nothing.
use Rattle.model.specs.Channel as model
use Rattle.channel_table.specs.declared.ToSend.{ToSend}
use Rattle.channel_table.specs.declared.ToSend.TheVariants as to_send_holds
use Rattle.channel_table.specs.declared.ToDeliver.{ToDeliver}
use Rattle.channel_table.specs.declared.ToDeliver.TheVariants as to-deliver
use Rattle.channel_table.specs.declared.Channel.{Channel}

abbrev pub to_send_in : ToSend → model.ToSend
to_send_in to_send_holds.Always = model.ToSend.always
to_send_in to_send_holds.NoEarlierUnderWay = model.no_earlier_under_way
to_send_in to_send_holds.ChannelEmpty = model.channel_empty

abbrev pub to_deliver_in : ToDeliver → model.ToDeliver
to_deliver_in to-deliver.Always = model.ToDeliver.always
to_deliver_in to-deliver.InOrder = model.in_order
to_deliver_in to-deliver.Alone = model.alone

abbrev pub channel_in : Channel → model.Channel
channel_in c = record { eager = c.eager; to_send = to_send_in c.to_send; to_deliver = to_deliver_in c.to_deliver }
