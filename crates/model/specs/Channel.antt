-- "Steps of a run": the six channels, one row a channel. Assumes nothing.
use Rattle.std.specs.Prelude.{ℕ, Bool, true, false, List, [], ◌∷◌, get_or}

-- To send m: no condition; no f under way with f's send before m's receive; the channel empty.
pub data ToSend : Type 0 where
  always : ToSend
  no_earlier_under_way : ToSend
  channel_empty : ToSend

-- To deliver m: no condition; no other f under way to that board with f's send before m's send; nothing else under way.
pub data ToDeliver : Type 0 where
  always : ToDeliver
  in_order : ToDeliver
  alone : ToDeliver

-- On an eager channel a board sends, or takes a delivery, only while its buffer is empty.
pub record Channel : Type 0 where
  pub eager : Bool
  pub to_send : ToSend
  pub to_deliver : ToDeliver

abbrev eager_free_running : Channel
eager_free_running = record { eager = true; to_send = ToSend.always; to_deliver = ToDeliver.always }

abbrev lazy_free_running : Channel
lazy_free_running = record { eager = false; to_send = ToSend.always; to_deliver = ToDeliver.always }

abbrev eager_fifo : Channel
eager_fifo = record { eager = true; to_send = ToSend.always; to_deliver = in_order }

abbrev lazy_fifo : Channel
lazy_fifo = record { eager = false; to_send = ToSend.always; to_deliver = in_order }

abbrev synchronous : Channel
synchronous = record { eager = true; to_send = no_earlier_under_way; to_deliver = ToDeliver.always }

abbrev token_ring : Channel
token_ring = record { eager = true; to_send = channel_empty; to_deliver = alone }

-- the table, by code
abbrev pub channel_table : List Channel
channel_table = eager_free_running ∷ lazy_free_running ∷ eager_fifo ∷ lazy_fifo ∷ synchronous ∷ token_ring ∷ []

abbrev pub channel_of : ℕ → Channel
channel_of code = get_or channel_table code eager_free_running
