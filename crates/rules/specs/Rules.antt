-- What a free board and the further conditions say, of every run that has the parts they read. Assumes nothing.
use Rattle.std.specs.Prelude.{◌≡◌, Bool, not, ◌||◌, List, ℕ, ◌+◌, ◌*◌, ◌<◌, get_or}
use Rattle.model.specs.Limits.{boards}
use Rattle.model.specs.Channel as model
use Rattle.model.specs.Run.{may_send, may_deliver}
use Rattle.relation.specs.Width.{width, word_bits}
use Rattle.relation.specs.Rows.{holds}
use Rattle.relation.specs.Scenario.{scenario_in}
use Rattle.channel_table.specs.declared.ToSend.{ToSend}
use Rattle.channel_table.specs.declared.ToDeliver.{ToDeliver}
use Rattle.channel_table.specs.Table.{to_send_in, to_deliver_in}
use Rattle.board.specs.Masks.{Standing}
use Rattle.run.specs.declared.Run.{Run}
use Rattle.run.specs.State.{in_row, buffer_of, state_of}
use Rattle.row_tests.specs.Tests.{none_in}

-- the channel is lazy, or the buffer, row y of those held, holds no message
abbrev pub free_in : Bool → List ℕ → List ℕ → ℕ → Bool
free_in eager masks held y = not eager || none_in (word_bits * width) width masks (2 * boards) held y

-- row y of these words is what the buffer of board b holds
abbrev pub BufferRow : Run → ℕ → List ℕ → ℕ → Type 0
BufferRow run b held y = (k : ℕ) → k < word_bits * width → in_row (buffer_of run b).held k ≡ holds width held y k

-- the further conditions, of every scenario with these words and masks, and of every run with these messages under way
abbrev pub SaysSendRule : List ℕ → List ℕ → ToSend → List ℕ → ℕ → Bool → Type 0
SaysSendRule words masks rule way m r =
    (count : ℕ) (on : List ℕ) → Standing count on words masks → m < count
    → (c : model.Channel) (run : Run) → c.to_send ≡ to_send_in rule → run.way ≡ way
    → r ≡ may_send (scenario_in count on words) c c.to_send (state_of run) m

abbrev pub SaysDeliverRule : List ℕ → List ℕ → ToDeliver → List ℕ → ℕ → ℕ → Bool → Type 0
SaysDeliverRule words masks rule way target m r =
    (count : ℕ) (on : List ℕ) → Standing count on words masks → m < count → target ≡ get_or on (2 * m + 1) 0
    → (c : model.Channel) (run : Run) → c.to_deliver ≡ to_deliver_in rule → run.way ≡ way
    → r ≡ may_deliver (scenario_in count on words) c c.to_deliver (state_of run) m
