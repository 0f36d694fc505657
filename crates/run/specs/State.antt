-- From the code's run state to the model's. Assumes nothing.
use Rattle.std.specs.Prelude.{◌≡◌, Bool, false, not, ◌&&◌, ◌||◌, List, [], ◌∷◌, ℕ, zero, suc, ◌+◌, ◌*◌, ◌/◌, ◌%◌, ◌<◌, eqb, length, get_or, replicate}
use Rattle.model.specs.Limits.{messages_most}
use Rattle.model.specs.Order.{Event, number, event}
use Rattle.model.specs.Run as model
use Rattle.model.specs.Run.{State}
use Rattle.relation.specs.Width.{width}
use Rattle.relation.specs.Rows.{holds, row_from}
use Rattle.board.specs.Boards.{boards_most}
use Rattle.step.specs.declared.Step.{Step}
use Rattle.step.specs.Steps.{message_in, event_in}
use Rattle.run.specs.declared.Buffer.{Buffer}
use Rattle.run.specs.declared.Run.{Run}

-- event k is in a row that stands by itself
abbrev pub in_row : List ℕ → ℕ → Bool
in_row row k = holds width row 0 k

-- a row with event x besides, and one without it
abbrev pub With : List ℕ → ℕ → List ℕ → Type 0
With row x more = (k : ℕ) → in_row more k ≡ (in_row row k || eqb k x)

abbrev pub Without : List ℕ → ℕ → List ℕ → Type 0
Without row x rest = (k : ℕ) → in_row rest k ≡ (in_row row k && not (eqb k x))

-- the buffer of board b; there is none beyond the last board
abbrev pub buffer_of : Run → ℕ → Buffer
buffer_of run b = get_or run.buffers b (record { held = [] })

-- a message under way, or in a buffer, is the bit of its send
abbrev pub state_of : Run → State
state_of run =
    record {
      done = λ x. in_row run.done (number x);
      under_way = λ m. in_row run.way (2 * m);
      holds = λ b m. in_row (buffer_of run b).held (2 * m);
    }

-- The run of a state, word by word: of the messages under way and of a buffer no bit is set but those of their sends.
abbrev pub events_row : (Event → Bool) → List ℕ
events_row p = row_from width 0 (λ k. p (event k))

abbrev pub sends_row : (ℕ → Bool) → List ℕ
sends_row p = row_from width 0 (λ k. eqb (k % 2) 0 && p (k / 2))

-- a buffer for each of the boards from b on
unfoldable pub buffers_from : ℕ → ℕ → (ℕ → ℕ → Bool) → List Buffer
buffers_from zero b holds = []
buffers_from (suc n) b holds = record { held = sends_row (holds b) } ∷ buffers_from n (suc b) holds

abbrev pub run_of : State → Run
run_of s = record { done = events_row s.done; way = sends_row s.under_way; buffers = buffers_from boards_most 0 s.holds }

-- a run has no bits but these: none of a receive among the messages under way, or in a buffer
pub record OnlySends (run : Run) : Type 0 where
  pub way : (m : ℕ) → in_row run.way (2 * m + 1) ≡ false
  pub held : (b m : ℕ) → in_row (buffer_of run b).held (2 * m + 1) ≡ false

-- the start of every run: no word has a bit, a buffer for each board
abbrev pub start_run : Run
start_run = record { done = replicate width 0; way = replicate width 0; buffers = replicate boards_most (record { held = replicate width 0 }) }

-- a run is at its start: these are its words, and its state is the paper's
pub record Starts (run : Run) : Type 0 where
  pub words : run ≡ start_run
  pub state : state_of run ≡ model.start
  pub boards : length run.buffers ≡ boards_most

-- the step's message has a sender and a receiver, event k being on board `get_or on k 0`
pub record Reaches (on : List ℕ) (s : Step) : Type 0 where
  pub few : message_in s < messages_most
  pub long : 2 * message_in s + 1 < length on
  pub from : get_or on (2 * message_in s) 0 < boards_most
  pub below : get_or on (2 * message_in s + 1) 0 < boards_most

-- the board on which the step is taken
pub record BoardAt (on : List ℕ) (s : Step) (b : ℕ) : Type 0 where
  pub place : b ≡ get_or on (event_in s) 0
  pub below : b < boards_most

-- the receiver's board
pub record TargetOf (on : List ℕ) (s : Step) (b : ℕ) : Type 0 where
  pub target : b ≡ get_or on (2 * message_in s + 1) 0
  pub below : b < boards_most
