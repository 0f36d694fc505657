-- The start of a run, its buffers, and the boards of a step. Assumes nothing.
use mathlib.Core.Path.{◌≡◌, refl, ◌∙◌, fun_ext}
use mathlib.Core.Bool.{false}
use mathlib.Core.List.{List, [], ◌∷◌}
use Prim.Native.Nat.{ℕ, zero, suc, ◌+◌, ◌*◌, ◌/◌, ◌%◌, ◌<◌, ◌≤◌}
use native.Mathlib.Nat.{not-suc-le-zero, le_of_suc-le-suc}
use native.Mathlib.Omega.{arith}
use lib.ListN.{length, get_or, replicate}
use mir.Val.{Val}
use denote.Laws.{Is}
use Rattle.model.specs.Limits.{boards}
use Rattle.model.specs.Order.{Event, number}
use Rattle.model.specs.Run.{start}
use Rattle.model.proofs.Lists.{replicate_at}
use Rattle.relation.specs.Width.{width, word_bits}
use Rattle.relation.proofs.Bits.{has_zero}
use Rattle.relation.proofs.Words.{alone_row}
use Rattle.board.specs.Masks.{Standing}
use Rattle.run.specs.declared.Buffer.{Buffer}
use Rattle.run.specs.declared.Run.{Run}
use Rattle.step.specs.declared.Step.{Step}
use Rattle.step.specs.declared.Step.TheVariants.{Send, Deliver, Consume}
use Rattle.step.specs.Steps.{message_in, event_in}
use Rattle.run.specs.State.{in_row, buffer_of, state_of, start_run, Starts, Reaches, BoardAt, TargetOf}
use Rattle.run.specs.contracts.Run.{the_row}

-- an element that there is, whatever stands for one that there is not
pub get_d_inside : {A : Type 0} (l : List A) (i : ℕ) (d e : A) → i < length l → get_or l i d ≡ get_or l i e
get_d_inside [] i d e h = absurd (not-suc-le-zero h)
get_d_inside (a ∷ l) zero d e h = refl
get_d_inside (a ∷ l) (suc i) d e h = get_d_inside l i d e (le_of_suc-le-suc h)

-- a run has a buffer for each board: its type says so
pub buffers_long : (run : Run) (vs : List Val) → Is the_row run vs → length run.buffers ≡ boards
buffers_long run vs good = good.1.1.1.1.0.1.0.1

-- the buffer of a step's board, as the code reads it
pub buffer_read : (run : Run) (on : List ℕ) (s : Step) (b : ℕ) (other : Buffer) → BoardAt on s b → length run.buffers ≡ boards
    → buffer_of run (get_or on (event_in s) 0) ≡ get_or run.buffers b other
buffer_read run on s b other at long = rw (← at.place) (get_d_inside run.buffers b (record { held = [] }) other (omega (arith, at.below)))

-- a step on a message of the scenario reaches a board
pub reaches : (count : ℕ) (on words masks : List ℕ) (s : Step) → Standing count on words masks → message_in s < count → Reaches on s
reaches count on words masks s t h =
    record {
      few = omega (arith, t.few);
      long = omega (arith, t.boards_long);
      from = t.boards_below (2 * message_in s) (omega arith);
      below = t.boards_below (2 * message_in s + 1) (omega arith);
    }

-- the board of a step, as it is read, has a buffer
event_read : (on : List ℕ) (s : Step) → Reaches on s → get_or on (event_in s) 0 < boards
event_read on (Send m) r = r.from
event_read on (Deliver m) r = r.below
event_read on (Consume m) r = r.below

pub event_last : (s : Step) → event_in s ≤ 2 * message_in s + 1
event_last (Send m) = omega arith
event_last (Deliver m) = omega arith
event_last (Consume m) = omega arith

pub board_read : (on : List ℕ) (s : Step) (x b : ℕ) → b ≡ get_or on x 0 → x ≡ event_in s → Reaches on s → BoardAt on s b
board_read on s x b e i r = record { place = rw (e, i); below = rw (e, i) (event_read on s r) }

-- the receiver's board, as it is read, has a buffer
pub target_read : (on : List ℕ) (s : Step) (m b : ℕ) → b ≡ get_or on (2 * m + 1) 0 → m ≡ message_in s → Reaches on s → TargetOf on s b
target_read on s m b e i r = record { target = rw (e, i); below = rw (e, i) r.below }

-- rows of zeros, and buffers of them, hold nothing
pub zero_row : (n k : ℕ) → in_row (replicate n 0) k ≡ false
zero_row n k = alone_row width (replicate n 0) k ∙ rw (replicate_at {A = ℕ} n (k / word_bits) 0) (has_zero (k % word_bits))

pub zero_buffers : (n b k : ℕ) → in_row (get_or {A = Buffer} (replicate n (record { held = replicate width 0 })) b (record { held = [] })).held k ≡ false
zero_buffers zero b k = zero_row 0 k
zero_buffers (suc n) zero k = zero_row width k
zero_buffers (suc n) (suc b) k = zero_buffers n b k

start_state : state_of start_run ≡ start
start_state = λ i.
    record {
      done = fun_ext (λ (x : Event). zero_row width (number x)) i;
      under_way = fun_ext (λ (m : ℕ). zero_row width (2 * m)) i;
      holds = fun_ext (λ (b : ℕ). fun_ext (λ (m : ℕ). zero_buffers boards b (2 * m))) i;
    }

pub starts : Starts start_run
starts = record { words = refl; state = start_state; boards = refl }
