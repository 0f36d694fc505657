-- What each return of `readiness_of` is to show: the event itself is done, or the lowest event before it on its board that is not.
-- Assumes nothing.
use mathlib.Core.Path.{◌≡◌, refl, sym, ap, ap₂, ◌∙◌}
use mathlib.Core.Bool.{Bool, true, false, not, ◌&&◌, and-false}
use mathlib.Core.List.{List}
use Prim.Native.Nat.{ℕ, ◌*◌, ◌<◌, ◌≤◌}
use native.Mathlib.Omega.{arith}
use lib.Dec.{eqb}
use lib.ListN.{get_or}
use borrow.Author.Tests.{lt-ltb, le-ltb}
use Rattle.std.specs.Prelude as code
use Rattle.outcome.specs.Options.{found_in}
use Rattle.model.specs.Bounded.{lowest}
use Rattle.model.specs.Order.{Event, send_of, receive_of, number, event, message_of, board_of, board, Scenario}
use Rattle.model.specs.Run.{is_ahead}
use Rattle.model.specs.Waits.{holds_up, readiness}
use Rattle.model.proofs.Bounded.{lowest_within}
use Rattle.model.proofs.Events.{number_event, below_event}
use Rattle.relation.specs.Width.{width, word_bits}
use Rattle.relation.specs.Rows.{holds}
use Rattle.relation.specs.Scenario.{scenario_in}
use Rattle.board.specs.Masks.{Standing}
use Rattle.run.specs.declared.Run.{Run}
use Rattle.run.specs.State.{in_row, state_of}
use Rattle.first_left.specs.Left.{left_of}
use Rattle.row_tests.proofs.Words.{events_fit}
use Rattle.readiness.specs.declared.Readiness.TheVariants.{Ready, Done, Waits}
use Rattle.readiness.specs.Says.{SaysReadiness}

-- the board of an event, by its number
board_number : (count : ℕ) (on words : List ℕ) (x : Event) → board (scenario_in count on words) x ≡ get_or on (number x) 0
unfolding board_of number
board_number count on words (send_of m) = refl
board_number count on words (receive_of m) = refl

module _ (count : ℕ) (on words masks : List ℕ) (standing : Standing count on words masks) where
  abbrev S : Scenario
  S = scenario_in count on words

  room : 2 * count ≤ word_bits * width
  room = events_fit count standing.few

  before_is : (x y : Event) → message_of x < count → message_of y < count → S.before x y ≡ holds width words (number y) (number x)
  before_is x y h g = rw (lt-ltb (message_of x) count h, lt-ltb (message_of y) count g)

  ahead_is : (k x : ℕ) → k < 2 * count → x < 2 * count
      → is_ahead S (event k) (event x) ≡ (holds width words x k && eqb (get_or on k 0) (get_or on x 0))
  unfolding is_ahead
  ahead_is k x hk hx =
      ap₂ (λ (a b : Bool). a && b)
      (before_is (event k) (event x) (below_event k count hk) (below_event x count hx) ∙ ap₂ (holds width words) (number_event x) (number_event k))
      (ap₂ eqb
      (board_number count on words (event k) ∙ ap (λ (n : ℕ). get_or on n 0) (number_event k))
      (board_number count on words (event x) ∙ ap (λ (n : ℕ). get_or on n 0) (number_event x)))

  -- the lowest event before x on its board that is not done, in every run with these events done
  left_says : (done : List ℕ) (x : ℕ) → x < 2 * count → (run : Run) → run.done ≡ done
      → lowest (word_bits * width) (left_of width words x masks (get_or on x 0) done) ≡ lowest (2 * count) (holds_up S (state_of run) (event x))
  unfolding left_of holds_up
  left_says done x hx run d =
      lowest_within (2 * count) (word_bits * width) (left_of width words x masks (get_or on x 0) done) (holds_up S (state_of run) (event x)) room agree rest
    where
      mask : (k : ℕ) → k < 2 * count → holds width masks (get_or on x 0) k ≡ eqb (get_or on k 0) (get_or on x 0)
      mask k hk =
          standing.masks_of.on_board (get_or on x 0) k (standing.boards_below x hx) (omega (arith, room)) ∙ rw (lt-ltb k (2 * count) hk)

      agree : (k : ℕ) → k < 2 * count
          → left_of width words x masks (get_or on x 0) done k ≡ holds_up S (state_of run) (event x) k
      agree k hk =
          rw (d, number_event k) (ap (λ (a : Bool). a && not (in_row done k)) (ap (λ (b : Bool). holds width words x k && b) (mask k hk) ∙ sym (ahead_is k x hk hx)))

      rest : (k : ℕ) → 2 * count ≤ k → k < word_bits * width → left_of width words x masks (get_or on x 0) done k ≡ false
      rest k hk h =
          rw (standing.masks_of.on_board (get_or on x 0) k (standing.boards_below x hx) h, le-ltb k (2 * count) hk, and-false)

  -- what each return of `readiness` is to show
  pub says_done : (done : List ℕ) (x : ℕ) (t : Bool) → t ≡ holds width done 0 x → t ≡ true → SaysReadiness count on words done x Done
  unfolding readiness
  says_done done x t e h run d = rw (d, number_event x, ← e, h)

  module _ (done : List ℕ) (x b : ℕ) (t : Bool) (r : code.Option ℕ) (s : found_in r ≡ lowest (word_bits * width) (left_of width words x masks b done)) (e : t ≡ holds width done 0 x)
      (f : t ≡ false) (i : b ≡ get_or on x 0) (hx : x < 2 * count) where
    left_is : (run : Run) → run.done ≡ done → lowest (2 * count) (holds_up S (state_of run) (event x)) ≡ found_in r
    left_is run d = sym (s ∙ rw i (left_says done x hx run d))

    undone_is : (run : Run) → run.done ≡ done → in_row run.done (number (event x)) ≡ false
    undone_is run d = rw (d, number_event x, ← e) f

    pub says_waits : (k : ℕ) → r ≡ code.Some k → SaysReadiness count on words done x (Waits k)
    unfolding readiness
    says_waits k j run d = rw (undone_is run d, left_is run d ∙ ap found_in j)

    pub says_ready : r ≡ code.None → SaysReadiness count on words done x Ready
    unfolding readiness
    says_ready j run d = rw (undone_is run d, left_is run d ∙ ap found_in j)
