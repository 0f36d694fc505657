-- The scenario that boards and words hold, read at event numbers. Assumes nothing.
use mathlib.Core.Path.{◌≡◌, refl, ap}
use mathlib.Core.Bool.{Bool, true, false, cond}
use mathlib.Core.List.{List}
use Prim.Native.Nat.{ℕ, ◌+◌, ◌*◌, ◌/◌, ◌%◌, ◌<◌}
use native.Mathlib.Omega.{arith}
use lib.Dec.{eqb}
use lib.ListN.{get_or}
use borrow.Author.Tests.{lt-ltb, eqb-true, eqb-false}
use Rattle.model.specs.Order.{send_of, receive_of, event, message_of, board_of, board}
use Rattle.model.proofs.Events.{number_event, below_event}
use Rattle.relation.specs.Width.{width}
use Rattle.relation.specs.Rows.{holds}
use Rattle.relation.specs.Scenario.{scenario_in}

-- "before" is the bit, for events of the scenario
pub before_at : (count : ℕ) (boards words : List ℕ) (x y : ℕ) → x < 2 * count → y < 2 * count
    → (scenario_in count boards words).before (event x) (event y) ≡ holds width words y x
before_at count boards words x y l h =
    rw (
      lt-ltb (message_of (event x)) count (below_event x count l),
      lt-ltb (message_of (event y)) count (below_event y count h),
      number_event x,
      number_event y,
    )

-- the board of an event stands at its number
pub board_at : (count : ℕ) (boards words : List ℕ) (x : ℕ) → board (scenario_in count boards words) (event x) ≡ get_or boards x 0
unfolding board_of event
board_at count boards words x = go (eqb (x % 2) 0) refl
  where
    go : (b : Bool) → eqb (x % 2) 0 ≡ b
        → board_of (λ m. get_or boards (2 * m) 0) (λ m. get_or boards (2 * m + 1) 0) (cond b (send_of (x / 2)) (receive_of (x / 2))) ≡ get_or boards x 0
    go true e =
        let r : x % 2 ≡ 0 = eqb-true (x % 2) 0 e in
        let i : 2 * (x / 2) ≡ x = omega arith in
        ap (λ k. get_or boards k 0) i
    go false e =
        let r : x % 2 ≡ 0 → ⊥ = eqb-false (x % 2) 0 e in
        let i : 2 * (x / 2) + 1 ≡ x = omega arith in
        ap (λ k. get_or boards k 0) i
