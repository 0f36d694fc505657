-- The race test at event numbers. Assumes nothing.
use mathlib.Core.Path.{◌≡◌, refl}
use mathlib.Core.Bool.{Bool, true, false, not, cond, ◌&&◌}
use mathlib.Core.List.{List}
use Prim.Native.Nat.{ℕ, ◌+◌, ◌*◌, ◌-◌, ◌/◌, ◌%◌, ◌<◌}
use native.Mathlib.Omega.{arith}
use lib.Dec.{eqb}
use lib.ListN.{get_or}
use Rattle.model.specs.Order.{send_of, receive_of, event, at_or_before}
use Rattle.model.specs.Race.{RaceRule, by_event, by_origin, origin, not_at_or_before, is_race}
use Rattle.model.proofs.Events.{send_event, receive_event}
use Rattle.relation.specs.Width.{width}
use Rattle.relation.specs.Rows.{holds}
use Rattle.relation.specs.Scenario.{scenario_in}
use Rattle.relation.proofs.Scenario.{before_at, board_at}

-- the origin of an event has the even number at or below its own
pub origin_event : (x : ℕ) → origin (event x) ≡ event (x - x % 2)
unfolding origin event
origin_event x =
    let r : (x - x % 2) % 2 ≡ 0 = omega arith in
    let d : (x - x % 2) / 2 ≡ x / 2 = omega arith in
    rw (r, d) (go (eqb (x % 2) 0))
  where
    go : (b : Bool) → origin (cond b (send_of (x / 2)) (receive_of (x / 2))) ≡ send_of (x / 2)
    go true = refl
    go false = refl

module _ (count : ℕ) (boards words : List ℕ) where
  pub by_event_holds : (e x : ℕ) → not_at_or_before (scenario_in count boards words) by_event e (event x)
      ≡ not (at_or_before (scenario_in count boards words) (event x) (event (2 * e)))
  unfolding not_at_or_before
  by_event_holds e x = rw (send_event e)

  pub by_origin_holds : (e x : ℕ) → not_at_or_before (scenario_in count boards words) by_origin e (event x)
      ≡ not (at_or_before (scenario_in count boards words) (event (x - x % 2)) (event (2 * e)))
  unfolding not_at_or_before
  by_origin_holds e x = rw (send_event e, origin_event x)

  pub race_at : (r : RaceRule) (e x : ℕ) → e < count → x < 2 * count
      → is_race (scenario_in count boards words) r e (event x)
      ≡ (eqb (get_or boards x 0) (get_or boards (2 * e + 1) 0) && holds width words (2 * e + 1) x && not_at_or_before (scenario_in count boards words) r e (event x))
  unfolding is_race
  race_at r e x l h =
      rw (board_at count boards words x, ← receive_event e, before_at count boards words x (2 * e + 1) h (omega arith))
