-- What the theorem of point 3 uses of a scenario's "before": it is a strict order of the scenario's events, holds each
-- send before its receive, and every chain ends in a link on one board or in a message's own send. Assumes nothing.
use Prim.Native.Nat.{ℕ, ◌<◌}
use mathlib.Core.Path.{◌≡◌}
use mathlib.Core.Logic.{◌⊎◌}
use mathlib.Core.Bool.{true}
use Rattle.model.specs.Order.{Event, send_of, receive_of, message_of, Scenario, board, at_or_before}

-- how x comes before y: through an event z of y's board, or through the own send of y's message
abbrev pub LastLink : Scenario → Event → Event → Type 0
LastLink S x y =
    ((z : Event) × (at_or_before S x z ≡ true) × (S.before z y ≡ true) × (board S z ≡ board S y))
    ⊎ ((m : ℕ) × (y ≡ receive_of m) × (at_or_before S x (send_of m) ≡ true))

pub record Causal (S : Scenario) : Type 0 where
  pub inside : (x y : Event) → S.before x y ≡ true → (message_of x < S.count) × (message_of y < S.count)
  pub own : (m : ℕ) → m < S.count → S.before (send_of m) (receive_of m) ≡ true
  pub trans : (x y z : Event) → S.before x y ≡ true → S.before y z ≡ true → S.before x z ≡ true
  pub irreflexive : (x : Event) → S.before x x ≡ true → ⊥
  pub last_link : (x y : Event) → S.before x y ≡ true → LastLink S x y
