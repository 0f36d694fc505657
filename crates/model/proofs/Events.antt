-- Events and their numbers, the events of the messages below a bound, a message's own pair, and "at or before" taken apart.
-- Assumes nothing.
use Prim.Native.Nat.{ℕ, ◌+◌, ◌*◌, ◌/◌, ◌%◌, ◌<◌}
use native.Mathlib.Omega.{arith}
use mathlib.Core.Path.{◌≡◌, refl, sym, ◌∙◌, ap}
use mathlib.Core.Logic.{◌⊎◌, inl, inr, ⊎_elim, ◌↔◌}
use mathlib.Core.Bool.{Bool, true, false, cond}
use lib.Dec.{eqb, ltb}
use borrow.Author.Tests.{eqb-true, eqb-false, eq-eqb, ltb-true, lt-ltb}
use Rattle.model.specs.Order.{Event, send_of, receive_of, number, event, message_of, is_own, Scenario, at_or_before}
use Rattle.model.proofs.Bounded.{and_left, and_right, and_both, or_cases, or_left, or_right, not_both}

pub event_number : (x : Event) → event (number x) ≡ x
unfolding event number
event_number (send_of m) =
    let d : 2 * m / 2 ≡ m = omega arith in
    let r : 2 * m % 2 ≡ 0 = omega arith in
    rw (r, d)
event_number (receive_of m) =
    let d : (2 * m + 1) / 2 ≡ m = omega arith in
    let r : (2 * m + 1) % 2 ≡ 1 = omega arith in
    rw (r, d)

-- the events of message m have the numbers 2m and 2m + 1
pub send_event : (m : ℕ) → event (2 * m) ≡ send_of m
unfolding number
send_event m = event_number (send_of m)

pub receive_event : (m : ℕ) → event (2 * m + 1) ≡ receive_of m
unfolding number
receive_event m = event_number (receive_of m)

pub number_event : (k : ℕ) → number (event k) ≡ k
unfolding event number
number_event k = go (eqb (k % 2) 0) refl
  where
    go : (b : Bool) → eqb (k % 2) 0 ≡ b → number (cond b (send_of (k / 2)) (receive_of (k / 2))) ≡ k
    go true e = let r : k % 2 ≡ 0 = eqb-true (k % 2) 0 e in omega arith
    go false e = let r : k % 2 ≡ 0 → ⊥ = eqb-false (k % 2) 0 e in omega arith

pub number_injective : (x y : Event) → number x ≡ number y → x ≡ y
number_injective x y e = sym (event_number x) ∙ ap event e ∙ event_number y

-- a message's own send and receive
pub own_parts : (n : ℕ) (x y : Event) → is_own n x y ≡ true → (m : ℕ) × (x ≡ send_of m) × (y ≡ receive_of m) × (m < n)
unfolding is_own
own_parts n (send_of m) (send_of k) h = not_both false h refl
own_parts n (send_of m) (receive_of k) h = (
  m,
  refl,
  ap receive_of (sym (eqb-true m k (and_left (eqb m k) (ltb m n) h))),
  ltb-true m n (and_right (eqb m k) (ltb m n) h),
)
own_parts n (receive_of m) (send_of k) h = not_both false h refl
own_parts n (receive_of m) (receive_of k) h = not_both false h refl

pub own_both : (n m : ℕ) → m < n → is_own n (send_of m) (receive_of m) ≡ true
unfolding is_own
own_both n m l = and_both (eqb m m) (ltb m n) (eq-eqb m m refl) (lt-ltb m n l)

pub no_own_send : (n : ℕ) (x : Event) (m : ℕ) → is_own n x (send_of m) ≡ false
unfolding is_own
no_own_send n (send_of k) m = refl
no_own_send n (receive_of k) m = refl

-- the events of the messages below n have the numbers below 2 n
pub below_number : (x : Event) (n : ℕ) → message_of x < n ↔ number x < 2 * n
unfolding number message_of
below_number (send_of m) n = omega arith
below_number (receive_of m) n = omega arith

pub below_event : (k n : ℕ) → k < 2 * n → message_of (event k) < n
below_event k n h = (below_number (event k) n).1 (rw number_event h)

-- "at or before" is equality or "before"
pub at_or_before_cases : (S : Scenario) (x y : Event) → at_or_before S x y ≡ true → (x ≡ y) ⊎ (S.before x y ≡ true)
unfolding at_or_before
at_or_before_cases S x y h =
    ⊎_elim
    (λ e. inl (number_injective x y (eqb-true (number x) (number y) e)))
    (λ b. inr b)
    (or_cases (eqb (number x) (number y)) (S.before x y) h)

pub at_or_before_same : (S : Scenario) (x y : Event) → x ≡ y → at_or_before S x y ≡ true
unfolding at_or_before
at_or_before_same S x y e = or_left (eqb (number x) (number y)) (S.before x y) (eq-eqb (number x) (number y) (ap number e))

pub at_or_before_before : (S : Scenario) (x y : Event) → S.before x y ≡ true → at_or_before S x y ≡ true
unfolding at_or_before
at_or_before_before S x y b = or_right (eqb (number x) (number y)) (S.before x y) b
