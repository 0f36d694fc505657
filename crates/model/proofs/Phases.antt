-- A state seen as phases: a message is 0 unsent, 1 under way, 2 in its receiver's buffer, 3 consumed. Every step moves one
-- message one phase on, so each later argument is made once, for "one phase more". Assumes nothing.
use Prim.Native.Nat.{ℕ, suc, ◌+◌, ◌*◌}
use native.Mathlib.Omega.{arith}
use mathlib.Core.Path.{◌≡◌, refl, sym, ◌∙◌, ap, subst, fun_ext}
use mathlib.Core.Logic.{◌⊎◌, inl, inr, ⊎_elim}
use mathlib.Core.Bool.{Bool, true, false, cond, ◌&&◌, ◌||◌, and-false}
use borrow.Author.Tests.{eqb-true, eqb-false, leb-true, leb-false, eq-eqb, ne_eqb, le-leb, lt-leb}
use lib.Dec.{eqb, leb}
use Rattle.model.specs.Order.{Event, send_of, receive_of, number, Scenario}
use Rattle.model.specs.Run.{State, start, Step, send, deliver, consume, with, with_done, with_held, next}
use Rattle.model.specs.Schedule.{kind_of, message_of_step}
use Rattle.model.proofs.Bounded.{which}

-- two numbers are equal or differ
pub equal_or_not : (k m : ℕ) → (k ≡ m) ⊎ (k ≡ m → ⊥)
equal_or_not k m = ⊎_elim (λ (t : eqb k m ≡ true). inl (eqb-true k m t)) (λ f. inr (eqb-false k m f)) (which (eqb k m))

-- the done events of the phases
abbrev pub done_at : (ℕ → ℕ) → Event → Bool
done_at φ (send_of m) = leb 1 (φ m)
done_at φ (receive_of m) = leb 3 (φ m)

-- message m one phase on
unfoldable pub bump : (ℕ → ℕ) → ℕ → ℕ → ℕ
bump φ m k = cond (eqb k m) (suc (φ k)) (φ k)

pub bump_same : (φ : ℕ → ℕ) (m : ℕ) → bump φ m m ≡ suc (φ m)
unfolding bump
bump_same φ m = rw (eq-eqb m m refl)

pub bump_other : (φ : ℕ → ℕ) (m k : ℕ) → (k ≡ m → ⊥) → bump φ m k ≡ φ k
unfolding bump
bump_other φ m k h = rw (ne_eqb k m h)

-- a message keeps its phase, or it is the one that moved
pub bump_cases : (φ : ℕ → ℕ) (m k : ℕ) → ((k ≡ m) × (bump φ m k ≡ suc (φ m))) ⊎ ((k ≡ m → ⊥) × (bump φ m k ≡ φ k))
bump_cases φ m k =
    ⊎_elim
    (λ (e : k ≡ m). inl (e, subst (λ (j : ℕ). bump φ m j ≡ suc (φ m)) (sym e) (bump_same φ m)))
    (λ (h : k ≡ m → ⊥). inr (h, bump_other φ m k h))
    (equal_or_not k m)

-- the numbers of two events are the same where the events are
pub same_sends : (k m : ℕ) → eqb (number (send_of k)) (number (send_of m)) ≡ eqb k m
unfolding number
same_sends k m =
    ⊎_elim (λ (e : k ≡ m). rw (e, eq-eqb (2 * m) (2 * m) refl, eq-eqb m m refl))
    (λ (h : k ≡ m → ⊥). rw (ne_eqb k m h, ne_eqb (2 * k) (2 * m) (λ e. h (omega arith))))
    (equal_or_not k m)

pub same_receives : (k m : ℕ) → eqb (number (receive_of k)) (number (receive_of m)) ≡ eqb k m
unfolding number
same_receives k m =
    ⊎_elim (λ (e : k ≡ m). rw (e, eq-eqb (2 * m + 1) (2 * m + 1) refl, eq-eqb m m refl))
    (λ (h : k ≡ m → ⊥). rw (ne_eqb k m h, ne_eqb (2 * k + 1) (2 * m + 1) (λ e. h (omega arith))))
    (equal_or_not k m)

pub send_no_receive : (k m : ℕ) → eqb (number (send_of k)) (number (receive_of m)) ≡ false
unfolding number
send_no_receive k m = ne_eqb (2 * k) (2 * m + 1) (λ e. omega arith)

pub receive_no_send : (k m : ℕ) → eqb (number (receive_of k)) (number (send_of m)) ≡ false
unfolding number
receive_no_send k m = ne_eqb (2 * k + 1) (2 * m) (λ e. omega arith)

-- a test of a phase at the message that moves, and at another
at_moved : (φ : ℕ → ℕ) (m k : ℕ) (P : Bool → ℕ → Type 0) → (k ≡ m → P true (suc (φ m))) → P false (φ k) → P (eqb k m) (bump φ m k)
at_moved φ m k P moved other =
    ⊎_elim
    (λ (e : k ≡ m). rw (e, eq-eqb m m refl, bump_same φ m) (moved e))
    (λ (h : k ≡ m → ⊥). rw (ne_eqb k m h, bump_other φ m k h) other)
    (equal_or_not k m)

-- a phase that does not arrive at j is at or above j as it was before, and it is j neither before nor behind
leb_stays : (j a : ℕ) → (suc a ≡ j → ⊥) → leb j a ≡ leb j (suc a)
leb_stays j a h =
    ⊎_elim
    (λ (t : leb j a ≡ true). t ∙ sym (le-leb j (suc a) (omega (arith, leb-true j a t))))
    (λ (f : leb j a ≡ false). f ∙ sym (lt-leb j (suc a) (omega (arith, leb-false j a f))))
    (which (leb j a))

eqb_stays : (j a : ℕ) → (a ≡ j → ⊥) → (suc a ≡ j → ⊥) → eqb a j ≡ eqb (suc a) j
eqb_stays j a h g = ne_eqb a j h ∙ sym (ne_eqb (suc a) j g)

module _ (φ : ℕ → ℕ) (m : ℕ) where
  -- tests that the step leaves as they were, and those that it changes, message by message
  leb_kept : (j : ℕ) → (suc (φ m) ≡ j → ⊥) → (k : ℕ) → leb j (φ k) ≡ leb j (bump φ m k)
  leb_kept j h k =
      at_moved φ m k (λ b p. leb j (φ k) ≡ leb j p) (λ e. ap (λ q. leb j (φ q)) e ∙ leb_stays j (φ m) h) refl

  eqb_kept : (j : ℕ) → (φ m ≡ j → ⊥) → (suc (φ m) ≡ j → ⊥) → (k : ℕ) → eqb (φ k) j ≡ eqb (bump φ m k) j
  eqb_kept j h g k =
      at_moved φ m k (λ b p. eqb (φ k) j ≡ eqb p j) (λ e. ap (λ q. eqb (φ q) j) e ∙ eqb_stays j (φ m) h g) refl

module _ (S : Scenario) where
  abbrev pub view : (ℕ → ℕ) → State
  view φ =
      record {
        done = done_at φ;
        under_way = λ m. eqb (φ m) 1;
        holds = λ b m. eqb b (S.target m) && eqb (φ m) 2;
      }

  -- the start is phase 0 throughout
  pub view_start : start ≡ view (λ m. 0)
  view_start = λ i. record { done = fun_ext d i; under_way = λ m. false; holds = fun_ext (λ b. fun_ext (h b)) i }
    where
      d : (x : Event) → false ≡ done_at (λ m. 0) x
      d (send_of m) = refl
      d (receive_of m) = refl

      h : (b m : ℕ) → false ≡ (eqb b (S.target m) && false)
      h b m = sym (and-false (eqb b (S.target m)))

  module _ (φ : ℕ → ℕ) (m : ℕ) where
    view_send : φ m ≡ 0 → next S (view φ) (send m) ≡ view (bump φ m)
    unfolding next with with_done
    view_send h = λ i. record { done = fun_ext d i; under_way = fun_ext w i; holds = fun_ext (λ b. fun_ext (g b)) i }
      where
        d : (y : Event) → with_done (done_at φ) (send_of m) y ≡ done_at (bump φ m) y
        d (send_of k) =
            rw (same_sends k m) (at_moved φ m k (λ b p. (b || leb 1 (φ k)) ≡ leb 1 p) (λ e. sym (le-leb 1 (suc (φ m)) (omega arith))) refl)
        d (receive_of k) = rw (receive_no_send k m) (leb_kept φ m 3 (λ e. omega arith) k)

        w : (k : ℕ) → with (λ j. eqb (φ j) 1) m true k ≡ eqb (bump φ m k) 1
        w k = at_moved φ m k (λ b p. cond b true (eqb (φ k) 1) ≡ eqb p 1) (λ e. sym (eq-eqb (suc (φ m)) 1 (omega arith))) refl

        g : (b k : ℕ) → (eqb b (S.target k) && eqb (φ k) 2) ≡ (eqb b (S.target k) && eqb (bump φ m k) 2)
        g b k = ap (λ t. eqb b (S.target k) && t) (eqb_kept φ m 2 (λ e. omega arith) (λ e. omega arith) k)

    view_deliver : φ m ≡ 1 → next S (view φ) (deliver m) ≡ view (bump φ m)
    unfolding next with with_held
    view_deliver h = λ i. record { done = fun_ext d i; under_way = fun_ext w i; holds = fun_ext (λ b. fun_ext (g b)) i }
      where
        d : (y : Event) → done_at φ y ≡ done_at (bump φ m) y
        d (send_of k) = leb_kept φ m 1 (λ e. omega arith) k
        d (receive_of k) = leb_kept φ m 3 (λ e. omega arith) k

        w : (k : ℕ) → with (λ j. eqb (φ j) 1) m false k ≡ eqb (bump φ m k) 1
        w k = at_moved φ m k (λ b p. cond b false (eqb (φ k) 1) ≡ eqb p 1) (λ e. sym (ne_eqb (suc (φ m)) 1 (λ u. omega arith))) refl

        into : (t : Bool) → cond (t && true) true (t && false) ≡ (t && true)
        into true = refl
        into false = refl

        g : (b k : ℕ) → with_held (λ c j. eqb c (S.target j) && eqb (φ j) 2) (S.target m) m true b k ≡ (eqb b (S.target k) && eqb (bump φ m k) 2)
        g b k =
            at_moved φ m k (λ v p. cond (eqb b (S.target m) && v) true (eqb b (S.target k) && eqb (φ k) 2) ≡ (eqb b (S.target k) && eqb p 2))
            (λ e. rw (e, ne_eqb (φ m) 2 (λ u. omega arith), eq-eqb (suc (φ m)) 2 (omega arith)) (into (eqb b (S.target m))))
            (rw and-false refl)

    view_consume : φ m ≡ 2 → next S (view φ) (consume m) ≡ view (bump φ m)
    unfolding next with_done with_held
    view_consume h = λ i. record { done = fun_ext d i; under_way = fun_ext w i; holds = fun_ext (λ b. fun_ext (g b)) i }
      where
        d : (y : Event) → with_done (done_at φ) (receive_of m) y ≡ done_at (bump φ m) y
        d (send_of k) = rw (send_no_receive k m) (leb_kept φ m 1 (λ e. omega arith) k)
        d (receive_of k) =
            rw (same_receives k m) (at_moved φ m k (λ b p. (b || leb 3 (φ k)) ≡ leb 3 p) (λ e. sym (le-leb 3 (suc (φ m)) (omega arith))) refl)

        w : (k : ℕ) → eqb (φ k) 1 ≡ eqb (bump φ m k) 1
        w k = eqb_kept φ m 1 (λ e. omega arith) (λ e. omega arith) k

        out : (t u : Bool) → cond (t && true) false (t && u) ≡ (t && false)
        out true u = refl
        out false u = refl

        g : (b k : ℕ) → with_held (λ c j. eqb c (S.target j) && eqb (φ j) 2) (S.target m) m false b k ≡ (eqb b (S.target k) && eqb (bump φ m k) 2)
        g b k =
            at_moved φ m k (λ v p. cond (eqb b (S.target m) && v) false (eqb b (S.target k) && eqb (φ k) 2) ≡ (eqb b (S.target k) && eqb p 2))
            (λ e. rw (e, ne_eqb (suc (φ m)) 2 (λ u. omega arith)) (out (eqb b (S.target m)) (eqb (φ m) 2)))
            (rw and-false refl)

  -- a step on a message in the step's phase moves that message one phase on
  -- the kind of a step is the phase that it ends
  pub view_next : (φ : ℕ → ℕ) (t : Step) → φ (message_of_step t) ≡ kind_of t → next S (view φ) t ≡ view (bump φ (message_of_step t))
  view_next φ (send m) h = view_send φ m h
  view_next φ (deliver m) h = view_deliver φ m h
  view_next φ (consume m) h = view_consume φ m h
