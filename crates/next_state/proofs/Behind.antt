-- The run state behind each step is the model's. Assumes nothing.
use mathlib.Core.Path.{◌≡◌, refl, ap, ◌∙◌, fun_ext, subst, subst⁻¹}
use mathlib.Core.Bool.{Bool, true, false, not, cond, ◌&&◌, ◌||◌, or_comm, or-false, or-true, and-true, and-false}
use mathlib.Core.List.{List, []}
use Prim.Native.Nat.{ℕ, ◌+◌, ◌*◌, ◌<◌}
use native.Mathlib.Decide.{ℕ_discrete}
use native.Mathlib.Omega.{arith}
use lib.Dec.{eqb}
use lib.ListN.{length, length-set, get_or, set}
use lib.Seq.{get_or-set_same, get_or-set_other}
use borrow.Author.Tests.{eq-eqb, ne_eqb}
use Rattle.model.specs.Limits.{boards, messages_most}
use Rattle.model.specs.Order.{Event, send_of, receive_of, number}
use Rattle.model.specs.Run.{with, with_done, with_held, next}
use Rattle.relation.specs.Width.{width}
use Rattle.relation.specs.Rows.{marked, unmarked}
use Rattle.relation.proofs.Tests.{eqb_same}
use Rattle.step.specs.declared.Step.{Step}
use Rattle.step.specs.declared.Step.TheVariants.{Send, Deliver, Consume}
use Rattle.step.specs.Steps.{step_in, message_in}
use Rattle.run.specs.declared.Buffer.{Buffer}
use Rattle.run.specs.declared.Run.{Run}
use Rattle.run.specs.State.{in_row, With, Without, buffer_of, state_of, OnlySends, TargetOf}
use Rattle.run.proofs.Rows.{gains, loses}
use Rattle.run.proofs.States.{get_d_inside}
use Rattle.next_state.specs.Behind.{DoneBehind, WayBehind, HeldBehind, Follows, NextRun}

-- a message is the bit of its send
same_message : (k m : ℕ) → eqb (2 * k) (2 * m) ≡ eqb k m
same_message k m = eqb_same (2 * k) (2 * m) k m (λ e. omega arith) (λ e. omega arith)

gained : (a b : Bool) → (a || b) ≡ cond b true a
gained a true = or-true a
gained a false = or-false a

lost : (a b : Bool) → (a && not b) ≡ cond b false a
lost a true = and-false a
lost a false = and-true a

-- what a row with an event besides, or without one, says of events and of messages
module _ (row behind : List ℕ) where
  done_more : (x : Event) → With row (number x) behind → (λ (y : Event). in_row behind (number y)) ≡ with_done (λ y. in_row row (number y)) x
  unfolding with_done
  done_more x h = fun_ext (λ y. h (number y) ∙ or_comm (in_row row (number y)) (eqb (number y) (number x)))

  message_more : (m : ℕ) → With row (2 * m) behind → (k : ℕ) → in_row behind (2 * k) ≡ with (λ j. in_row row (2 * j)) m true k
  unfolding with
  message_more m h k = h (2 * k) ∙ rw (same_message k m) (gained (in_row row (2 * k)) (eqb k m))

  message_less : (m : ℕ) → Without row (2 * m) behind → (k : ℕ) → in_row behind (2 * k) ≡ with (λ j. in_row row (2 * j)) m false k
  unfolding with
  message_less m h k = h (2 * k) ∙ rw (same_message k m) (lost (in_row row (2 * k)) (eqb k m))

-- one buffer of the row of buffers set, on a board that there is
module _ (run : Run) (b : ℕ) (inside : b < length run.buffers) (held : List ℕ) where
  abbrev set_held : ℕ → ℕ → Bool
  set_held c k = in_row (get_or (set run.buffers b (record { held = held })) c (record { held = [] })).held (2 * k)

  set_here : (k : ℕ) → set_held b k ≡ in_row held (2 * k)
  set_here k = rw (get_or-set_same run.buffers b (record { held = held }) (record { held = [] }) inside)

  set_there : (c k : ℕ) → (c ≡ b → ⊥) → set_held c k ≡ in_row (buffer_of run c).held (2 * k)
  set_there c k n = rw (get_or-set_other run.buffers b c (record { held = held }) (record { held = [] }) n)

  -- set to what it held, and to what it held with m changed
  buffer_same : ((k : ℕ) → in_row held (2 * k) ≡ in_row (buffer_of run b).held (2 * k)) → set_held ≡ (λ c k. in_row (buffer_of run c).held (2 * k))
  buffer_same says = fun_ext (λ c. fun_ext (λ k. go c k (ℕ_discrete c b)))
    where
      go : (c k : ℕ) → Dec (c ≡ b) → set_held c k ≡ in_row (buffer_of run c).held (2 * k)
      go c k (yes e) = rw e (set_here k ∙ says k)
      go c k (no n) = set_there c k n

  buffer_changed : (m : ℕ) (v : Bool) → ((k : ℕ) → in_row held (2 * k) ≡ with (λ j. in_row (buffer_of run b).held (2 * j)) m v k)
      → set_held ≡ with_held (λ c k. in_row (buffer_of run c).held (2 * k)) b m v
  unfolding with_held with
  buffer_changed m v says = fun_ext (λ c. fun_ext (λ k. go c k (ℕ_discrete c b)))
    where
      go : (c k : ℕ) → Dec (c ≡ b) → set_held c k ≡ with_held (λ c k. in_row (buffer_of run c).held (2 * k)) b m v c k
      go c k (yes e) = rw e (set_here k ∙ rw (eq-eqb b b refl) (says k))
      go c k (no n) = set_there c k n ∙ rw (ne_eqb c b n)

-- the buffer of a board that there is, whatever stands for one that there is not
there : (run : Run) (b : ℕ) (other : Buffer) → b < length run.buffers → (get_or run.buffers b other).held ≡ (buffer_of run b).held
there run b other inside = ap (λ (u : Buffer). u.held) (get_d_inside run.buffers b other (record { held = [] }) inside)

-- What each return of `done_behind`, `way_behind` and `held_behind` is to show: P is the promise, made of the row with an event
-- besides, the row without it, or the row as it was.
module _ (s : Step) (n m : ℕ) (message : m ≡ message_in s) (row r : List ℕ) where
  at_step : (P : Step → Type 0) (at : ℕ → Step) → s ≡ at n → message_in (at n) ≡ n → P (at m) → P s
  at_step P at i k p = subst⁻¹ P i (subst (λ (j : ℕ). P (at j)) (message ∙ ap message_in i ∙ k) p)

  pub done_sent : s ≡ Send n → r ≡ marked width row 0 (2 * m) → message_in s < messages_most → length row ≡ width → DoneBehind row s r
  done_sent i e few long = at_step (λ t. DoneBehind row t r) Send i refl (gains row r (2 * m) e (omega (arith, message)) long)

  pub done_consumed : s ≡ Consume n → r ≡ marked width row 0 (2 * m + 1) → message_in s < messages_most → length row ≡ width → DoneBehind row s r
  done_consumed i e few long = at_step (λ t. DoneBehind row t r) Consume i refl (gains row r (2 * m + 1) e (omega (arith, message)) long)

  pub way_sent : s ≡ Send n → r ≡ marked width row 0 (2 * m) → message_in s < messages_most → length row ≡ width → WayBehind row s r
  way_sent i e few long = at_step (λ t. WayBehind row t r) Send i refl (gains row r (2 * m) e (omega (arith, message)) long)

  pub way_delivered : s ≡ Deliver n → r ≡ unmarked width row 0 (2 * m) → message_in s < messages_most → length row ≡ width → WayBehind row s r
  way_delivered i e few long = at_step (λ t. WayBehind row t r) Deliver i refl (loses row r (2 * m) e (omega (arith, message)) long)

  pub held_delivered : s ≡ Deliver n → r ≡ marked width row 0 (2 * m) → message_in s < messages_most → length row ≡ width → HeldBehind row s r
  held_delivered i e few long = at_step (λ t. HeldBehind row t r) Deliver i refl (gains row r (2 * m) e (omega (arith, message)) long)

  pub held_consumed : s ≡ Consume n → r ≡ unmarked width row 0 (2 * m) → message_in s < messages_most → length row ≡ width → HeldBehind row s r
  held_consumed i e few long = at_step (λ t. HeldBehind row t r) Consume i refl (loses row r (2 * m) e (omega (arith, message)) long)

module _ (s : Step) (n : ℕ) (row : List ℕ) where
  pub done_kept : s ≡ Deliver n → DoneBehind row s row
  done_kept i = subst⁻¹ (λ t. DoneBehind row t row) i refl

  pub way_kept : s ≡ Consume n → WayBehind row s row
  way_kept i = subst⁻¹ (λ t. WayBehind row t row) i refl

  pub held_kept : s ≡ Send n → HeldBehind row s row
  held_kept i = subst⁻¹ (λ t. HeldBehind row t row) i refl

-- the run behind a step, whose receiver is board b
pub next_follows : (run : Run) (s : Step) (on : List ℕ) (b : ℕ) (other : Buffer) (done way held : List ℕ)
    → DoneBehind run.done s done → WayBehind run.way s way → HeldBehind (get_or run.buffers b other).held s held
    → TargetOf on s b → length run.buffers ≡ boards
    → Follows on run (step_in s) (record { done = done; way = way; buffers = set run.buffers b (record { held = held }) })
unfolding next number
next_follows run (Send n) on b other done way held p q h target long count words = λ i.
    record {
      done = done_more run.done done (send_of n) p i;
      under_way = fun_ext (message_more run.way way n q) i;
      holds = buffer_same run b (omega (arith, target.below)) held (λ k. ap (λ (l : List ℕ). in_row l (2 * k)) (h ∙ there run b other (omega (arith, target.below)))) i;
    }
next_follows run (Deliver n) on b other done way held p q h target long count words =
    let inside : b < length run.buffers = omega (arith, target.below) in
    rw (← target.target, p) (λ i.
    record {
      done = (state_of run).done;
      under_way = fun_ext (message_less run.way way n q) i;
      holds = buffer_changed run b inside held n true (message_more (buffer_of run b).held held n (subst (λ (l : List ℕ). With l (2 * n) held) (there run b other inside) h)) i;
    })
next_follows run (Consume n) on b other done way held p q h target long count words =
    let inside : b < length run.buffers = omega (arith, target.below) in
    rw (← target.target, q) (λ i.
    record {
      done = done_more run.done done (receive_of n) p i;
      under_way = (state_of run).under_way;
      holds = buffer_changed run b inside held n false (message_less (buffer_of run b).held held n (subst (λ (l : List ℕ). Without l (2 * n) held) (there run b other inside) h)) i;
    })

-- no bit of a receive comes in with a message's send, or when it leaves
odd_more : (row r : List ℕ) (n m : ℕ) → With row (2 * n) r → in_row row (2 * m + 1) ≡ false → in_row r (2 * m + 1) ≡ false
odd_more row r n m h e = h (2 * m + 1) ∙ rw (e, ne_eqb (2 * m + 1) (2 * n) (λ i. omega arith))

odd_less : (row r : List ℕ) (n m : ℕ) → Without row (2 * n) r → in_row row (2 * m + 1) ≡ false → in_row r (2 * m + 1) ≡ false
odd_less row r n m h e = h (2 * m + 1) ∙ rw e

way_sends : (row : List ℕ) (s : Step) (r : List ℕ) (m : ℕ) → WayBehind row s r → in_row row (2 * m + 1) ≡ false → in_row r (2 * m + 1) ≡ false
way_sends row (Send n) r m h e = odd_more row r n m h e
way_sends row (Deliver n) r m h e = odd_less row r n m h e
way_sends row (Consume n) r m h e = ap (λ (l : List ℕ). in_row l (2 * m + 1)) h ∙ e

held_sends : (row : List ℕ) (s : Step) (r : List ℕ) (m : ℕ) → HeldBehind row s r → in_row row (2 * m + 1) ≡ false → in_row r (2 * m + 1) ≡ false
held_sends row (Send n) r m h e = ap (λ (l : List ℕ). in_row l (2 * m + 1)) h ∙ e
held_sends row (Deliver n) r m h e = odd_more row r n m h e
held_sends row (Consume n) r m h e = odd_less row r n m h e

pub next_run : (run : Run) (s : Step) (on : List ℕ) (b : ℕ) (other : Buffer) (done way held : List ℕ)
    → DoneBehind run.done s done → WayBehind run.way s way → HeldBehind (get_or run.buffers b other).held s held
    → TargetOf on s b → length run.buffers ≡ boards
    → NextRun on run (step_in s) (record { done = done; way = way; buffers = set run.buffers b (record { held = held }) })
next_run run s on b other done way held p q h target long =
    record {
      state = next_follows run s on b other done way held p q h target long;
      sends = λ only. record { way = λ m. way_sends run.way s way m q (only.way m); held = λ c m. on_board only c m (ℕ_discrete c b) };
    }
  where
    inside : b < length run.buffers
    inside = omega (arith, target.below)

    on_board : OnlySends run → (c m : ℕ) → Dec (c ≡ b)
        → in_row (get_or (set run.buffers b (record { held = held })) c (record { held = [] })).held (2 * m + 1) ≡ false
    on_board only c m (yes e) =
        rw (e, get_or-set_same run.buffers b (record { held = held }) (record { held = [] }) inside)
        (held_sends (get_or run.buffers b other).held s held m h (ap (λ (l : List ℕ). in_row l (2 * m + 1)) (there run b other inside) ∙ only.held b m))
    on_board only c m (no n) = rw (get_or-set_other run.buffers b c (record { held = held }) (record { held = [] }) n) (only.held c m)

-- and it has a buffer for each board, as before
pub boards_kept : (run : Run) (b : ℕ) (buffer : Buffer) → length run.buffers ≡ boards → length (set run.buffers b buffer) ≡ boards
boards_kept run b buffer long = simp length-set long
