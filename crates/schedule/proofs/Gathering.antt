-- What some buffer holds, kept from step to step: a message is held by its receiver's buffer alone, so one that was consumed is held by none.
-- Assumes nothing.
use mathlib.Core.Path.{◌≡◌, sym, ◌∙◌, ap}
use mathlib.Core.Bool.{true, false, not}
use mathlib.Core.List.{List}
use mathlib.Core.Logic.{◌⊎◌, inl, inr, ⊎_elim}
use Prim.Native.Nat.{ℕ, ◌+◌, ◌*◌, ◌<◌}
use native.Mathlib.Decide.{ℕ_discrete}
use lib.Dec.{eqb}
use lib.ListN.{length, get_or, set}
use borrow.Author.Tests.{eq-eqb, eqb-true, ne_eqb}
use Rattle.model.proofs.Bounded.{and_left, and_right, and_both, or_cases, or_left, or_right, which, not_both, not_is_true}
use Rattle.step.specs.declared.Step.{Step}
use Rattle.step.specs.declared.Step.TheVariants.{Send, Deliver, Consume}
use Rattle.run.specs.declared.Buffer.{Buffer}
use Rattle.run.specs.declared.Run.{Run}
use Rattle.run.specs.State.{in_row, buffer_of, TargetOf}
use Rattle.next_state.specs.Behind.{HeldBehind}
use Rattle.buffers.specs.Held.{HeldIn, HeldAnywhere}
use Rattle.buffers.proofs.Rows.{buffer_set, buffer_kept, row_holds}

-- each event that a buffer holds is in the row, and the event behind it, its receive, is on that board
pub record Gathered (on : List ℕ) (run : Run) (held : List ℕ) : Type 0 where
  pub receiver : (a k : ℕ) → in_row (buffer_of run a).held k ≡ true → a ≡ get_or on (k + 1) 0
  pub all : (a k : ℕ) → in_row (buffer_of run a).held k ≡ true → in_row held k ≡ true

pub gathered_anywhere : (on : List ℕ) (run : Run) (rows held : List ℕ) → Gathered on run held → HeldIn run rows → HeldAnywhere rows held
gathered_anywhere on run rows held G p k h clear b l = sym (row_holds run rows b k p l h) ∙ go (which (in_row (buffer_of run b).held k))
  where
    go : (in_row (buffer_of run b).held k ≡ true) ⊎ (in_row (buffer_of run b).held k ≡ false) → in_row (buffer_of run b).held k ≡ false
    go (inl t) = not_both (in_row held k) (G.all b k t) clear
    go (inr f) = f

-- Behind a step: own is what its receiver's buffer, board b's, holds then, and behind what some buffer does.
module _ (on : List ℕ) (run : Run) (held behind own done way : List ℕ) (b : ℕ) (G : Gathered on run held) (inside : b < length run.buffers) where
  abbrev last : Run
  last = record { done = done; way = way; buffers = set run.buffers b (record { held = own }) }

  -- an event that a buffer holds is in row own, of board b, or the buffer held it before
  held_by : (a k : ℕ) → in_row (buffer_of last a).held k ≡ true → ((a ≡ b) × (in_row own k ≡ true)) ⊎ ((a ≡ b → ⊥) × (in_row (buffer_of run a).held k ≡ true))
  held_by a k t = go (ℕ_discrete a b)
    where
      go : Dec (a ≡ b) → ((a ≡ b) × (in_row own k ≡ true)) ⊎ ((a ≡ b → ⊥) × (in_row (buffer_of run a).held k ≡ true))
      go (yes e) = inl (e, sym (ap (λ (u : Buffer). in_row u.held k) (ap (buffer_of last) e ∙ buffer_set run b own inside)) ∙ t)
      go (no n) = inr (n, sym (ap (λ (u : Buffer). in_row u.held k) (buffer_kept run b own a n)) ∙ t)

  -- the event is one that the buffer held before
  before : (a k : ℕ) → (in_row own k ≡ true → in_row (buffer_of run b).held k ≡ true) → in_row (buffer_of last a).held k ≡ true
      → in_row (buffer_of run a).held k ≡ true
  before a k own_before t =
      ⊎_elim (λ h. ap (λ (c : ℕ). in_row (buffer_of run c).held k) h.0 ∙ own_before h.1) (λ h. h.1) (held_by a k t)

  pub gathered_behind : (s : Step) → TargetOf on s b → HeldBehind (buffer_of run b).held s own → HeldBehind held s behind → Gathered on last behind
  gathered_behind (Send m) target o h =
      record {
        receiver = λ a k t. G.receiver a k (was a k t);
        all = λ a k t. ap (λ (w : List ℕ). in_row w k) h ∙ G.all a k (was a k t);
      }
    where
      was : (a k : ℕ) → in_row (buffer_of last a).held k ≡ true → in_row (buffer_of run a).held k ≡ true
      was a k t = before a k (λ i. sym (ap (λ (w : List ℕ). in_row w k) o) ∙ i) t
  gathered_behind (Deliver m) target o h =
      record {
        receiver = λ a k t. ⊎_elim (λ (n : (a ≡ b) × (k ≡ 2 * m)). n.0 ∙ target.target ∙ ap (λ (j : ℕ). get_or on (j + 1) 0) (sym n.1)) (G.receiver a k) (new a k t);
        all = λ a k t.
            h k
            ∙ ⊎_elim (λ (n : (a ≡ b) × (k ≡ 2 * m)). or_right (in_row held k) (eqb k (2 * m)) (eq-eqb k (2 * m) n.1)) (λ i. or_left (in_row held k) (eqb k (2 * m)) (G.all a k i)) (new a k t);
      }
    where
      new : (a k : ℕ) → in_row (buffer_of last a).held k ≡ true → ((a ≡ b) × (k ≡ 2 * m)) ⊎ (in_row (buffer_of run a).held k ≡ true)
      new a k t =
          ⊎_elim
          (λ (i : (a ≡ b) × (in_row own k ≡ true)). ⊎_elim (λ j. inr (ap (λ (c : ℕ). in_row (buffer_of run c).held k) i.0 ∙ j)) (λ j. inl (i.0, eqb-true k (2 * m) j)) (or_cases (in_row (buffer_of run b).held k) (eqb k (2 * m)) (sym (o k) ∙ i.1)))
          (λ i. inr i.1) (held_by a k t)
  gathered_behind (Consume m) target o h =
      record {
        receiver = λ a k t. G.receiver a k (was a k t);
        all = λ a k t. h k ∙ and_both (in_row held k) (not (eqb k (2 * m))) (G.all a k (was a k t)) (not_is_true (eqb k (2 * m)) (ne_eqb k (2 * m) (other a k t)));
      }
    where
      was : (a k : ℕ) → in_row (buffer_of last a).held k ≡ true → in_row (buffer_of run a).held k ≡ true
      was a k t = before a k (λ i. and_left (in_row (buffer_of run b).held k) (not (eqb k (2 * m))) (sym (o k) ∙ i)) t

      -- the message consumed was held by its receiver's buffer alone, and left it
      other : (a k : ℕ) → in_row (buffer_of last a).held k ≡ true → k ≡ 2 * m → ⊥
      other a k t e =
          ⊎_elim (λ (i : (a ≡ b) × (in_row own k ≡ true)). left i.1)
          (λ (i : (a ≡ b → ⊥) × (in_row (buffer_of run a).held k ≡ true)). i.0 (G.receiver a k i.1 ∙ ap (λ (j : ℕ). get_or on (j + 1) 0) e ∙ sym target.target))
          (held_by a k t)
        where
          left : in_row own k ≡ true → ⊥
          left i =
              not_both (not (eqb k (2 * m))) (and_right (in_row (buffer_of run b).held k) (not (eqb k (2 * m))) (sym (o k) ∙ i)) (ap not (eq-eqb k (2 * m) e))
