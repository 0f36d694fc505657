-- "Races and the schedule": the withholding schedule, and the trace's bytes. Assumes nothing.
use Rattle.std.specs.Prelude.{ℕ, zero, suc, ◌*◌, Bool, true, ◌&&◌, List, [], ◌∷◌, eqb, get_or}
use Rattle.std.proofs.Math.Option.{Option, none, some}
use Rattle.model.specs.Bounded.{lowest}
use Rattle.model.specs.Order.{send_of, receive_of, Scenario, at_or_before}
use Rattle.model.specs.Channel.{Channel}
use Rattle.model.specs.Run.{State, start, Step, send, deliver, consume, next, allowed}

-- a class of steps: a step for each message that passes the test
pub record Class : Type 0 where
  pub step : ℕ → Step
  pub takes : ℕ → Bool

-- The six classes. Where the last two are reached, no step of the four before them is allowed.
abbrev pub any_consume : Class
any_consume = record { step = consume; takes = λ m. true }

abbrev pub delivery_of : ℕ → Class
delivery_of e = record { step = deliver; takes = λ m. eqb m e }

-- a delivery whose receive is before e's send, and a send at or before e's send
abbrev pub needed_delivery : Scenario → ℕ → Class
needed_delivery S e = record { step = deliver; takes = λ m. S.before (receive_of m) (send_of e) }

abbrev pub needed_send : Scenario → ℕ → Class
needed_send S e = record { step = send; takes = λ m. at_or_before S (send_of m) (send_of e) }

abbrev pub any_delivery : Class
any_delivery = record { step = deliver; takes = λ m. true }

abbrev pub any_send : Class
any_send = record { step = send; takes = λ m. true }

abbrev pub classes_for : Scenario → ℕ → List Class
classes_for S e = any_consume ∷ delivery_of e ∷ needed_delivery S e ∷ needed_send S e ∷ any_delivery ∷ any_send ∷ []

module _ (S : Scenario) (c : Channel) where
  -- the first class with an allowed step, and in it the lowest message
  unfoldable pub choose : List Class → State → Option Step
  choose [] s = none
  choose (k ∷ ks) s =
      elim (lowest S.count (λ m. k.takes m && allowed S c s (k.step m))) [
        | some m ↦ some (k.step m)
        | none ↦ choose ks s
      ]

  -- the schedule for e from the state s, for at most so many steps
  unfoldable pub schedule_from : ℕ → ℕ → State → List Step
  schedule_from e zero s = []
  schedule_from e (suc fuel) s =
      elim (choose (classes_for S e) s) [ none ↦ [] | some t ↦ t ∷ schedule_from e fuel (next S s t) ]

  -- from the start, until stuck: three steps a message are always enough
  unfoldable pub schedule : ℕ → List Step
  schedule e = schedule_from e (3 * S.count) start

-- The trace holds two bytes a step: 0 send, 1 deliver, 2 consume; then the message.
abbrev pub kind_of : Step → ℕ
kind_of (send m) = 0
kind_of (deliver m) = 1
kind_of (consume m) = 2

abbrev pub message_of_step : Step → ℕ
message_of_step (send m) = m
message_of_step (deliver m) = m
message_of_step (consume m) = m

unfoldable pub bytes_of : List Step → List ℕ
bytes_of [] = []
bytes_of (t ∷ ts) = kind_of t ∷ message_of_step t ∷ bytes_of ts

-- the step that two bytes tell; any other kind is no step
abbrev pub step_told : ℕ → ℕ → Option Step
step_told kind m = get_or (some (send m) ∷ some (deliver m) ∷ some (consume m) ∷ []) kind none
