-- "Steps of a run": states, the three steps, allowed orders (Mitchell, figures 4 and 5). Assumes nothing.
use Rattle.std.specs.Prelude.{ℕ, ◌≡◌, Bool, true, false, not, cond, ◌&&◌, ◌||◌, List, [], ◌∷◌, ◌++◌, eqb, ltb}
use Rattle.model.specs.Bounded.{every}
use Rattle.model.specs.Order.{Event, send_of, receive_of, number, Scenario, board}
use Rattle.model.specs.Channel.{Channel, ToSend, ToDeliver, no_earlier_under_way, channel_empty, in_order, alone}

-- which events are done, which messages are under way, and what each board's buffer holds
pub record State : Type 0 where
  pub done : Event → Bool
  pub under_way : ℕ → Bool
  pub holds : ℕ → ℕ → Bool

-- no event done, nothing under way, all buffers empty
abbrev pub start : State
start = record { done = λ x. false; under_way = λ m. false; holds = λ b m. false }

pub data Step : Type 0 where
  send : ℕ → Step
  deliver : ℕ → Step
  consume : ℕ → Step

-- the function with the value v at one number, and at one event
unfoldable pub with : (ℕ → Bool) → ℕ → Bool → ℕ → Bool
with f m v k = cond (eqb k m) v (f k)

unfoldable pub with_done : (Event → Bool) → Event → Event → Bool
with_done f x y = eqb (number y) (number x) || f y

unfoldable pub with_held : (ℕ → ℕ → Bool) → ℕ → ℕ → Bool → ℕ → ℕ → Bool
with_held f b m v c k = cond (eqb c b && eqb k m) v (f c k)

module _ (S : Scenario) where
  -- the state that a step leaves
  unfoldable pub next : State → Step → State
  next s (send m) = record { done = with_done s.done (send_of m); under_way = with s.under_way m true; holds = s.holds }
  next s (deliver m) = record { done = s.done; under_way = with s.under_way m false; holds = with_held s.holds (S.target m) m true }
  next s (consume m) = record { done = with_done s.done (receive_of m); under_way = s.under_way; holds = with_held s.holds (S.target m) m false }

  unfoldable pub every_event : (Event → Bool) → Bool
  every_event p = every S.count (λ m. p (send_of m) && p (receive_of m))

  -- y is before x on x's board
  unfoldable pub is_ahead : Event → Event → Bool
  is_ahead y x = S.before y x && eqb (board S y) (board S x)

  -- an event is ready when it is not done and all events before it on its board are done
  unfoldable pub ready : State → Event → Bool
  ready s x = not (s.done x) && every_event (λ y. not (is_ahead y x) || s.done y)

  unfoldable pub buffer_empty : State → ℕ → Bool
  buffer_empty s b = every S.count (λ m. not (s.holds b m))

  module _ (c : Channel) where
    -- an eager board sends, or takes a delivery, only while its buffer is empty
    unfoldable pub board_free : State → ℕ → Bool
    board_free s b = not c.eager || buffer_empty s b

    unfoldable pub may_send : ToSend → State → ℕ → Bool
    may_send ToSend.always s m = true
    may_send no_earlier_under_way s m = every S.count (λ f. not (s.under_way f && S.before (send_of f) (receive_of m)))
    may_send channel_empty s m = every S.count (λ f. not (s.under_way f))

    unfoldable pub may_deliver : ToDeliver → State → ℕ → Bool
    may_deliver ToDeliver.always s m = true
    may_deliver in_order s m =
        every S.count (λ f. eqb f m || not (s.under_way f && eqb (S.target f) (S.target m) && S.before (send_of f) (send_of m)))
    may_deliver alone s m = every S.count (λ f. eqb f m || not (s.under_way f))

    -- the step, on a message of the scenario, is allowed in the state
    unfoldable pub allowed : State → Step → Bool
    allowed s (send m) = ltb m S.count && ready s (send_of m) && board_free s (S.source m) && may_send c.to_send s m
    allowed s (deliver m) = ltb m S.count && s.under_way m && board_free s (S.target m) && may_deliver c.to_deliver s m
    allowed s (consume m) = ltb m S.count && s.holds (S.target m) m && ready s (receive_of m)

    -- the steps are allowed one after the other, the first of them in the state s
    unfoldable pub is_order_from : State → List Step → Bool
    is_order_from s [] = true
    is_order_from s (t ∷ ts) = allowed s t && is_order_from (next s t) ts

    -- no step is allowed
    unfoldable pub no_step : State → Bool
    no_step s = every S.count (λ m. not (allowed s (send m)) && not (allowed s (deliver m)) && not (allowed s (consume m)))

  -- the state that the steps leave
  unfoldable pub after : State → List Step → State
  after s [] = s
  after s (t ∷ ts) = after (next s t) ts

  -- all events are done
  unfoldable pub finished : State → Bool
  finished s = every_event s.done

  module _ (c : Channel) where
    -- not finished, and no step allowed
    unfoldable pub stuck : State → Bool
    stuck s = not (finished s) && no_step c s

    -- an allowed order, from the start
    abbrev pub IsOrder : List Step → Type 0
    IsOrder ts = is_order_from c start ts ≡ true

    -- an allowed order that ends stuck, and one that ends finished
    pub record EndsStuck (ts : List Step) : Type 0 where
      pub is_order : IsOrder ts
      pub is_stuck : stuck (after start ts) ≡ true

    pub record EndsFinished (ts : List Step) : Type 0 where
      pub is_order : IsOrder ts
      pub is_finished : finished (after start ts) ≡ true

    -- an order can be carried on until all is consumed: with steps behind it, none or more, it is an order that finishes
    abbrev pub CanFinish : List Step → Type 0
    CanFinish ts = (more : List Step) × EndsFinished (ts ++ more)
