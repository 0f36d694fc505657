-- A step of each kind: the tests of the code, one behind the other, are the model's. Assumes nothing.
use mathlib.Core.Path.{◌≡◌, refl, sym, ◌∙◌, ap, subst, subst⁻¹}
use mathlib.Core.Bool.{Bool, true, false, not, and-false}
use mathlib.Core.List.{List}
use Prim.Native.Nat.{ℕ, ◌+◌, ◌*◌, ◌<◌, ◌≤◌}
use native.Mathlib.Omega.{arith}
use lib.ListN.{get_or}
use borrow.Author.Tests.{lt-ltb, not-true, not-false}
use Rattle.model.specs.Limits.{messages_most}
use Rattle.model.specs.Order.{Event, send_of, receive_of}
use Rattle.model.specs.Run.{ready, board_free, allowed}
use Rattle.model.specs.Waits.{readiness}
use Rattle.model.proofs.Bounded.{not_both}
use Rattle.model.proofs.Events.{send_event, receive_event}
use Rattle.model.proofs.Waits.{ready_of, ready_reads}
use Rattle.relation.specs.Width.{width, word_bits}
use Rattle.relation.specs.Rows.{holds}
use Rattle.relation.specs.Scenario.{scenario_in}
use Rattle.channel_table.specs.declared.Channel.{Channel}
use Rattle.channel_table.specs.Table.{channel_in}
use Rattle.board.specs.Masks.{Standing}
use Rattle.run.specs.declared.Run.{Run}
use Rattle.step.specs.declared.Step.{Step}
use Rattle.step.specs.declared.Step.TheVariants.{Send, Deliver, Consume}
use Rattle.step.specs.Steps.{message_in, event_in}
use Rattle.run.specs.State.{in_row, state_of}
use Rattle.readiness.specs.declared.Readiness.{Readiness}
use Rattle.readiness.specs.declared.Readiness.TheVariants.{Ready, Done, Waits}
use Rattle.readiness.specs.Says.{readiness_in, SaysReadiness}
use Rattle.rules.specs.Rules.{free_in, BufferRow, SaysSendRule, SaysDeliverRule}
use Rattle.rules.proofs.Conditions.{free_says}
use Rattle.step_rules.specs.Steps.{held_up, SaysFree, SaysRow}

-- an event that is done, or waits, is not ready
unready : (r : Readiness) → (r ≡ Ready → ⊥) → ready_of (readiness_in r) ≡ false
unready Ready f = absurd (f refl)
unready Done f = refl
unready (Waits k) f = refl

module _ (count : ℕ) (on words masks : List ℕ) (standing : Standing count on words masks) (m : ℕ) (inside : m < count) where
  module _ (c : Channel) (way : List ℕ) where
    module _ (done : List ℕ) where
      -- the send's readiness, as the model's question whether it is ready
      send_read : (r : Readiness) → SaysReadiness count on words done (2 * m) r → (run : Run) → run.done ≡ done
          → ready (scenario_in count on words) (state_of run) (send_of m) ≡ ready_of (readiness_in r)
      send_read r h run d =
          ready_reads (scenario_in count on words) (state_of run) (send_of m)
          ∙ ap ready_of (subst (λ (x : Event). readiness (scenario_in count on words) (state_of run) x ≡ readiness_in r) (send_event m) (sym (h run d)))

      pub send_unready : (r : Readiness) → (r ≡ Ready → ⊥) → SaysReadiness count on words done (2 * m) r → SaysFree count on words c done way (Send m) false
      unfolding allowed
      send_unready r f h run d w free = rw (lt-ltb m count inside, send_read r h run d, unready r f)

      pub send_ruled : (r : Readiness) (u : Bool) → SaysSendRule words masks c.to_send way m u → r ≡ Ready → SaysReadiness count on words done (2 * m) r
          → SaysFree count on words c done way (Send m) u
      unfolding allowed
      send_ruled r u k p h run d w free =
          rw (lt-ltb m count inside, send_read r h run d ∙ ap (λ (q : Readiness). ready_of (readiness_in q)) p, free)
          (k count on standing inside (channel_in c) run refl w)

    under : (run : Run) → run.way ≡ way → in_row run.way (2 * m) ≡ holds width way 0 (2 * m)
    under run w = ap (λ (l : List ℕ). in_row l (2 * m)) w

    pub deliver_absent : (r : Bool) → r ≡ false → r ≡ holds width way 0 (2 * m) → (done : List ℕ) → SaysFree count on words c done way (Deliver m) false
    unfolding allowed
    deliver_absent r f e done run d w free = rw (lt-ltb m count inside, under run w, ← e, f)

    pub deliver_ruled : (r u : Bool) (target : ℕ) → SaysDeliverRule words masks c.to_deliver way target m u → r ≡ true → r ≡ holds width way 0 (2 * m)
        → target ≡ get_or on (2 * m + 1) 0 → (done : List ℕ) → SaysFree count on words c done way (Deliver m) u
    unfolding allowed
    deliver_ruled r u target k p e i done run d w free =
        rw (lt-ltb m count inside, under run w, ← e, p, free) (k count on standing inside i (channel_in c) run refl w)

  module _ (done held : List ℕ) (y : ℕ) where
    few : 2 * m < word_bits * width
    few = let most : count ≤ messages_most = standing.few in omega arith

    pub consume_absent : (r : Bool) → r ≡ false → r ≡ holds width held y (2 * m) → (c : Channel) (way : List ℕ) → SaysRow count on words c done way held y (Consume m) false
    unfolding allowed
    consume_absent r f e c way run d w b = rw (lt-ltb m count inside, b (2 * m) few, ← e, f)

    consume_read : (r : Bool) (u : Readiness) → SaysReadiness count on words done (2 * m + 1) u → r ≡ true → r ≡ holds width held y (2 * m)
        → (c : Channel) (way : List ℕ) → SaysRow count on words c done way held y (Consume m) (ready_of (readiness_in u))
    unfolding allowed
    consume_read r u h p e c way run d w b =
        rw (lt-ltb m count inside, b (2 * m) few, ← e, p)
        (sym (ready_reads (scenario_in count on words) (state_of run) (receive_of m)
        ∙ ap ready_of (subst (λ (x : Event). readiness (scenario_in count on words) (state_of run) x ≡ readiness_in u) (receive_event m) (sym (h run d)))))

    module _ (r : Bool) (u : Readiness) (h : SaysReadiness count on words done (2 * m + 1) u) (p : r ≡ true) (e : r ≡ holds width held y (2 * m)) where
      told : (t : Bool) → ready_of (readiness_in u) ≡ t → (c : Channel) (way : List ℕ) → SaysRow count on words c done way held y (Consume m) t
      told t i = subst (λ (b : Bool). (c : Channel) (way : List ℕ) → SaysRow count on words c done way held y (Consume m) b) i (consume_read r u h p e)

      pub consume_ready : u ≡ Ready → (c : Channel) (way : List ℕ) → SaysRow count on words c done way held y (Consume m) true
      consume_ready i = told true (ap (λ (q : Readiness). ready_of (readiness_in q)) i)

      pub consume_unready : (u ≡ Ready → ⊥) → (c : Channel) (way : List ℕ) → SaysRow count on words c done way held y (Consume m) false
      consume_unready f = told false (unready u f)

-- The step at hand is one of the three: so is its message.
pub inside : (at : ℕ → Step) (step : Step) (m count : ℕ) → step ≡ at m → message_in step < count → message_in (at m) < count
inside at step m count i h = rw i at h

-- what it says of runs in which the board is free, it says of those with the board's buffer, where the step is not held up
module _ (count : ℕ) (on words masks : List ℕ) (standing : Standing count on words masks) (c : Channel) (done way held : List ℕ) (y : ℕ) where
  where_free : (t : Step) (r : Bool) → not (free_in c.eager masks held y) ≡ false → SaysFree count on words c done way t r
      → SaysRow count on words c done way held y t r
  where_free t r up h run d w b =
      h run d w (sym (free_says count on words masks standing (channel_in c) run (get_or on (event_in t) 0) held y b) ∙ not-false (free_in c.eager masks held y) up)

  module _ (step : Step) (m : ℕ) (r : Bool) where
    pub step_sends : step ≡ Send m → SaysFree count on words c done way (Send m) r → held_up c.eager masks held y step ≡ false
        → SaysRow count on words c done way held y step r
    step_sends i h =
        subst⁻¹ (λ (s : Step). held_up c.eager masks held y s ≡ false → SaysRow count on words c done way held y s r) i (λ up. where_free (Send m) r up h)

    pub step_delivers : step ≡ Deliver m → ((d : List ℕ) → SaysFree count on words c d way (Deliver m) r) → held_up c.eager masks held y step ≡ false
        → SaysRow count on words c done way held y step r
    step_delivers i h =
        subst⁻¹ (λ (s : Step). held_up c.eager masks held y s ≡ false → SaysRow count on words c done way held y s r) i (λ up. where_free (Deliver m) r up (h done))

    pub step_consumes : step ≡ Consume m → ((k : Channel) (w : List ℕ) → SaysRow count on words k done w held y (Consume m) r)
        → SaysRow count on words c done way held y step r
    step_consumes i h = subst⁻¹ (λ (s : Step). SaysRow count on words c done way held y s r) i (h c way)

  -- a step that is held up is not allowed
  unfree : (run : Run) (b : ℕ) → BufferRow run b held y → not (free_in c.eager masks held y) ≡ true
      → board_free (scenario_in count on words) (channel_in c) (state_of run) b ≡ false
  unfree run b h up = sym (free_says count on words masks standing (channel_in c) run b held y h) ∙ not-true (free_in c.eager masks held y) up

  pub never : (t : Step) → held_up c.eager masks held y t ≡ true → SaysRow count on words c done way held y t false
  unfolding allowed
  never (Send m) up run d w b = rw (unfree run (get_or on (2 * m) 0) b up, and-false)
  never (Deliver m) up run d w b = rw (unfree run (get_or on (2 * m + 1) 0) b up, and-false)
  never (Consume m) up run d w b = not_both false up refl
