-- The messages that the search of a class passes over: one that is no candidate has no allowed step of the class. Assumes nothing.
use mathlib.Core.Path.{◌≡◌, refl, sym, ap, ◌∙◌}
use mathlib.Core.Bool.{Bool, true, false, not, ◌&&◌, ◌||◌, and-true, and-false}
use mathlib.Core.List.{List}
use Prim.Native.Nat.{ℕ, ◌+◌, ◌*◌, ◌/◌, ◌%◌, ◌<◌}
use native.Mathlib.Decide.{ℕ_discrete}
use native.Mathlib.Omega.{arith}
use lib.Dec.{eqb}
use lib.ListN.{get_or}
use borrow.Author.Tests.{eq-eqb, ne_eqb, not-false}
use Rattle.model.specs.Limits.{messages_most}
use Rattle.model.specs.Order.{send_of, receive_of, number, at_or_before, Scenario}
use Rattle.model.specs.Run.{ready, allowed, send, deliver, consume}
use Rattle.model.specs.Channel as model
use Rattle.relation.specs.Width.{width, word_bits}
use Rattle.relation.specs.Rows.{has, holds, word_of, bit_of}
use Rattle.relation.specs.Scenario.{scenario_in}
use Rattle.relation.proofs.Words.{or_left_false, or_right_false}
use Rattle.channel_table.specs.declared.Channel.{Channel}
use Rattle.channel_table.specs.Table.{channel_in}
use Rattle.run.specs.declared.Run.{Run}
use Rattle.run.specs.State.{in_row, buffer_of, state_of}
use Rattle.buffers.specs.Held.{HeldAnywhere}
use Rattle.buffers.proofs.Rows.{in_no_buffer}
use Rattle.step_classes.specs.declared.Class.{Class}
use Rattle.step_classes.specs.declared.Class.TheVariants.{AnyConsume, DeliveryOf, NeededDelivery, NeededSend, AnyDelivery, AnySend}
use Rattle.candidates.specs.Candidates.{Exactly, is_unsent, is_needed_delivery, is_own, is_candidate}
use Rattle.next_step.specs.Search.{OfRuns, fits}

-- the step of message m is not allowed: its send is done, it is not under way, or it is not in its target's buffer
module _ (S : Scenario) (c : model.Channel) (run : Run) (m : ℕ) where
  not_unsent : in_row run.done (2 * m) ≡ true → allowed S c (state_of run) (send m) ≡ false
  unfolding allowed ready number
  not_unsent sent = rw (sent, and-false)

  not_under_way : in_row run.way (2 * m) ≡ false → allowed S c (state_of run) (deliver m) ≡ false
  unfolding allowed
  not_under_way clear = rw (clear, and-false)

  not_held : in_row (buffer_of run (S.target m)).held (2 * m) ≡ false → allowed S c (state_of run) (consume m) ≡ false
  unfolding allowed
  not_held clear = rw (clear, and-false)

-- message m's send is no candidate, in every run with these parts
module _ (words done way held rows : List ℕ) (e m : ℕ) (few : m < messages_most) where
  abbrev Misses : Class → Type 0
  Misses q = is_candidate words done way held e q (2 * m) ≡ false
      → OfRuns done way rows (λ run. (count : ℕ) (boards : List ℕ) (c : Channel) → fits count boards words c run e q m ≡ false)

  undelivered : (S : Scenario) (c : model.Channel) (run : Run) → run.way ≡ way → in_row way (2 * m) ≡ false → allowed S c (state_of run) (deliver m) ≡ false
  undelivered S c run w clear = not_under_way S c run m (ap (λ (l : List ℕ). in_row l (2 * m)) w ∙ clear)

  misses_consume : HeldAnywhere rows held → Misses AnyConsume
  misses_consume anywhere clear run d w s count on c =
      not_held (scenario_in count on words) (channel_in c) run m
      (in_no_buffer run rows (2 * m) s (omega arith) (anywhere (2 * m) (omega arith) clear) (get_or on (2 * m + 1) 0))

  misses_delivery : Misses AnyDelivery
  misses_delivery clear run d w s count on c = undelivered (scenario_in count on words) (channel_in c) run w clear

  misses_own : Misses DeliveryOf
  unfolding is_own
  misses_own clear run d w s count on c = go (ℕ_discrete m e)
    where
      go : Dec (m ≡ e) → fits count on words c run e DeliveryOf m ≡ false
      go (yes i) =
          let own : in_row way (2 * m) ≡ false = sym (and-true (in_row way (2 * m))) ∙ (rw (eq-eqb (2 * m) (2 * e) (ap (λ (k : ℕ). 2 * k) i)) at clear) in
          rw (undelivered (scenario_in count on words) (channel_in c) run w own, and-false)
      go (no n) = rw (ne_eqb m e n)

  -- a message's receive is the bit after its send
  receive_bit : has (get_or words (word_of width (2 * e) (2 * m)) 0) (bit_of (2 * m) + 1) ≡ holds width words (2 * e) (2 * m + 1)
  unfolding holds
  receive_bit =
      let word : 2 * m / word_bits ≡ (2 * m + 1) / word_bits = omega arith in
      let bit : 2 * m % word_bits + 1 ≡ (2 * m + 1) % word_bits = omega arith in
      rw (word, bit)

  receive_not_before : (count : ℕ) (on : List ℕ) → holds width words (2 * e) (2 * m + 1) ≡ false → (scenario_in count on words).before (receive_of m) (send_of e) ≡ false
  unfolding number
  receive_not_before count on h = rw (h, and-false)

  misses_needed_delivery : Misses NeededDelivery
  unfolding is_needed_delivery
  misses_needed_delivery clear run d w s count on c = go (in_row way (2 * m)) refl clear
    where
      go : (b : Bool) → in_row way (2 * m) ≡ b → (b && has (get_or words (word_of width (2 * e) (2 * m)) 0) (bit_of (2 * m) + 1)) ≡ false
          → fits count on words c run e NeededDelivery m ≡ false
      go true k none = rw (receive_not_before count on (sym receive_bit ∙ none))
      go false k none = rw (undelivered (scenario_in count on words) (channel_in c) run w k, and-false)

  -- a send that is not among those left is done
  sent : is_unsent done (2 * m) ≡ false → (S : Scenario) (c : model.Channel) (run : Run) → run.done ≡ done → allowed S c (state_of run) (send m) ≡ false
  unfolding is_unsent
  sent clear S c run d =
      let even : 2 * m % 2 ≡ 0 = omega arith in
      let off : not (in_row done (2 * m)) ≡ false = sym (and-true (not (in_row done (2 * m)))) ∙ (rw (eq-eqb (2 * m % 2) 0 even) at clear) in
      not_unsent S c run m (ap (λ (l : List ℕ). in_row l (2 * m)) d ∙ not-false (in_row done (2 * m)) off)

  misses_send : Misses AnySend
  misses_send clear run d w s count on c = sent clear (scenario_in count on words) (channel_in c) run d

  -- a send that is neither e's nor before it
  not_needed : (count : ℕ) (on : List ℕ) → (eqb (2 * m) (2 * e) || holds width words (2 * e) (2 * m)) ≡ false
      → at_or_before (scenario_in count on words) (send_of m) (send_of e) ≡ false
  unfolding at_or_before number
  not_needed count on n =
      rw (
        or_left_false (eqb (2 * m) (2 * e)) (holds width words (2 * e) (2 * m)) n,
        or_right_false (eqb (2 * m) (2 * e)) (holds width words (2 * e) (2 * m)) n,
        and-false,
      )

  misses_needed_send : Misses NeededSend
  misses_needed_send clear run d w s count on c = go (is_unsent done (2 * m)) refl clear
    where
      go : (b : Bool) → is_unsent done (2 * m) ≡ b → (b && (eqb (2 * m) (2 * e) || holds width words (2 * e) (2 * m))) ≡ false
          → fits count on words c run e NeededSend m ≡ false
      go true k none = rw (not_needed count on none)
      go false k none = rw (sent k (scenario_in count on words) (channel_in c) run d, and-false)

  misses : HeldAnywhere rows held → (q : Class) → Misses q
  misses anywhere AnyConsume = misses_consume anywhere
  misses anywhere DeliveryOf = misses_own
  misses anywhere NeededDelivery = misses_needed_delivery
  misses anywhere NeededSend = misses_needed_send
  misses anywhere AnyDelivery = misses_delivery
  misses anywhere AnySend = misses_send

  -- so a message whose bit is not in the row of candidates has no allowed step of the class
  pub no_candidate : (q : Class) (row : List ℕ) → Exactly (is_candidate words done way held e q) row → HeldAnywhere rows held → in_row row (2 * m) ≡ false
      → OfRuns done way rows (λ run. (count : ℕ) (boards : List ℕ) (c : Channel) → fits count boards words c run e q m ≡ false)
  no_candidate q row x anywhere clear = misses anywhere q (sym (x.events (2 * m) (omega arith)) ∙ clear)
