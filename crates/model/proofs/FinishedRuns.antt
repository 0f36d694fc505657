-- The events of a run: each occurs as often as it is done, once or not at all, and the events done are closed downwards wherever the run
-- is cut; so those of a finished run are all events, each once, in an order that "before" allows. Assumes nothing.
use Prim.Native.Nat.{ℕ, suc, ◌+◌, ◌<◌, ◌≤◌}
use native.Mathlib.Omega.{arith}
use mathlib.Core.Path.{◌≡◌, refl, sym, ◌∙◌, ap, subst}
use mathlib.Core.Logic.{⊎_elim}
use mathlib.Core.Bool.{Bool, true, false, not, cond, ◌&&◌, ◌||◌}
use mathlib.Core.List.{List, [], ◌∷◌, ◌++◌}
use borrow.Author.Tests.{eqb-true, leb-true, not-true}
use lib.Dec.{eqb, ltb}
use lib.ListN.{length}
use Rattle.model.specs.Refusal.{ok}
use Rattle.model.specs.Order.{Event, send_of, receive_of, number, message_of, Scenario}
use Rattle.model.specs.Channel.{Channel, channel_of}
use Rattle.model.specs.Run.{State, start, Step, send, deliver, consume, with_done, next, every_event, is_ahead, ready, allowed, is_order_from, after, finished, IsOrder, EndsFinished}
use Rattle.model.specs.Answer.{sheet_of, accepted_of}
use Rattle.model.specs.Wired.{events_of, occurrences, Rearranged, FinishedRuns}
use Rattle.model.proofs.Lists.{same_first, same_rest, first_and_rest}
use Rattle.model.proofs.Bounded.{and_left, and_right, and_both, which}
use Rattle.model.proofs.Events.{number_injective}
use Rattle.model.proofs.Causal.{Causal}
use Rattle.model.proofs.Accepted.{accepted_parts, sheet_causal, sheet_meets}
use Rattle.model.proofs.Phases.{done_at}
use Rattle.model.proofs.Rules.{every_event_at}
use Rattle.model.proofs.Occurrences.{occurrences_append, two_a_message}
use Rattle.model.proofs.WiredChoices.{list_causal, list_meets}
use Rattle.model.proofs.Orders.{reached_from_start}

-- 1 for an event that is done, 0 for one that is not
abbrev times : Bool → ℕ
times true = 1
times false = 0

times_most : (b : Bool) → times b ≤ 1
times_most true = omega arith
times_most false = omega arith

times_some : (b : Bool) → 1 ≤ times b → b ≡ true
times_some true l = refl
times_some false l = absurd (omega arith)

-- an event that was not done is done now: it occurs once more, and every other event as often as behind it
done_now : (f : Event → Bool) (y x : Event) (n k : ℕ) → f y ≡ false → times (with_done f y x) + n ≡ k
    → times (f x) + cond (eqb (number x) (number y)) (suc n) n ≡ k
unfolding with_done
done_now f y x n k u e = go (eqb (number x) (number y)) refl e
  where
    go : (b : Bool) → eqb (number x) (number y) ≡ b → times (b || f x) + n ≡ k → times (f x) + cond b (suc n) n ≡ k
    go true i h =
        let same : x ≡ y = number_injective x y (eqb-true (number x) (number y) i) in
        let undone : times (f x) ≡ 0 = ap times (ap f same ∙ u) in
        omega arith
    go false i h = h

module _ (S : Scenario) (c : Channel) where
  ready_undone : (s : State) (x : Event) → ready S s x ≡ true → s.done x ≡ false
  unfolding ready
  ready_undone s x h = not-true (s.done x) (and_left (not (s.done x)) (every_event S (λ y. not (is_ahead S y x) || s.done y)) h)

  send_ready : (s : State) (m : ℕ) → allowed S c s (send m) ≡ true → ready S s (send_of m) ≡ true
  unfolding allowed
  send_ready s m h = and_right (ltb m S.count) _ (and_left _ _ (and_left _ _ h))

  consume_ready : (s : State) (m : ℕ) → allowed S c s (consume m) ≡ true → ready S s (receive_of m) ≡ true
  unfolding allowed
  consume_ready s m h = and_right (ltb m S.count && s.holds (S.target m) m) _ h

  -- along an order an event occurs once where it becomes done, and not at all where it was done or stays undone
  counted : (s : State) (ts : List Step) (x : Event) → is_order_from S c s ts ≡ true
      → times (s.done x) + occurrences x (events_of ts) ≡ times ((after S s ts).done x)
  unfolding is_order_from after events_of occurrences next
  counted s [] x o = omega arith
  counted s (send m ∷ ts) x o =
      let a = and_left (allowed S c s (send m)) (is_order_from S c (next S s (send m)) ts) o in
      let r = and_right (allowed S c s (send m)) (is_order_from S c (next S s (send m)) ts) o in
      done_now s.done (send_of m) x _ _ (ready_undone s (send_of m) (send_ready s m a)) (counted (next S s (send m)) ts x r)
  counted s (deliver m ∷ ts) x o =
      counted (next S s (deliver m)) ts x (and_right (allowed S c s (deliver m)) (is_order_from S c (next S s (deliver m)) ts) o)
  counted s (consume m ∷ ts) x o =
      let a = and_left (allowed S c s (consume m)) (is_order_from S c (next S s (consume m)) ts) o in
      let r = and_right (allowed S c s (consume m)) (is_order_from S c (next S s (consume m)) ts) o in
      done_now s.done (receive_of m) x _ _ (ready_undone s (receive_of m) (consume_ready s m a)) (counted (next S s (consume m)) ts x r)

  -- from the start an event occurs once where it is done at the end, and else not at all
  occurs : (ts : List Step) (x : Event) → IsOrder S c ts → occurrences x (events_of ts) ≡ times ((after S start ts).done x)
  occurs ts x o = omega (arith, counted start ts x o)

  -- the first steps of an order are an order
  order_first : (s : State) (ts us : List Step) → is_order_from S c s (ts ++ us) ≡ true → is_order_from S c s ts ≡ true
  unfolding is_order_from
  order_first s [] us o = refl
  order_first s (t ∷ ts) us o =
      let a = allowed S c s t in
      and_both a (is_order_from S c (next S s t) ts) (and_left a (is_order_from S c (next S s t) (ts ++ us)) o)
      (order_first (next S s t) ts us (and_right a (is_order_from S c (next S s t) (ts ++ us)) o))

-- the first steps of a run, whose events are the first of its events
record Cut (ts : List Step) (ahead : List Event) : Type 0 where
  first : List Step
  rest : List Step
  whole : ts ≡ first ++ rest
  events : events_of first ≡ ahead

cut : (ts : List Step) (ahead behind : List Event) → events_of ts ≡ ahead ++ behind → Cut ts ahead
unfolding events_of
cut ts [] behind e = record { first = []; rest = ts; whole = refl; events = refl }
cut [] (x ∷ ahead) behind e = absurd (omega (arith, ap length e))
cut (send m ∷ ts) (x ∷ ahead) behind e =
    let k = cut ts ahead behind (same_rest e) in
    record { first = send m ∷ k.first; rest = k.rest; whole = ap (λ us. send m ∷ us) k.whole; events = first_and_rest (same_first e) k.events }
cut (deliver m ∷ ts) (x ∷ ahead) behind e =
    let k = cut ts (x ∷ ahead) behind e in
    record { first = deliver m ∷ k.first; rest = k.rest; whole = ap (λ us. deliver m ∷ us) k.whole; events = k.events }
cut (consume m ∷ ts) (x ∷ ahead) behind e =
    let k = cut ts ahead behind (same_rest e) in
    record { first = consume m ∷ k.first; rest = k.rest; whole = ap (λ us. consume m ∷ us) k.whole; events = first_and_rest (same_first e) k.events }

module _ (S : Scenario) (C : Causal S) (c : Channel) where
  -- the same over the phases that the order reaches
  occurs_by_phase : (ts : List Step) (o : IsOrder S c ts) (x : Event)
      → occurrences x (events_of ts) ≡ times (done_at (reached_from_start S c C ts o).phases x)
  occurs_by_phase ts o x = occurs S c ts x o ∙ ap (λ s. times (s.done x)) (reached_from_start S c C ts o).state

  -- wherever an order is cut, nothing behind the cut is before an event ahead of it
  allowed_by_before_holds : (ts : List Step) → IsOrder S c ts → (ahead behind : List Event) → events_of ts ≡ ahead ++ behind
      → (x y : Event) → 1 ≤ occurrences x ahead → 1 ≤ occurrences y behind → S.before y x ≡ false
  allowed_by_before_holds ts o ahead behind e x y p q = ⊎_elim (λ b. absurd (impossible b)) (λ f. f) (which (S.before y x))
    where
      impossible : S.before y x ≡ true → ⊥
      impossible b =
          let k = cut ts ahead behind e in
          let o₁ : IsOrder S c k.first = order_first S c start k.first k.rest (subst (λ us. IsOrder S c us) k.whole o) in
          let R = reached_from_start S c C k.first o₁ in
          let now : (z : Event) → occurrences z ahead ≡ times (done_at R.phases z) =
          λ z. sym (ap (occurrences z) k.events) ∙ occurs_by_phase k.first o₁ z in
          let done : done_at R.phases y ≡ true = R.inv.closed y x b (times_some (done_at R.phases x) (omega (arith, now x))) in
          let once : times (done_at R.phases y) ≡ 1 = ap times done in
          let whole : occurrences y (events_of ts) ≡ occurrences y ahead + occurrences y behind = ap (occurrences y) e ∙ occurrences_append y ahead behind in
          omega (arith, now y, occurs S c ts y o, times_most ((after S start ts).done y))

  -- the events of a finished run, over a scenario and a channel
  pub rearranged : (ts : List Step) → EndsFinished S c ts → Rearranged S ts
  unfolding finished message_of
  rearranged ts E =
      record { each_once = once; no_other = none; how_many = two_a_message S.count (events_of ts) once none; allowed_by_before = allowed_by_before_holds ts E.is_order }
    where
      once : (x : Event) → message_of x < S.count → occurrences x (events_of ts) ≡ 1
      once x l = occurs S c ts x E.is_order ∙ ap times (every_event_at S (after S start ts).done E.is_finished x l)

      φ : ℕ → ℕ
      φ = (reached_from_start S c C ts E.is_order).phases

      inside : (x : Event) → done_at φ x ≡ true → message_of x < S.count
      inside (send_of m) d = (reached_from_start S c C ts E.is_order).inv.inside m (leb-true 1 (φ m) d)
      inside (receive_of m) d = (reached_from_start S c C ts E.is_order).inv.inside m (omega (arith, leb-true 3 (φ m) d))

      none : (x : Event) → S.count ≤ message_of x → occurrences x (events_of ts) ≡ 0
      none x l = occurs_by_phase ts E.is_order x ∙ ap times (⊎_elim (λ d. absurd (omega (arith, inside x d))) (λ f. f) (which (done_at φ x)))

-- Finished runs, for every text, code and lengths of the buffers lent.
pub finished_runs_holds : (text : List ℕ) (code scratch_length trace_length : ℕ) → FinishedRuns text code scratch_length trace_length
finished_runs_holds text code scratch_length trace_length =
    record {
      causal_order = λ S e. sheet_meets text S (sheet S e);
      finished_run = λ S e ts E. rearranged S (sheet_causal text S (sheet S e)) (channel_of code) ts E;
      order_on_list = λ file l S f e. list_meets text scratch_length trace_length code file f l S e;
      finished_on_list = λ file l S f e ts E. rearranged S (list_causal text scratch_length trace_length code file f l S e) (channel_of code) ts E;
    }
  where
    sheet : (S : Scenario) → accepted_of text code scratch_length trace_length ≡ ok S → sheet_of text ≡ ok S
    sheet S e = (accepted_parts text code scratch_length trace_length S e).sheet
