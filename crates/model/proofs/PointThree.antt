-- Point 3: for every text, code and pair of buffer lengths, the verdict on an accepted sheet is that of whole orders.
-- Assumes nothing.
use Prim.Native.Nat.{ℕ, zero, suc, ◌*◌, ◌<◌, ◌≤◌}
use native.Mathlib.Omega.{arith}
use mathlib.Core.Path.{◌≡◌, refl, sym, ◌∙◌, ap, subst, subst⁻¹}
use mathlib.Core.Logic.{inl, inr, ⊎_elim}
use mathlib.Core.Bool.{Bool, true, false, ◌&&◌}
use mathlib.Core.List.{List, [], ◌∷◌}
use mathlib.Core.Option.{Option, none, some}
use borrow.Author.Tests.{eqb-true}
use lib.Dec.{eqb}
use lib.ListN.{length, drop, length-append, length-drop}
use lib.Seq.{take_at}
use Rattle.model.specs.Limits.{channels, messages_most, trace_least}
use Rattle.model.specs.Bounded.{lowest}
use Rattle.model.specs.Refusal.{Out, ok, refusal}
use Rattle.model.specs.Order.{Event, receive_of, number, event, Scenario, board}
use Rattle.model.specs.Channel.{Channel, channel_of}
use Rattle.model.specs.Run.{State, start, Step, next, allowed, is_order_from, after, finished, stuck, EndsStuck, CanFinish}
use Rattle.model.specs.Race.{RaceRule, never, race_rule_of, not_at_or_before, is_race, races, lowest_event, lowest_message, lowest_race}
use Rattle.model.specs.Schedule.{classes_for, choose, schedule, schedule_from, bytes_of}
use Rattle.model.specs.Answer.{Answer, free, locked, accepted_of, verdict_of, answer_for, answer_of, scratch_behind, trace_after, Numbers, numbers_of}
use Rattle.model.specs.Verdict.{LowestRace, Verdict, PointThree, Checked}
use Rattle.model.proofs.Bounded.{and_left, and_right, which, not_both, any_some, any_none, IsLowest, Found, lowest_found}
use Rattle.model.proofs.Events.{event_number, below_number}
use Rattle.model.proofs.Causal.{Causal}
use Rattle.model.proofs.Accepted.{Accepted, accepted_parts, sheet_causal, sheet_count, sheet_meets}
use Rattle.model.proofs.Phases.{view, view_start}
use Rattle.model.proofs.Rules.{stuck_unfinished, stuck_forbids}
use Rattle.model.proofs.Invariants.{inv_start}
use Rattle.model.proofs.Trace.{bytes_length}
use Rattle.model.proofs.Suited.{suited}
use Rattle.model.proofs.Progress.{progress}
use Rattle.model.proofs.Withholding.{schedule_order, schedule_stuck, course_start}
use Rattle.model.proofs.Orders.{after_append, order_rest, reached_from_start, none_longer_holds, finished_length_holds, can_finish}

-- a race, taken apart
pub race_parts : (S : Scenario) (r : RaceRule) (e : ℕ) (x : Event) → is_race S r e x ≡ true
    → (board S x ≡ S.target e) × (S.before x (receive_of e) ≡ true) × (not_at_or_before S r e x ≡ true)
unfolding is_race
race_parts S r e x h =
    let t = eqb (board S x) (S.target e) in
    let b = S.before x (receive_of e) in
    let both : (t && b) ≡ true = and_left (t && b) (not_at_or_before S r e x) h in
    (eqb-true (board S x) (S.target e) (and_left t b both), and_right t b both, and_right (t && b) (not_at_or_before S r e x) h)

never_outside : (S : Scenario) (e : ℕ) (x : Event) → not_at_or_before S never e x ≡ false
unfolding not_at_or_before
never_outside S e x = refl

-- the lowest message that races, and in it the lowest event
module _ (S : Scenario) (r : RaceRule) where
  abbrev at : ℕ → ℕ → Bool
  at e k = is_race S r e (event k)

  -- what the search for the race named found
  Named : Option (ℕ × ℕ) → Type 0
  Named none = (e : ℕ) → e < S.count → (k : ℕ) → k < 2 * S.count → is_race S r e (event k) ≡ false
  Named (some race) =
      IsLowest S.count (races S r) race.0 × IsLowest (2 * S.count) (at race.0) race.1

  named : Named (lowest_race S r)
  unfolding Named lowest_race lowest_message lowest_event races
  named = go (lowest S.count (races S r)) (lowest_found S.count (races S r))
    where
      with_event : (e : ℕ) → IsLowest S.count (races S r) e → (o : Option ℕ) → Found (2 * S.count) (at e) o
          → Named (elim o [ none ↦ none | some x ↦ some (e, x) ])
      with_event e L none f =
          let k = any_some (2 * S.count) (at e) L.passes in
          not_both (at e k.0) k.2 (f k.0 k.1)
      with_event e L (some x) f = (L, f)

      go : (o : Option ℕ) → Found S.count (races S r) o
          → Named (elim o [ none ↦ none | some e ↦ elim (lowest (2 * S.count) (at e)) [ none ↦ none | some x ↦ some (e, x) ] ])
      go none f = λ e l. any_none (2 * S.count) (at e) (f e l)
      go (some e) L = with_event e L (lowest (2 * S.count) (at e)) (lowest_found (2 * S.count) (at e))

-- the race named is the lowest
pub race_lowest : (S : Scenario) (code e x : ℕ) → lowest_race S (race_rule_of code) ≡ some (e, x) → LowestRace S code e x
unfolding Named races
race_lowest S code e x i =
    let r = race_rule_of code in
    let found : Named S r (some (e, x)) = subst (Named S r) i (named S r) in
    record {
      in_scenario = (found.0.below, found.1.below);
      race = found.1.passes;
      no_lower_message = λ g y l h. any_none (2 * S.count) (λ k. is_race S r g (event k)) (found.0.first g l) y h;
      no_lower_event = found.1.first;
    }

-- where none is named there is none
pub race_none : (S : Scenario) → Causal S → (r : RaceRule) → lowest_race S r ≡ none
    → (e : ℕ) (x : Event) → e < S.count → is_race S r e x ≡ true → ⊥
unfolding Named
race_none S C r i e x l h =
    let found : Named S r none = subst (Named S r) i (named S r) in
    let inside = (below_number x S.count).0 (C.inside x (receive_of e) (race_parts S r e x h).1).0 in
    not_both (is_race S r e x) h
    (subst (λ (z : Event). is_race S r e z ≡ false) (event_number x) (found e l (number x) inside))

-- a schedule has at most as many steps as it may take
pub schedule_most : (S : Scenario) (c : Channel) (e fuel : ℕ) (s : State) → length (schedule_from S c e fuel s) ≤ fuel
unfolding schedule_from
schedule_most S c e zero s = omega arith
schedule_most S c e (suc fuel) s = go (choose S c (classes_for S e) s) (schedule_most S c e fuel)
  where
    go : (o : Option Step) → ((t : State) → length (schedule_from S c e fuel t) ≤ fuel)
        → length {A = Step} (elim o [ none ↦ [] | some t ↦ t ∷ schedule_from S c e fuel (next S s t) ]) ≤ suc fuel
    go none later = omega arith
    go (some t) later = omega (arith, later (next S s t))

module _ (S : Scenario) (C : Causal S) (code : ℕ) (known : code < channels) where
  -- the steps of a race's schedule are an order that ends stuck
  race_stuck : (e : ℕ) (x : Event) → e < S.count → is_race S (race_rule_of code) e x ≡ true → EndsStuck S (channel_of code) (schedule S (channel_of code) e)
  unfolding schedule
  race_stuck e x l h =
      let c = channel_of code in
      let r = race_rule_of code in
      let U = suited S C code known in
      let p = race_parts S r e x h in
      let eager : c.eager ≡ true =
      ⊎_elim (λ t. t) (λ (f : c.eager ≡ false). not_both _ (subst (λ (q : RaceRule). not_at_or_before S q e x ≡ true) (U.lazy f) p.2) (never_outside S e x)) (which c.eager) in
      record {
        is_order = schedule_order S c e (3 * S.count) start;
        is_stuck =
            subst⁻¹ (λ (s : State). stuck S c (after S s (schedule_from S c e (3 * S.count) s)) ≡ true) (view_start S)
            (schedule_stuck S C c r U eager e x l p.0 p.1 p.2 (3 * S.count) (λ m. 0) (inv_start S C c)
            (course_start S C c r U eager e x l p.0 p.1 p.2) (omega arith));
      }

  -- what the answer for the scenario is: free, and there is no race; or locked, with the lowest race
  pub data Decided : Answer → Type 0 where
    is_free : ((e : ℕ) (x : Event) → e < S.count → is_race S (race_rule_of code) e x ≡ true → ⊥) → Decided free
    is_locked : {e x : ℕ} → LowestRace S code e x → Decided (locked e x (schedule S (channel_of code) e))

  pub decided : Decided (verdict_of S code)
  unfolding verdict_of
  decided = go (lowest_race S (race_rule_of code)) refl
    where
      go : (o : Option (ℕ × ℕ)) → lowest_race S (race_rule_of code) ≡ o
          → Decided (elim o [ none ↦ free | some race ↦ locked race.0 race.1 (schedule S (channel_of code) race.0) ])
      go none i = is_free (race_none S C (race_rule_of code) i)
      go (some race) i = is_locked (race_lowest S code race.0 race.1 i)

  -- a stuck state allows no order but the empty one, and that does not finish
  stuck_goes_nowhere : (φ : ℕ → ℕ) → stuck S (channel_of code) (view S φ) ≡ true → (more : List Step)
      → is_order_from S (channel_of code) (view S φ) more ≡ true → finished S (after S (view S φ) more) ≡ true → ⊥
  unfolding is_order_from after
  stuck_goes_nowhere φ h [] o f = not_both (finished S (view S φ)) f (stuck_unfinished S (channel_of code) (view S φ) h)
  stuck_goes_nowhere φ h (t ∷ ts) o f =
      stuck_forbids S φ (channel_of code) C h t
      (and_left (allowed S (channel_of code) (view S φ) t) (is_order_from S (channel_of code) (next S (view S φ) t) ts) o)

  -- an order that ends stuck cannot be carried on to a finished one
  stuck_stays : (ts : List Step) → EndsStuck S (channel_of code) ts → CanFinish S (channel_of code) ts → ⊥
  stuck_stays ts E F =
      let c = channel_of code in
      let R = reached_from_start S c C ts E.is_order in
      let rest = order_rest S c start ts F.0 F.1.is_order in
      let end = subst (λ (s : State). finished S s ≡ true) (after_append S start ts F.0) F.1.is_finished in
      stuck_goes_nowhere R.phases (subst (λ (s : State). stuck S c s ≡ true) R.state E.is_stuck) F.0
      (subst (λ (s : State). is_order_from S c s F.0 ≡ true) R.state rest)
      (subst (λ (s : State). finished S (after S s F.0) ≡ true) R.state end)

  -- with no race no order ends stuck
  free_moves : ((e : ℕ) (x : Event) → e < S.count → is_race S (race_rule_of code) e x ≡ true → ⊥) → (ts : List Step)
      → EndsStuck S (channel_of code) ts → ⊥
  free_moves quiet ts E =
      let c = channel_of code in
      let R = reached_from_start S c C ts E.is_order in
      let h : stuck S c (view S R.phases) ≡ true = subst (λ (s : State). stuck S c s ≡ true) R.state E.is_stuck in
      let p =
      progress S C c R.phases R.inv (race_rule_of code) (suited S C code known) quiet
      (stuck_unfinished S c (view S R.phases) h) in
      stuck_forbids S R.phases c C h p.0 p.1

  pub verdict_for : (a : Answer) → Decided a → (trace : List ℕ) → Verdict S code (numbers_of a) (trace_after a trace)
  unfolding trace_after
  verdict_for a (is_free quiet) trace =
      record {
        locked_or_free = inr refl;
        locked_when_racing = (λ i. absurd (omega arith), λ k. absurd (quiet k.0 k.1 k.2 k.3));
        locked_race = λ i. absurd (omega arith);
        locked_count = λ i. absurd (omega arith);
        locked_trace = λ i. absurd (omega arith);
        locked_steps = λ i. absurd (omega arith);
        locked_when_stuck = (λ i. absurd (omega arith), λ k. absurd (free_moves quiet k.0 k.1));
        free_when_finishing = (λ i ts o. can_finish S (channel_of code) C (race_rule_of code) (suited S C code known) quiet ts o, λ h. refl);
        finished_length = finished_length_holds S (channel_of code) C;
        none_longer = none_longer_holds S (channel_of code) C;
      }
  verdict_for a (is_locked {e = e} {x = x} L) trace =
      let E = race_stuck e (event x) L.in_scenario.0 L.race in
      let ts = schedule S (channel_of code) e in
      record {
        locked_or_free = inl refl;
        locked_when_racing = (λ i. (e, event x, L.in_scenario.0, L.race), λ k. refl);
        locked_race = λ i. L;
        locked_count = λ i. refl;
        locked_trace = λ i. take_at (bytes_of ts) (drop (2 * length ts) trace) (2 * length ts) (bytes_length ts);
        locked_steps = λ i. E;
        locked_when_stuck = (λ i. (ts, E), λ k. refl);
        free_when_finishing = (λ i. absurd (omega arith), λ h. absurd (stuck_stays ts E (h ts E.is_order)));
        finished_length = finished_length_holds S (channel_of code) C;
        none_longer = none_longer_holds S (channel_of code) C;
      }

  -- the steps handed back fit a trace buffer with two bytes for each of three steps a message
  trace_fits : (a : Answer) → Decided a → (trace : List ℕ) → 2 * (3 * S.count) ≤ length trace → length (trace_after a trace) ≡ length trace
  unfolding trace_after schedule
  trace_fits a (is_free quiet) trace l = refl
  trace_fits a (is_locked {e = e} L) trace l =
      let ts = schedule S (channel_of code) e in
      let short : length ts ≤ 3 * S.count = schedule_most S (channel_of code) e (3 * S.count) start in
      simp (length-append, length-drop, bytes_length) (omega arith)

-- Point 3, for every text, code, scratch length and trace buffer, with no premise but that the sheet is accepted.
pub point_three_holds : (text : List ℕ) (code scratch_length : ℕ) (trace : List ℕ)
    → PointThree text code scratch_length (length trace) (numbers_of (answer_of text code scratch_length (length trace)))
    (trace_after (answer_of text code scratch_length (length trace)) trace)
unfolding answer_of answer_for
point_three_holds text code scratch_length trace S e =
    let a = accepted_parts text code scratch_length (length trace) S e in
    let C = sheet_causal text S a.sheet in
    subst⁻¹ (λ (o : Out Scenario). Verdict S code (numbers_of (answer_for o code)) (trace_after (answer_for o code) trace)) e
    (verdict_for S C code a.code_known (verdict_of S code) (decided S C code a.code_known) trace)

-- What is answered, and left in the buffers, as the model says of the sheet accepted or refused: then point 3 holds of it.
pub checked_from : (text : List ℕ) (code : ℕ) (scratch scratch_exit trace trace_exit : List ℕ) (r : Numbers) (o : Out Scenario)
    → accepted_of text code (length scratch) (length trace) ≡ o → r ≡ numbers_of (answer_for o code) → scratch_exit ≡ scratch_behind o scratch
    → trace_exit ≡ trace_after (answer_for o code) trace → Checked text code scratch scratch_exit trace trace_exit r
unfolding answer_of
checked_from text code scratch scratch_exit trace trace_exit r o e i s t =
    let answered : r ≡ numbers_of (answer_of text code (length scratch) (length trace)) = i ∙ ap (λ p. numbers_of (answer_for p code)) (sym e) in
    let written : trace_exit ≡ trace_after (answer_of text code (length scratch) (length trace)) trace =
    t ∙ ap (λ p. trace_after (answer_for p code) trace) (sym e) in
    record {
      answer = answered;
      scratch_left = s ∙ ap (λ p. scratch_behind p scratch) (sym e);
      trace_left = written;
      causal_order = λ S h. sheet_meets text S (accepted_parts text code (length scratch) (length trace) S h).sheet;
      point_three =
          subst⁻¹ (λ (n : Numbers). PointThree text code (length scratch) (length trace) n trace_exit) answered
          (subst⁻¹ (λ (l : List ℕ). PointThree text code (length scratch) (length trace) (numbers_of (answer_of text code (length scratch) (length trace))) l)
          written (point_three_holds text code (length scratch) trace));
    }

-- the trace buffer keeps its length, whatever the text: the steps of a schedule always fit the least buffer
pub trace_kept : (text : List ℕ) (code scratch_length : ℕ) (trace : List ℕ)
    → length (trace_after (answer_of text code scratch_length (length trace)) trace) ≡ length trace
unfolding answer_of answer_for trace_after
trace_kept text code scratch_length trace = go (accepted_of text code scratch_length (length trace)) refl
  where
    go : (o : Out Scenario) → accepted_of text code scratch_length (length trace) ≡ o → length (trace_after (answer_for o code) trace) ≡ length trace
    go (refusal number line) e = refl
    go (ok S) e =
        let a = accepted_parts text code scratch_length (length trace) S e in
        let C = sheet_causal text S a.sheet in
        let count : S.count ≤ messages_most = sheet_count text S a.sheet in
        let long : trace_least ≤ length trace = a.trace_enough in
        trace_fits S C code a.code_known (verdict_of S code) (decided S C code a.code_known) trace (omega arith)

-- where the check says locked, the sheet is accepted, and its steps are an order of the scenario that ends stuck
pub locked_stuck : (text : List ℕ) (code m n e x : ℕ) (ts : List Step) → answer_of text code m n ≡ locked e x ts
    → (S : Scenario) × Accepted text code m n S × EndsStuck S (channel_of code) ts × (length ts ≤ 3 * S.count)
unfolding answer_of answer_for
locked_stuck text code m n e x ts h = go (accepted_of text code m n) refl h
  where
    decides : (S : Scenario) (a : Accepted text code m n S) (v : Answer) → Decided S (sheet_causal text S a.sheet) code a.code_known v
        → v ≡ locked e x ts → EndsStuck S (channel_of code) ts × (length ts ≤ 3 * S.count)
    decides S a v (is_free quiet) i = let z : ◌≡◌ {A = ℕ} 0 1 = cc in absurd (omega arith)
    decides S a v (is_locked {e = f} {x = y} L) i =
        let same : schedule S (channel_of code) f ≡ ts = cc in
        let E = race_stuck S (sheet_causal text S a.sheet) code a.code_known f (event y) L.in_scenario.0 L.race in
        subst (λ (l : List Step). EndsStuck S (channel_of code) l × (length l ≤ 3 * S.count)) same
        (E, none_longer_holds S (channel_of code) (sheet_causal text S a.sheet) (schedule S (channel_of code) f) E.is_order)

    go : (o : Out Scenario) → accepted_of text code m n ≡ o → answer_for o code ≡ locked e x ts
        → (S : Scenario) × Accepted text code m n S × EndsStuck S (channel_of code) ts × (length ts ≤ 3 * S.count)
    go (refusal number line) i k = let z : ◌≡◌ {A = ℕ} 0 1 = cc in absurd (omega arith)
    go (ok S) i k =
        let a = accepted_parts text code m n S i in
        let d = decides S a (verdict_of S code) (decided S (sheet_causal text S a.sheet) code a.code_known) k in
        (S, a, d.0, d.1)
