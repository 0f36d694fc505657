-- One verdict for FIFO, synchronous and token ring: their races go by one rule, and a race by any rule is one by the event itself, with
-- the same message and event. First for a scenario, then for every text. Assumes nothing.
use Prim.Native.Nat.{ℕ, ◌<◌}
use native.Mathlib.Omega.{arith}
use mathlib.Core.Path.{◌≡◌, refl, sym, ◌∙◌, ap, subst, subst⁻¹}
use mathlib.Core.Logic.{⊎_elim}
use mathlib.Core.Bool.{true, false, ◌&&◌}
use mathlib.Core.List.{List}
use mathlib.Core.Option.{Option, none, some}
use borrow.Author.Tests.{lt-ltb, not-true}
use lib.Dec.{eqb}
use Rattle.model.specs.Limits.{channels}
use Rattle.model.specs.Refusal.{Out, ok, refusal}
use Rattle.model.specs.Order.{Event, send_of, receive_of, event, message_of, Scenario, board, at_or_before}
use Rattle.model.specs.Channel.{channel_of}
use Rattle.model.specs.Race.{RaceRule, by_event, by_origin, never, race_rule_of, origin, not_at_or_before, is_race, lowest_race}
use Rattle.model.specs.Schedule.{schedule}
use Rattle.model.specs.Answer.{Answer, free, locked, free_word, locked_word, accepted_of, verdict_of, answer_for, answer_of, numbers_of}
use Rattle.model.specs.Wired.{IsWired, SameVerdict, LockedNoHigher, OneVerdict}
use Rattle.model.proofs.Bounded.{and_left, and_right, and_both, which, not_both, not_is_true}
use Rattle.model.proofs.Events.{at_or_before_cases, at_or_before_before}
use Rattle.model.proofs.Causal.{Causal}
use Rattle.model.proofs.Accepted.{accepted_parts, sheet_causal}
use Rattle.model.proofs.PointThree.{Decided, is_free, is_locked, decided}

-- the three have one rule
wired_rule : (code : ℕ) → IsWired code → race_rule_of code ≡ by_origin
wired_rule code w =
    ⊎_elim
    (λ (e : code ≡ 2). subst⁻¹ (λ (k : ℕ). race_rule_of k ≡ by_origin) e refl)
    (⊎_elim
    (λ (e : code ≡ 4). subst⁻¹ (λ (k : ℕ). race_rule_of k ≡ by_origin) e refl)
    (λ (e : code ≡ 5). subst⁻¹ (λ (k : ℕ). race_rule_of k ≡ by_origin) e refl))
    w

pub wired_known : (code : ℕ) → IsWired code → code < channels
wired_known code w = ⊎_elim (λ e. omega arith) (⊎_elim (λ e. omega arith) (λ e. omega arith)) w

-- Codes with one rule name one race: the answers for a scenario differ at most in the steps.
pub same_verdict : (S : Scenario) (code other : ℕ) → IsWired code → IsWired other
    → SameVerdict (numbers_of (verdict_of S code)) (numbers_of (verdict_of S other))
unfolding verdict_of
same_verdict S code other v w =
    go (lowest_race S (race_rule_of code)) (lowest_race S (race_rule_of other)) (ap (lowest_race S) (wired_rule code v ∙ sym (wired_rule other w)))
  where
    answer_from : ℕ → Option (ℕ × ℕ) → Answer
    answer_from k o = elim o [ none ↦ free | some race ↦ locked race.0 race.1 (schedule S (channel_of k) race.0) ]

    go : (o p : Option (ℕ × ℕ)) → o ≡ p → SameVerdict (numbers_of (answer_from code o)) (numbers_of (answer_from other p))
    go none none e = record { word = refl; one = refl; two = refl }
    go none (some q) e = let z : ◌≡◌ {A = ℕ} 0 1 = cc in absurd (omega arith)
    go (some q) none e = let z : ◌≡◌ {A = ℕ} 0 1 = cc in absurd (omega arith)
    go (some q) (some q') e =
        let same : q ≡ q' = cc in record { word = refl; one = ap (λ r. r.0) same; two = ap (λ r. r.1) same }

module _ (S : Scenario) (C : Causal S) where
  -- what is at or before e's send has its origin there too
  origin_below : (e : ℕ) (x : Event) → at_or_before S x (send_of e) ≡ true → at_or_before S (origin x) (send_of e) ≡ true
  unfolding origin message_of
  origin_below e (send_of m) h = h
  origin_below e (receive_of m) h =
      ⊎_elim
      (λ (i : receive_of m ≡ send_of e). let z : ◌≡◌ {A = ℕ} 0 1 = cc in absurd (omega arith))
      (λ (b : S.before (receive_of m) (send_of e) ≡ true).
      at_or_before_before S (send_of m) (send_of e)
      (C.trans (send_of m) (receive_of m) (send_of e) (C.own m (C.inside (receive_of m) (send_of e) b).0) b))
      (at_or_before_cases S (receive_of m) (send_of e) h)

  -- what is not at or before e's send by any rule is not so by itself
  outside_itself : (r : RaceRule) (e : ℕ) (x : Event) → not_at_or_before S r e x ≡ true → not_at_or_before S by_event e x ≡ true
  unfolding not_at_or_before
  outside_itself by_event e x h = h
  outside_itself by_origin e x h =
      ⊎_elim
      (λ (t : at_or_before S x (send_of e) ≡ true).
      not_both (at_or_before S (origin x) (send_of e)) (origin_below e x t) (not-true (at_or_before S (origin x) (send_of e)) h))
      (λ f. not_is_true (at_or_before S x (send_of e)) f)
      (which (at_or_before S x (send_of e)))
  outside_itself never e x h = not_both false h refl

  -- so a race by any rule is one by the event itself, with the same message and event
  race_by_event : (r : RaceRule) (e : ℕ) (x : Event) → is_race S r e x ≡ true → is_race S by_event e x ≡ true
  unfolding is_race
  race_by_event r e x h =
      let there = eqb (board S x) (S.target e) && S.before x (receive_of e) in
      and_both there (not_at_or_before S by_event e x) (and_left there (not_at_or_before S r e x) h)
      (outside_itself r e x (and_right there (not_at_or_before S r e x) h))

  module _ (code : ℕ) (known : code < channels) (zero_known : 0 < channels) where
    no_higher : (a b : Answer) → Decided S C code known a → Decided S C 0 zero_known b → (numbers_of a).word ≡ locked_word
        → LockedNoHigher (numbers_of b) (numbers_of a)
    no_higher a b (is_free quiet) d i = absurd (omega arith)
    no_higher a b (is_locked {e = e} {x = x} L) (is_free quiet) i =
        absurd (quiet e (event x) L.in_scenario.0 (race_by_event (race_rule_of code) e (event x) L.race))
    no_higher a b (is_locked {e = e} {x = x} L) (is_locked {e = f} {x = y} M) i = record { word = refl; message = omega (arith, not_lower) }
      where
        not_lower : e < f → ⊥
        not_lower l =
            not_both (is_race S by_event e (event x)) (race_by_event (race_rule_of code) e (event x) L.race)
            (M.no_lower_message e x l L.in_scenario.1)

    -- A scenario locked on any code is locked on 0, at the same or a lower message.
    pub locked_on_zero_holds : (numbers_of (verdict_of S code)).word ≡ locked_word
        → LockedNoHigher (numbers_of (verdict_of S 0)) (numbers_of (verdict_of S code))
    locked_on_zero_holds i = no_higher (verdict_of S code) (verdict_of S 0) (decided S C code known) (decided S C 0 zero_known) i

    -- And one free on 0 is free on every code.
    pub free_on_all_holds : (numbers_of (verdict_of S 0)).word ≡ free_word → (numbers_of (verdict_of S code)).word ≡ free_word
    free_on_all_holds i = go (verdict_of S code) (decided S C code known) locked_on_zero_holds
      where
        go : (a : Answer) → Decided S C code known a → ((numbers_of a).word ≡ locked_word → LockedNoHigher (numbers_of (verdict_of S 0)) (numbers_of a))
            → (numbers_of a).word ≡ free_word
        go a (is_free quiet) h = refl
        go a (is_locked L) h = absurd (omega (arith, (h refl).word))

-- What a sheet's scenario or its refusal is answered: a refusal is the same on every code.
pub same_answer : (o : Out Scenario) (code other : ℕ) → IsWired code → IsWired other
    → SameVerdict (numbers_of (answer_for o code)) (numbers_of (answer_for o other))
unfolding answer_for
same_answer (ok S) code other v w = same_verdict S code other v w
same_answer (refusal number line) code other v w = record { word = refl; one = refl; two = refl }

module _ (code : ℕ) (known : code < channels) where
  pub locked_answer : (o : Out Scenario) → ((S : Scenario) → o ≡ ok S → Causal S) → (numbers_of (answer_for o code)).word ≡ locked_word
      → LockedNoHigher (numbers_of (answer_for o 0)) (numbers_of (answer_for o code))
  unfolding answer_for
  locked_answer (ok S) causal i = locked_on_zero_holds S (causal S refl) code known (omega arith) i
  locked_answer (refusal number line) causal i = absurd (omega arith)

  free_answer : (o : Out Scenario) → ((S : Scenario) → o ≡ ok S → Causal S) → (numbers_of (answer_for o 0)).word ≡ free_word
      → (numbers_of (answer_for o code)).word ≡ free_word
  unfolding answer_for
  free_answer (ok S) causal i = free_on_all_holds S (causal S refl) code known (omega arith) i
  free_answer (refusal number line) causal i = absurd (omega arith)

module _ (text : List ℕ) (scratch_length trace_length : ℕ) where
  -- the sheet does not depend on the code
  one_sheet_holds : (code other : ℕ) → code < channels → other < channels
      → accepted_of text code scratch_length trace_length ≡ accepted_of text other scratch_length trace_length
  unfolding accepted_of
  one_sheet_holds code other k l = rw (lt-ltb code channels k, lt-ltb other channels l)

  accepted_causal : (code : ℕ) (S : Scenario) → accepted_of text code scratch_length trace_length ≡ ok S → Causal S
  accepted_causal code S e = sheet_causal text S (accepted_parts text code scratch_length trace_length S e).sheet

  -- One verdict, for every text and lengths of the buffers lent.
  pub one_verdict_holds : OneVerdict text scratch_length trace_length
  unfolding answer_of
  one_verdict_holds =
      record {
        one_sheet = one_sheet_holds;
        same_on_wired = λ code other v w.
            subst (λ (o : Out Scenario). SameVerdict (numbers_of (answer_for (on code) code)) (numbers_of (answer_for o other)))
            (one_sheet_holds code other (wired_known code v) (wired_known other w)) (same_answer (on code) code other v w);
        locked_on_zero = λ code known i.
            subst (λ (o : Out Scenario). LockedNoHigher (numbers_of (answer_for o 0)) (numbers_of (answer_for (on code) code)))
            (one_sheet_holds code 0 known (omega arith)) (locked_answer code known (on code) (accepted_causal code) i);
        free_on_all = λ i code known.
            subst (λ (o : Out Scenario). (numbers_of (answer_for o code)).word ≡ free_word)
            (one_sheet_holds 0 code (omega arith) known) (free_answer code known (on 0) (accepted_causal 0) i);
      }
    where
      on : ℕ → Out Scenario
      on code = accepted_of text code scratch_length trace_length
