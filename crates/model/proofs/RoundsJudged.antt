-- An exchange that is repeated, over whole orders and every number of rounds: what two rounds say. Assumes nothing.
use Prim.Native.Nat.{ℕ, ◌*◌, ◌<◌, ◌≤◌}
use native.Mathlib.Nat.{one-mul, mod-eq_of_lt}
use native.Mathlib.Omega.{arith}
use mathlib.Core.Path.{◌≡◌, refl, sym, ◌∙◌, ap, subst, subst⁻¹, fun_ext}
use mathlib.Core.Logic.{◌⊎◌, inl, inr, ⊎_elim}
use mathlib.Core.List.{List, []}
use native.Mathlib.Decide.{dec_lt}
use borrow.Author.Tests.{lt-ltb, le-ltb}
use lib.ListN.{length}
use Rattle.model.specs.Limits.{channels}
use Rattle.model.specs.Order.{Event, message_of, Exchange, Before, scenario_of}
use Rattle.model.specs.Channel.{channel_of}
use Rattle.model.specs.Run.{Step, IsOrder, EndsStuck, EndsFinished, CanFinish}
use Rattle.model.specs.Race.{race_rule_of}
use Rattle.model.specs.Answer.{Answer, free, locked, refused, verdict_of, Numbers, free_word, locked_word, numbers_of, trace_after}
use Rattle.model.specs.Verdict.{Verdict}
use Rattle.model.specs.Rounds.{round_of, in_round, stands_for, rounds, second_verdict, first_verdict, rounds_verdict, scenario_in, RoundsJudged}
use Rattle.model.proofs.Bounded.{both_ways}
use Rattle.model.proofs.Causal.{Causal}
use Rattle.model.proofs.Order.{RowsInside, RowsOnOneBoard, before_inside, before_exact, causal}
use Rattle.model.proofs.PointThree.{decided, verdict_for}
use Rattle.model.proofs.Rounds.{rows_inside, rows_on_one_board, round_same, lift, before_in, at, at_round, at_in, zero_at, two_rounds_race}

module _ (E : Exchange) (inside : RowsInside E) (one_board : RowsOnOneBoard E) (no_circle : (x : Event) → Before E x x → ⊥) where
  -- no circle in any number of rounds
  rounds_causal : (k : ℕ) → Causal (scenario_in E k)
  rounds_causal k =
      causal (rounds E k) (rows_inside E inside k) (rows_on_one_board E inside k one_board) (λ x p. no_circle (in_round E x) (round_same E inside k p refl))

  -- one round is the check's own
  stands_for_one : (m : ℕ) → stands_for E 1 m ≡ m
  unfolding stands_for
  stands_for_one m = go (dec_lt m (1 * E.count))
    where
      go : Dec (m < 1 * E.count) → stands_for E 1 m ≡ m
      go (yes l) = let h : m < E.count = omega (arith, one-mul E.count) in rw (lt-ltb m (1 * E.count) l) (mod-eq_of_lt h)
      go (no g) = rw (le-ltb m (1 * E.count) (omega arith))

  first_event : (x : Event) → message_of x < E.count → (round_of E x ≡ 0) × (in_round E x ≡ x)
  first_event x l =
      let e = zero_at E inside x in
      (ap (round_of E) (sym e) ∙ at_round E inside 0 x l, ap (in_round E) (sym e) ∙ at_in E inside 0 x l)

  one_before : (x y : Event) → (scenario_in E 1).before x y ≡ (scenario_of E).before x y
  unfolding rounds
  one_before x y =
      both_ways ((scenario_in E 1).before x y) ((scenario_of E).before x y)
      (λ h.
      let b = before_inside (rounds E 1) x y h in
      let c = one-mul E.count in
      let fx = first_event x (omega (arith, b.0)) in
      let fy = first_event y (omega (arith, b.1)) in
      (before_exact E inside x y).1
      (subst (λ (u : Event). Before E u y) fx.1 (subst (λ (v : Event). Before E (in_round E x) v) fy.1 (round_same E inside 1 ((before_in E inside 1 x y).0 h) (fx.0 ∙ sym fy.0)))))
      (λ h.
      (before_in E inside 1 x y).1
      (subst (λ (u : Event). Before (rounds E 1) u y) (zero_at E inside x)
      (subst (λ (v : Event). Before (rounds E 1) (at E inside 0 x) v) (zero_at E inside y) (lift E inside 1 0 (omega arith) ((before_exact E inside x y).0 h)))))

  one_round_holds : scenario_in E 1 ≡ scenario_of E
  unfolding scenario_of rounds
  one_round_holds = λ i.
      record {
        count = one-mul E.count i;
        source = fun_ext (λ (m : ℕ). ap E.source (stands_for_one m)) i;
        target = fun_ext (λ (m : ℕ). ap E.target (stands_for_one m)) i;
        before = fun_ext (λ (x : Event). fun_ext (λ (y : Event). one_before x y)) i;
      }

  module _ (code : ℕ) (known : code < channels) where
    -- point 3 of k rounds
    numbers_in : ℕ → Numbers
    numbers_in k = numbers_of (verdict_of (scenario_in E k) code)

    point : (k : ℕ) → Verdict (scenario_in E k) code (numbers_in k) (trace_after (verdict_of (scenario_in E k) code) [])
    unfolding numbers_in
    point k = verdict_for (scenario_in E k) (rounds_causal k) code known (verdict_of (scenario_in E k) code) (decided (scenario_in E k) (rounds_causal k) code known) []

    -- locked on k rounds, locked on two
    two_decide : (k : ℕ) → (numbers_in k).word ≡ locked_word → (numbers_in 2).word ≡ locked_word
    unfolding scenario_of rounds
    two_decide k l =
        let race = (point k).locked_when_racing.0 l in
        let two = two_rounds_race E inside k (race_rule_of code) race.0 race.1 race.3 in
        (point 2).locked_when_racing.1 (two.0, two.1, two.2, two.3)

    free_of_locked : (k : ℕ) → ((numbers_in k).word ≡ locked_word → ⊥) → (numbers_in k).word ≡ free_word
    free_of_locked k n = ⊎_elim (λ l. absurd (n l)) (λ f. f) (point k).locked_or_free

    -- free on two rounds: on every number of them
    all_free : (numbers_in 2).word ≡ free_word → (k : ℕ) (ts : List Step) → IsOrder (scenario_in E k) (channel_of code) ts → CanFinish (scenario_in E k) (channel_of code) ts
    all_free f k = (point k).free_when_finishing.0 (free_of_locked k (λ l. let t = two_decide k l in omega arith))

    -- what is locked on so many rounds
    record LocksOn (number : ℕ) (r : Numbers) : Type 0 where
      rounds' : (number ≡ 1) ⊎ (number ≡ 2)
      same : r ≡ numbers_in number
      is_locked' : (numbers_in number).word ≡ locked_word
      fewest' : (k : ℕ) → 1 ≤ k → k < number → (numbers_in k).word ≡ free_word

    data Judged : ℕ → Numbers → Type 0 where
      quiet : (numbers_in 2).word ≡ free_word → Judged 0 (numbers_of free)
      locks : {number : ℕ} {r : Numbers} → LocksOn number r → Judged number r

    by_rounds : (one two : Answer) → verdict_of (scenario_in E 1) code ≡ one → verdict_of (scenario_in E 2) code ≡ two
        → Judged (first_verdict one two).0 (numbers_of (first_verdict one two).1)
    unfolding first_verdict second_verdict numbers_in
    by_rounds free free a b = quiet (ap (λ v. (numbers_of v).word) b)
    by_rounds free (locked e x ts) a b =
        locks (record {
          rounds' = inr refl;
          same = ap numbers_of (sym b);
          is_locked' = ap (λ v. (numbers_of v).word) b;
          fewest' = λ k l m. let one : k ≡ 1 = omega arith in subst⁻¹ (λ (j : ℕ). (numbers_of (verdict_of (scenario_in E j) code)).word ≡ free_word) one (ap (λ v. (numbers_of v).word) a);
        })
    by_rounds free (refused number line) a b =
        let w : (numbers_in 2).word ≡ 2 = ap (λ v. (numbers_of v).word) b in
        absurd (⊎_elim (λ l. omega arith) (λ f. omega arith) (point 2).locked_or_free)
    by_rounds (locked e x ts) two a b =
        locks (record { rounds' = inl refl; same = ap numbers_of (sym a); is_locked' = ap (λ v. (numbers_of v).word) a; fewest' = λ k l m. absurd (omega arith) })
    by_rounds (refused number line) two a b =
        let w : (numbers_in 1).word ≡ 2 = ap (λ v. (numbers_of v).word) a in
        absurd (⊎_elim (λ l. omega arith) (λ f. omega arith) (point 1).locked_or_free)

    judged_rounds : Judged (rounds_verdict E code).0 (numbers_of (rounds_verdict E code).1)
    unfolding rounds_verdict
    judged_rounds = by_rounds (verdict_of (scenario_of E) code) (verdict_of (scenario_in E 2) code) (ap (λ S. verdict_of S code) one_round_holds) refl

    finished_all : (k : ℕ) (ts : List Step) → EndsFinished (scenario_in E k) (channel_of code) ts → length ts ≡ 3 * (k * E.count)
    unfolding scenario_of rounds
    finished_all k = (point k).finished_length

    longer_none : (k : ℕ) (ts : List Step) → IsOrder (scenario_in E k) (channel_of code) ts → length ts ≤ 3 * (k * E.count)
    unfolding scenario_of rounds
    longer_none k = (point k).none_longer

    -- a stuck order of k rounds, on no number of rounds where two are free
    no_stuck : (numbers_in 2).word ≡ free_word → (k : ℕ) (ts : List Step) → EndsStuck (scenario_in E k) (channel_of code) ts → ⊥
    no_stuck f k ts s = let l = two_decide k ((point k).locked_when_stuck.1 (ts, s)) in omega arith

    told : {number : ℕ} {r : Numbers} → Judged number r → RoundsJudged E code number r
    unfolding numbers_in
    told (quiet f) =
        record {
          one_round = one_round_holds;
          causal_order = λ k. before_in E inside k;
          free_or_locked = inl refl;
          free_when_finishing = ((λ i k l. all_free f k), (λ h. refl));
          locked_when_stuck = ((λ i. absurd (omega arith)), (λ (k, l, ts, s). absurd (no_stuck f k ts s)));
          locked_rounds = λ i. absurd (omega arith);
          locked_race = λ i. absurd (omega arith);
          locked_count = λ i. absurd (omega arith);
          locked_steps = λ i. absurd (omega arith);
          fewest = λ i. absurd (omega arith);
          finished_length = finished_all;
          none_longer = longer_none;
        }
    told (locks {number = number} {r = r} h) =
        let says = point number in
        let l = h.is_locked' in
        let word : r.word ≡ locked_word = ap (λ (n : Numbers). n.word) h.same ∙ l in
        let least : 1 ≤ number = ⊎_elim (λ i. omega arith) (λ i. omega arith) h.rounds' in
        subst⁻¹ (RoundsJudged E code number) h.same
        (record {
          one_round = one_round_holds;
          causal_order = λ k. before_in E inside k;
          free_or_locked = inr l;
          free_when_finishing = (
            (λ f. absurd (omega (arith, f, l))),
            (λ all. says.free_when_finishing.1 (all number least)),
          );
          locked_when_stuck = ((λ i. (number, least, (says.locked_when_stuck.0 l).0, (says.locked_when_stuck.0 l).1)), (λ s. l));
          locked_rounds = λ i. h.rounds';
          locked_race = λ i. says.locked_race l;
          locked_count = λ i. says.locked_count l;
          locked_steps = λ i. says.locked_steps l;
          fewest = λ i k a b ts s. let f = h.fewest' k a b in let t = (point k).locked_when_stuck.1 (ts, s) in omega arith;
          finished_length = finished_all;
          none_longer = longer_none;
        })

    -- Two rounds decide all.
    pub rounds_judged : RoundsJudged E code (rounds_verdict E code).0 (numbers_of (rounds_verdict E code).1)
    rounds_judged = told judged_rounds
