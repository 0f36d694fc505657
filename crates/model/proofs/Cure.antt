-- Request (i): the cured sheet is free on all six codes, and the loosest; and with that what a call promises. Assumes nothing.
use Prim.Native.Nat.{ℕ, ◌^◌, ◌<◌, ◌≤◌}
use native.Mathlib.Omega.{arith}
use mathlib.Core.Path.{◌≡◌, refl, sym, ◌∙◌, ap, subst, subst⁻¹}
use mathlib.Core.Logic.{⊎_elim, ◌↔◌}
use mathlib.Core.Bool.{Bool, true, false, cond, ◌||◌}
use mathlib.Core.List.{List, ◌++◌}
use lib.Dec.{ltb}
use lib.ListN.{length, take, drop, replicate, length-replicate}
use lib.Seq.{take_at}
use borrow.Author.Tests.{eq-eqb, lt-ltb, le-ltb, ltb-true, ltb-false, not-true}
use Rattle.model.specs.Limits.{rows_most, channels, scratch_least, trace_least, sheet_output_least}
use Rattle.model.specs.Refusal.{Out, ok, refusal, and_then, bench_refusal, cured_rows_refusal}
use Rattle.model.specs.Order.{Event, send_of, receive_of, message_of, board_of, Scenario, scenario_of, board, at_or_before}
use Rattle.model.specs.Race.{RaceRule, by_event, by_origin, never, race_rule_of, origin, not_at_or_before, is_race}
use Rattle.model.specs.Answer.{sheet_of, accepted_of, answer_of, numbers_of, trace_after, scratch_behind}
use Rattle.model.specs.Verdict.{Verdict}
use Rattle.model.specs.Cure.{Cured, cured_before, cured_rows, cured_text, cured_of, cure_of, output_with, CureNumbers, written_word, refused_word, cure_numbers, FreeOn, CuredSheet, CureChecked}
use Rattle.model.proofs.Bounded.{which, not_both}
use Rattle.model.proofs.Events.{own_both, at_or_before_cases, at_or_before_same, at_or_before_before}
use Rattle.model.proofs.Causal.{Causal}
use Rattle.model.proofs.Accepted.{sheet_causal, sheet_count, sheet_boards, sheet_meets}
use Rattle.model.specs.Place.{line_of}
use Rattle.model.proofs.Lines.{Well, sheet_well}
use Rattle.model.proofs.PointThree.{race_parts, point_three_holds}
use Rattle.model.proofs.Cured.{to_send_holds, to_receive, from_receive, cured_old, cured_own, cured_trans, cured_exact, cured_inside}
use Rattle.model.proofs.WrittenBack.{text_short}
use Rattle.model.proofs.CureWalked.{met, cured_met, cured_sheet, cured_messages}

-- point 3 for a sheet that has a scenario, with the least buffers
unfoldable blank : List ℕ
blank = replicate trace_least 0

blank_long : length blank ≡ trace_least
unfolding blank
blank_long = length-replicate {A = ℕ} trace_least 0

verdict_of : (text : List ℕ) (S : Scenario) → sheet_of text ≡ ok S → (code : ℕ) → code < channels
    → Verdict S code (numbers_of (answer_of text code scratch_least (length blank)))
    (trace_after (answer_of text code scratch_least (length blank)) blank)
unfolding accepted_of
verdict_of text S e code l =
    point_three_holds text code scratch_least blank S
    (rw (lt-ltb code channels l, blank_long) e)

-- where no message races, the sheet is free
pub free_without_races : (text : List ℕ) (S : Scenario) → sheet_of text ≡ ok S → (code : ℕ) → code < channels
    → ((e : ℕ) (x : Event) → is_race S (race_rule_of code) e x ≡ true → ⊥) → FreeOn S code
free_without_races text S e code l none =
    let verdict = verdict_of text S e code l in
    ⊎_elim (λ locked. let r = verdict.locked_when_racing.0 locked in absurd (none r.0 r.1 r.3)) verdict.free_when_finishing.0 verdict.locked_or_free

-- where it is free, none does
pub no_race_when_free : (text : List ℕ) (S : Scenario) → sheet_of text ≡ ok S → (code : ℕ) → code < channels → FreeOn S code
    → (e : ℕ) (x : Event) → e < S.count → is_race S (race_rule_of code) e x ≡ true → ⊥
no_race_when_free text S e code l free m x k race =
    let verdict = verdict_of text S e code l in
    let f = verdict.free_when_finishing.1 free in
    let g = verdict.locked_when_racing.1 (m, x, k, race) in
    omega (arith, sym f ∙ g)

module _ (S : Scenario) (C : Causal S) where
  -- A sheet T whose order is the cured one: every event before a receive is at or before its send, so nothing races.
  module _ (T : Scenario) (same : (x y : Event) → (T.before x y ≡ true) ↔ (cured_before S x y ≡ true)) where
    at_its_send : (x : Event) (e : ℕ) → T.before x (receive_of e) ≡ true → at_or_before T x (send_of e) ≡ true
    at_its_send x e h =
        ⊎_elim
        (λ i. at_or_before_same T x (send_of e) i)
        (λ b. at_or_before_before T x (send_of e) ((same x (send_of e)).1 (to_send_holds S C x e b)))
        (at_or_before_cases S x (send_of e) (from_receive S C x e ((same x (receive_of e)).0 h)).1)

    origin_at_send : (x : Event) (e : ℕ) → T.before x (receive_of e) ≡ true → at_or_before T (origin x) (send_of e) ≡ true
    unfolding origin message_of
    origin_at_send (send_of m) e h = at_its_send (send_of m) e h
    origin_at_send (receive_of m) e h =
        let l = (cured_inside S C (receive_of m) (receive_of e) ((same (receive_of m) (receive_of e)).0 h)).0 in
        let first = cured_own S C (send_of m) (receive_of m) (own_both S.count m l) in
        at_its_send (send_of m) e
        ((same (send_of m) (receive_of e)).1 (cured_trans S C (send_of m) (receive_of m) (receive_of e) first ((same (receive_of m) (receive_of e)).0 h)))

    pub nothing_races : (r : RaceRule) (e : ℕ) (x : Event) → is_race T r e x ≡ true → ⊥
    unfolding not_at_or_before
    nothing_races by_event e x h =
        let p = race_parts T by_event e x h in
        not_both (at_or_before T x (send_of e)) (at_its_send x e p.1) (not-true (at_or_before T x (send_of e)) p.2)
    nothing_races by_origin e x h =
        let p = race_parts T by_origin e x h in
        not_both (at_or_before T (origin x) (send_of e)) (origin_at_send x e p.1) (not-true (at_or_before T (origin x) (send_of e)) p.2)
    nothing_races never e x h = not_both false (race_parts T never e x h).2 refl

  -- In a sheet T that does not race on code 0, every event before a receive is at or before its send.
  module _ (T : Scenario) (D : Causal T) (quiet : (e : ℕ) (x : Event) → e < T.count → is_race T by_event e x ≡ true → ⊥) where
    not_ahead : (z : Event) (e : ℕ) → T.before z (receive_of e) ≡ true → board T z ≡ board T (receive_of e) → at_or_before T z (send_of e) ≡ true
    unfolding is_race not_at_or_before message_of board_of
    not_ahead z e h b =
        ⊎_elim (λ t. t)
        (λ (f : at_or_before T z (send_of e) ≡ false).
        absurd (quiet e z (D.inside z (receive_of e) h).1 (rw (eq-eqb (board T z) (T.target e) b, h, f))))
        (which (at_or_before T z (send_of e)))

    at_or_before_trans : (x z y : Event) → at_or_before T x z ≡ true → at_or_before T z y ≡ true → at_or_before T x y ≡ true
    at_or_before_trans x z y p q =
        ⊎_elim
        (λ e. subst⁻¹ (λ (w : Event). at_or_before T w y ≡ true) e q)
        (λ b.
        ⊎_elim
        (λ i. subst (λ (w : Event). at_or_before T x w ≡ true) i p)
        (λ c. at_or_before_before T x y (D.trans x z y b c))
        (at_or_before_cases T z y q))
        (at_or_before_cases T x z p)

    at_send : (x : Event) (e : ℕ) → T.before x (receive_of e) ≡ true → at_or_before T x (send_of e) ≡ true
    at_send x e h =
        ⊎_elim
        (λ l. at_or_before_trans x l.0 (send_of e) l.1 (not_ahead l.0 e l.2 l.3))
        (λ l.
        let same : e ≡ l.0 = cc l.1 in
        rw same l.2)
        (D.last_link x (receive_of e) h)

    pub inside_cured : T.count ≡ S.count → ((x y : Event) → T.before x y ≡ true → S.before x y ≡ true)
        → (x y : Event) → T.before x y ≡ true → cured_before S x y ≡ true
    unfolding message_of
    inside_cured counts within x (send_of m) h = to_send_holds S C x m (within x (send_of m) h)
    inside_cured counts within x (receive_of m) h =
        let l = (D.inside x (receive_of m) h).1 in
        to_receive S C x m (omega arith)
        (⊎_elim
        (λ i. at_or_before_same S x (send_of m) i)
        (λ b. at_or_before_before S x (send_of m) (within x (send_of m) b))
        (at_or_before_cases T x (send_of m) (at_send x m h)))

-- The same-board orders that the cure gives up are the races of code 0.
module _ (S : Scenario) (C : Causal S) where
  raced : (x : Event) (m : ℕ) → board S x ≡ board S (receive_of m) → S.before x (receive_of m) ≡ true → (Cured S x (receive_of m) → ⊥)
      → is_race S by_event m x ≡ true
  unfolding is_race not_at_or_before board_of message_of
  raced x m b h n =
      ⊎_elim
      (λ t. absurd (n ((cured_exact S C x (receive_of m)).0 (to_receive S C x m (C.inside x (receive_of m) h).1 t))))
      (λ (f : at_or_before S x (send_of m) ≡ false). rw (eq-eqb (board S x) (S.target m) b, h, f, not_at_or_before))
      (which (at_or_before S x (send_of m)))

  not_cured : (x : Event) (m : ℕ) → is_race S by_event m x ≡ true → Cured S x (receive_of m) → ⊥
  unfolding not_at_or_before
  not_cured x m r p =
      not_both (at_or_before S x (send_of m)) (from_receive S C x m ((cured_exact S C x (receive_of m)).1 p)).1
      (not-true (at_or_before S x (send_of m)) (race_parts S by_event m x r).2)

  given_up_holds : (x y : Event) → board S x ≡ board S y → S.before x y ≡ true
      → (Cured S x y → ⊥) ↔ ((e : ℕ) × (y ≡ receive_of e) × (is_race S by_event e x ≡ true))
  given_up_holds x (send_of m) b h = (
    (λ n. absurd (n ((cured_exact S C x (send_of m)).0 (to_send_holds S C x m h)))),
    (λ (e, i, r). let z : ◌≡◌ {A = ℕ} 0 1 = cc in absurd (omega arith)),
  )
  given_up_holds x (receive_of m) b h = (
    (λ n. (m, refl, raced x m b h n)),
    (λ (e, i, r). let same : e ≡ m = cc in not_cured x m (subst (λ (k : ℕ). is_race S by_event k x ≡ true) same r)),
  )

-- What holds of the text written for any sheet that has a scenario.
pub cured_holds : (text : List ℕ) (S : Scenario) → sheet_of text ≡ ok S → length (cured_rows S) ≤ rows_most → CuredSheet S (cured_text S)
cured_holds text S e fits =
    let C = sheet_causal text S e in
    let few = sheet_count text S e in
    let low = sheet_boards text S e in
    let read = cured_sheet S C few low fits in
    let same = cured_met S C few low in
    record {
      order = cured_exact S C;
      inside = λ x y p. cured_old S C x y ((cured_exact S C x y).1 p);
      given_up = given_up_holds S C;
      sheet = scenario_of (met S C few low);
      read = read;
      causal_order = sheet_meets (cured_text S) _ read;
      messages = cured_messages S C few low;
      exact = λ x y. ((λ h. (cured_exact S C x y).0 ((same x y).0 h)), (λ p. (same x y).1 ((cured_exact S C x y).1 p)));
      free = λ code l. free_without_races (cured_text S) _ read code l (nothing_races S C _ same (race_rule_of code));
      other_order = sheet_meets;
      loosest = λ other T f messages free within x y h.
          (cured_exact S C x y).0
          (inside_cured S C T (sheet_causal other T f) (no_race_when_free other T f 0 (omega arith) free) messages.counts within x y h);
    }

-- What a call promises, from its answer and its buffers.
module _ (text scratch scratch_exit output output_exit : List ℕ) (r : CureNumbers) where
  abbrev outcome : Out (List ℕ)
  outcome = cure_of text (length scratch) (length output)

  -- for an accepted sheet and buffers long enough, the rows alone decide
  outcome_is : (S : Scenario) → sheet_of text ≡ ok S → scratch_least ≤ length scratch → sheet_output_least ≤ length output → outcome ≡ cured_of S
  unfolding cure_of and_then
  outcome_is S e a b = rw (le-ltb (length scratch) scratch_least a, le-ltb (length output) sheet_output_least b, e)

  rows_refused_holds : (S : Scenario) (o : Out (List ℕ)) → o ≡ cured_of S → r ≡ cure_numbers o
      → ((r.word ≡ refused_word) × (r.one ≡ cured_rows_refusal)) ↔ (rows_most < length (cured_rows S))
  unfolding cured_of
  rows_refused_holds S o i q = go (ltb rows_most (length (cured_rows S))) refl (q ∙ ap cure_numbers i)
    where
      go : (b : Bool) → ltb rows_most (length (cured_rows S)) ≡ b → r ≡ cure_numbers (cond b (refusal cured_rows_refusal 0) (ok (cured_text S)))
          → ((r.word ≡ refused_word) × (r.one ≡ cured_rows_refusal)) ↔ (rows_most < length (cured_rows S))
      go true t p = ((λ w. ltb-true rows_most (length (cured_rows S)) t), (λ l. (ap (λ (n : CureNumbers). n.word) p, ap (λ (n : CureNumbers). n.one) p)))
      go false f p = (
        (λ w. absurd (omega (arith, w.0, ap (λ (n : CureNumbers). n.word) p))),
        (λ l. absurd (omega (arith, ltb-false rows_most (length (cured_rows S)) f))),
      )

  -- what is written is the cure of the sheet, with at most 512 rows
  written_is : (S : Scenario) → sheet_of text ≡ ok S → (o : Out (List ℕ)) → outcome ≡ o → (cure_numbers o).word ≡ written_word
      → (o ≡ ok (cured_text S)) × (length (cured_rows S) ≤ rows_most)
  unfolding cure_of and_then cured_of
  written_is S e o i w = go (ltb (length scratch) scratch_least || ltb (length output) sheet_output_least) (sheet_of text) e i
    where
      rows : (b : Bool) → ltb rows_most (length (cured_rows S)) ≡ b → cond b (refusal cured_rows_refusal 0) (ok (cured_text S)) ≡ o
          → (o ≡ ok (cured_text S)) × (length (cured_rows S) ≤ rows_most)
      rows true t h = absurd (omega (arith, w, ap (λ (k : Out (List ℕ)). (cure_numbers k).word) h))
      rows false f h = (sym h, ltb-false rows_most (length (cured_rows S)) f)

      go : (b : Bool) (q : Out Scenario) → q ≡ ok S → cond b (refusal bench_refusal 0) (and_then q cured_of) ≡ o
          → (o ≡ ok (cured_text S)) × (length (cured_rows S) ≤ rows_most)
      go true q j h = absurd (omega (arith, w, ap (λ (k : Out (List ℕ)). (cure_numbers k).word) h))
      go false q j h =
          rows (ltb rows_most (length (cured_rows S))) refl
          (subst (λ (k : Out Scenario). and_then k cured_of ≡ o) j h)

  text_cured : r ≡ cure_numbers outcome → output_exit ≡ output_with outcome output → (S : Scenario) → sheet_of text ≡ ok S → (cure_numbers outcome).word ≡ written_word
      → CuredSheet S (take r.one output_exit)
  unfolding output_with
  text_cured answer left S e w =
      let p = written_is S e outcome refl w in
      let long : r.one ≡ length (cured_text S) = ap (λ (n : CureNumbers). n.one) answer ∙ ap (λ (k : Out (List ℕ)). (cure_numbers k).one) p.0 in
      let bytes : output_exit ≡ cured_text S ++ drop (length (cured_text S)) output = left ∙ ap (λ (k : Out (List ℕ)). output_with k output) p.0 in
      let taken : take r.one output_exit ≡ cured_text S =
      ap (λ (l : List ℕ). take r.one l) bytes ∙ take_at (cured_text S) (drop (length (cured_text S)) output) r.one (sym long) in
      subst⁻¹ (CuredSheet S) taken (cured_holds text S e p.1)

  pub cure_promised : r ≡ cure_numbers outcome → scratch_exit ≡ scratch_behind outcome scratch → output_exit ≡ output_with outcome output
      → CureChecked text scratch scratch_exit output output_exit r
  unfolding output_with
  cure_promised answer scratch_left output_left =
      record {
        answer = answer;
        scratch_left = scratch_left;
        output_left = output_left;
        rows_refused = λ S e a b. rows_refused_holds S outcome (outcome_is S e a b) answer;
        causal_order = sheet_meets text;
        cured = λ S e w. text_cured answer output_left S e (ap (λ (n : CureNumbers). n.word) (sym answer) ∙ w);
      }

-- the numbers behind the word fit 32 bits
pub cure_small : (text : List ℕ) (scratch_length output_length : ℕ)
    → ((cure_numbers (cure_of text scratch_length output_length)).one < 2 ^ 32) × ((cure_numbers (cure_of text scratch_length output_length)).two < 2 ^ 32)
unfolding cure_of and_then cured_of
cure_small text scratch_length output_length =
    bench (ltb scratch_length scratch_least || ltb output_length sheet_output_least) (sheet_of text) refl (sheet_well text)
  where
    SmallPair : Out (List ℕ) → Type 0
    SmallPair o = ((cure_numbers o).one < 2 ^ 32) × ((cure_numbers o).two < 2 ^ 32)

    rows : (S : Scenario) → sheet_of text ≡ ok S → SmallPair (cured_of S)
    rows S e = go (ltb rows_most (length (cured_rows S))) refl
      where
        go : (b : Bool) → ltb rows_most (length (cured_rows S)) ≡ b → SmallPair (cond b (refusal cured_rows_refusal 0) (ok (cured_text S)))
        go true t = (omega arith, omega arith)
        go false f =
            let short = text_short S (sheet_causal text S e) (sheet_count text S e) (sheet_boards text S e) (ltb-false rows_most (length (cured_rows S)) f) in
            (omega arith, omega arith)

    bench : (b : Bool) (o : Out Scenario) → sheet_of text ≡ o → Well (line_of rows_most) o → SmallPair (cond b (refusal bench_refusal 0) (and_then o cured_of))
    bench true o e w = (omega arith, omega arith)
    bench false (ok S) e w = rows S e
    bench false (refusal number line) e w = (omega (arith, w.known), omega (arith, w.within))
