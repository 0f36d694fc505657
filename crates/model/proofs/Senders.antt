-- The judgement of a table of permitted senders is the request's: sound exactly if each pair is in exactly one rule, else its lowest faulty
-- pair, a gap in no rule, a clash with its first two rules. Assumes nothing.
use Prim.Native.Nat.{ℕ, zero, suc, ◌+◌, ◌-◌, ◌<◌, ◌≤◌}
use native.Mathlib.Nat.{add-zero, zero-add}
use native.Mathlib.Omega.{arith}
use mathlib.Core.Path.{◌≡◌, refl, sym, ◌∙◌, ap, subst, subst⁻¹}
use mathlib.Core.Logic.{◌↔◌, ⊎_elim}
use mathlib.Core.Bool.{Bool, true, false, not, cond, ◌&&◌}
use mathlib.Core.List.{List, [], ◌∷◌}
use mathlib.Core.Option.{Option, none, some}
use borrow.Author.Tests.{eqb-true, eqb-false, eq-eqb, ltb-true, not-true, not-false}
use lib.Dec.{eqb, leb, ltb}
use lib.ListN.{length, get_or, drop, length-drop}
use lib.Seq.{get_or-drop}
use Rattle.model.specs.Limits.{text_most, rules_most, pairs}
use Rattle.model.specs.Bounded.{lowest}
use Rattle.model.specs.Refusal.{Out, ok, refusal, and_then, sender_table_refusal}
use Rattle.model.specs.Text.{Line, lines_of}
use Rattle.model.specs.Place.{line_of}
use Rattle.model.specs.Answer.{Numbers}
use Rattle.model.specs.Senders.{Rule, is_names_line, rule_of, ahead_of_rule, rules_from, rules_behind, rules_of, covers, rules_with, is_faulty, Soundness, sound, gap, clash, malformed, fault_of, soundness_of, judged_table, table_answer, sound_word, gap_word, clash_word, table_refused_word, table_numbers, no_rule, is_in, InOne, NoneLower, Gap, Clash, TableJudged, sound_by, sound_rules, sound_table, permits}
use Rattle.model.proofs.Bounded.{not_both, apart, Found, lowest_found, which}
use Rattle.model.proofs.Refusal.{not_refused}

-- nothing is found below a bound where nothing there passes
pub none_of : (n : ℕ) (p : ℕ → Bool) → ((k : ℕ) → k < n → p k ≡ false) → lowest n p ≡ none
none_of n p h = go (lowest n p) (lowest_found n p)
  where
    go : (o : Option ℕ) → Found n p o → o ≡ none
    go none f = refl
    go (some k) f = not_both (p k) f.passes (h k f.below)

-- The rules that a pair is in: none; or the first, and those among the rules behind it.
abbrev First : ℕ → ℕ → List Rule → List ℕ → Type 0
First pair i rs [] = Gap rs pair
First pair i rs (a ∷ ks) =
    (k : ℕ) × (a ≡ i + k) × (k < length rs) × is_in rs pair k × ((j : ℕ) → j < k → is_in rs pair j → ⊥) × (ks ≡ rules_with pair (suc a) (drop (suc k) rs))

first_behind : (pair i : ℕ) (r : Rule) (rs : List Rule) (ks : List ℕ) → covers r pair ≡ false → First pair (suc i) rs ks → First pair i (r ∷ rs) ks
first_behind pair i r rs [] e f = λ k l h. at k l h
  where
    at : (k : ℕ) → k < suc (length rs) → is_in (r ∷ rs) pair k → ⊥
    at zero l h = not_both (covers r pair) h e
    at (suc k) l h = f k (omega arith) h
first_behind pair i r rs (a ∷ ks) e (k, p, l, h, before, rest) = (suc k, omega arith, omega arith, h, at, rest)
  where
    at : (j : ℕ) → j < suc k → is_in (r ∷ rs) pair j → ⊥
    at zero m g = not_both (covers r pair) g e
    at (suc j) m g = before j (omega arith) g

first_with : (pair i : ℕ) (rs : List Rule) → First pair i rs (rules_with pair i rs)
unfolding rules_with
first_with pair i [] = λ k l h. omega arith
first_with pair i (r ∷ rs) = go (covers r pair) refl (first_with pair (suc i) rs)
  where
    go : (b : Bool) → covers r pair ≡ b → First pair (suc i) rs (rules_with pair (suc i) rs)
        → First pair i (r ∷ rs) (cond b (i ∷ rules_with pair (suc i) rs) (rules_with pair (suc i) rs))
    go true e f = (0, sym (add-zero i), omega arith, e, λ j l h. omega arith, refl)
    go false e f = first_behind pair i r rs (rules_with pair (suc i) rs) e f

-- what the judgement of well-formed rules says of them
abbrev Judged : List Rule → Soundness → Type 0
Judged rules sound = (q : ℕ) → q < pairs → InOne rules q
Judged rules (gap q) = NoneLower rules q × Gap rules q
Judged rules (clash q a b) = NoneLower rules q × Clash rules q a b
Judged rules (malformed number line) = ⊥

module _ (rules : List Rule) (pair : ℕ) where
  abbrev found : List ℕ
  found = rules_with pair 0 rules

  first_of : (ks : List ℕ) → found ≡ ks → First pair 0 rules ks
  first_of ks e = subst (λ (l : List ℕ). First pair 0 rules l) e (first_with pair 0 rules)

  -- the rules behind the first, as rules of the table
  behind : (k j : ℕ) → is_in (drop k rules) pair j → is_in rules pair (k + j)
  behind k j h = rw (← get_or-drop k rules j no_rule) h

  among_behind : (k j : ℕ) → k ≤ j → is_in rules pair j → is_in (drop k rules) pair (j - k)
  among_behind k j l h = let e : k + (j - k) ≡ j = omega arith in rw (get_or-drop k rules (j - k) no_rule, e) h

  gap_of : found ≡ [] → Gap rules pair
  gap_of e = first_of [] e

  -- one rule: none ahead of it, and none behind it
  one_of : (a : ℕ) → found ≡ a ∷ [] → InOne rules pair
  one_of a e = go (first_of (a ∷ []) e)
    where
      go : First pair 0 rules (a ∷ []) → InOne rules pair
      go (k, p, l, h, ahead, rest) =
          record {
            rule = k;
            there = l;
            in_it = h;
            alone = λ j m g. ⊎_elim (λ (q : j ≡ k). q)
                (⊎_elim (λ (q : j < k). absurd (ahead j q g)) (λ (q : k < j). absurd (later j q m g))) (apart j k);
          }
        where
          after : Gap (drop (suc k) rules) pair
          after = subst (λ (l' : List ℕ). First pair (suc a) (drop (suc k) rules) l') (sym rest) (first_with pair (suc a) (drop (suc k) rules))

          later : (j : ℕ) → k < j → j < length rules → is_in rules pair j → ⊥
          later j q m g = after (j - suc k) (simp length-drop (omega arith)) (among_behind (suc k) j q g)

  -- two rules: the first two
  two_of : (a b : ℕ) (ks : List ℕ) → found ≡ a ∷ b ∷ ks → Clash rules pair (line_of a) (line_of b)
  two_of a b ks e = go (first_of (a ∷ b ∷ ks) e)
    where
      second : (k : ℕ) → a ≡ 0 + k → is_in rules pair k → ((j : ℕ) → j < k → is_in rules pair j → ⊥) → First pair (suc a) (drop (suc k) rules) (b ∷ ks)
          → Clash rules pair (line_of a) (line_of b)
      second k p h ahead (n, p', l', h', ahead', rest) =
          let e' : suc k + n ≡ b = omega arith in
          record {
            first = a;
            second = b;
            lines = (refl, refl);
            in_order = (omega arith, omega (arith, length-drop (suc k) rules));
            in_both = (rw (p, zero-add k) h, rw (← e') (behind (suc k) n h'));
            first_two = λ j m g. ⊎_elim (λ (q : j ≡ k). omega arith)
                (⊎_elim (λ (q : j < k). absurd (ahead j q g)) (λ (q : k < j). absurd (ahead' (j - suc k) (omega arith) (among_behind (suc k) j q g)))) (apart j k);
          }

      go : First pair 0 rules (a ∷ b ∷ ks) → Clash rules pair (line_of a) (line_of b)
      go (k, p, l, h, ahead, rest) =
          second k p h ahead
          (subst (λ (l' : List ℕ). First pair (suc a) (drop (suc k) rules) l') (sym rest) (first_with pair (suc a) (drop (suc k) rules)))

  -- a pair in exactly one rule is neither a gap nor a clash
  not_gap : InOne rules pair → Gap rules pair → ⊥
  not_gap o g = g o.rule o.there o.in_it

  not_clash : (a b : ℕ) → InOne rules pair → Clash rules pair a b → ⊥
  not_clash a b o c =
      let p : c.first ≡ o.rule = o.alone c.first (omega (arith, c.in_order)) c.in_both.0 in
      let q : c.second ≡ o.rule = o.alone c.second c.in_order.1 c.in_both.1 in
      omega (arith, c.in_order.0)

  -- a pair is faulty exactly if it is not in exactly one rule
  faultless : is_faulty rules pair ≡ false → InOne rules pair
  unfolding is_faulty
  faultless h = go found refl (eqb-true (length found) 1 (not-false (eqb (length found) 1) h))
    where
      go : (ks : List ℕ) → found ≡ ks → length ks ≡ 1 → InOne rules pair
      go [] e l = absurd (omega arith)
      go (a ∷ []) e l = one_of a e
      go (a ∷ b ∷ ks) e l = absurd (omega arith)

  fault_judged : NoneLower rules pair → is_faulty rules pair ≡ true → Judged rules (fault_of pair found)
  unfolding is_faulty fault_of
  fault_judged n h = go found refl (eqb-false (length found) 1 (not-true (eqb (length found) 1) h))
    where
      go : (ks : List ℕ) → found ≡ ks → (length ks ≡ 1 → ⊥) → Judged rules (fault_of pair ks)
      go [] e l = (n, gap_of e)
      go (a ∷ []) e l = absurd (l refl)
      go (a ∷ b ∷ ks) e l = (n, two_of a b ks e)

judged : (rules : List Rule) → Judged rules (soundness_of rules)
unfolding soundness_of
judged rules = go (lowest pairs (is_faulty rules)) (lowest_found pairs (is_faulty rules))
  where
    go : (o : Option ℕ) → Found pairs (is_faulty rules) o
        → Judged rules (elim o [ none ↦ sound | some pair ↦ fault_of pair (rules_with pair 0 rules) ])
    go none f = λ q l. faultless rules q (f q l)
    go (some pair) f = fault_judged rules pair (f.below, λ q l. faultless rules q (f.first q l)) f.passes

-- What reading hands on: at most 64 rules, or 18 and a line, at most that of rule 65.
abbrev Read : ℕ → Out (List Rule) → Type 0
Read i (ok rules) = i + length rules ≤ rules_most
Read i (refusal number line) = (number ≡ sender_table_refusal) × (line ≤ line_of rules_most)

read_ahead : (i : ℕ) (r : Rule) (o : Out (List Rule)) → Read (suc i) o → Read i (ahead_of_rule r o)
unfolding ahead_of_rule
read_ahead i r (ok rs) h = omega arith
read_ahead i r (refusal number line) h = h

read_cond : (i : ℕ) (t : Bool) (o p : Out (List Rule)) → Read i o → Read i p → Read i (cond t o p)
read_cond i true o p h k = h
read_cond i false o p h k = k

read_from : (i : ℕ) (ls : List Line) → i ≤ rules_most → Read i (rules_from i ls)
unfolding rules_from
read_from i [] h = omega arith
read_from i (l ∷ ls) h = room (ltb i rules_most) refl (λ u. read_from (suc i) ls u)
  where
    form : i < rules_most → (o : Option Rule) → Read (suc i) (rules_from (suc i) ls)
        → Read i (elim o [ none ↦ refusal sender_table_refusal (line_of i) | some r ↦ ahead_of_rule r (rules_from (suc i) ls) ])
    form u none w = (refl, omega arith)
    form u (some r) w = read_ahead i r (rules_from (suc i) ls) w

    room : (b : Bool) → ltb i rules_most ≡ b → (suc i ≤ rules_most → Read (suc i) (rules_from (suc i) ls))
        → Read i (elim (cond b (rule_of l) none) [ none ↦ refusal sender_table_refusal (line_of i) | some r ↦ ahead_of_rule r (rules_from (suc i) ls) ])
    room true e later = form (ltb-true i rules_most e) (rule_of l) (later (ltb-true i rules_most e))
    room false e later = (refl, omega arith)

read_table : (table : List ℕ) → Read 0 (rules_of table)
unfolding rules_of rules_behind
read_table table =
    read_cond 0 (ltb 0 (length table) && leb (length table) text_most) (rules_behind (lines_of table)) (refusal sender_table_refusal 0) (go (lines_of table))
    (refl, omega arith)
  where
    go : (ls : List Line) → Read 0 (rules_behind ls)
    go [] = (refl, omega arith)
    go (h ∷ ls) = read_cond 0 (is_names_line h) (rules_from 0 ls) (refusal sender_table_refusal 1) (read_from 0 ls (omega arith)) (refl, omega arith)

-- What the numbers of an answer say, by the rules read, or the refusal, and their judgement.
abbrev Answered : Out (List Rule) → Soundness → Type 0
Answered (ok rules) s = Judged rules s
Answered (refusal number line) s = (number ≡ sender_table_refusal) × (s ≡ malformed number line)

abbrev AllOnce : List Rule → Type 0
AllOnce rules = (pair : ℕ) → pair < pairs → InOne rules pair

same_rules : (C : List Rule → Type 0) (rules ks : List Rule) → ok rules ≡ ok ks → C rules → C ks
same_rules C rules ks e h = let d : rules ≡ ks = cc in subst C d h

sound_when_holds : (o : Out (List Rule)) (s : Soundness) → Answered o s → ((table_numbers s).word ≡ sound_word) ↔ ((rules : List Rule) × (o ≡ ok rules) × AllOnce rules)
sound_when_holds (ok rules) sound h = (λ w. (rules, refl, h), λ w. refl)
sound_when_holds (ok rules) (gap q) h =
    (λ w. absurd (omega arith), λ (ks, e, all). absurd (not_gap ks q (all q h.0.0) (same_rules (λ rs. Gap rs q) rules ks e h.1)))
sound_when_holds (ok rules) (clash q a b) h = (λ w. absurd (omega arith), λ (ks, e, all). absurd (not_clash ks q a b (all q h.0.0) (same_rules (λ rs. Clash rs q a b) rules ks e h.1)))
sound_when_holds (ok rules) (malformed number line) h = absurd h
sound_when_holds (refusal number line) s (p, q) = rw q (λ w. absurd (omega arith), λ (ks, e, all). not_refused e)

gap_named_holds : (o : Out (List Rule)) (s : Soundness) → Answered o s → (rules : List Rule) → o ≡ ok rules → (table_numbers s).word ≡ gap_word
    → NoneLower rules (table_numbers s).one × Gap rules (table_numbers s).one
gap_named_holds (ok rules) sound h ks e w = absurd (omega arith)
gap_named_holds (ok rules) (gap q) h ks e w = same_rules (λ rs. NoneLower rs q × Gap rs q) rules ks e h
gap_named_holds (ok rules) (clash q a b) h ks e w = absurd (omega arith)
gap_named_holds (ok rules) (malformed number line) h ks e w = absurd h
gap_named_holds (refusal number line) s h ks e w = not_refused e

clash_named_holds : (o : Out (List Rule)) (s : Soundness) → Answered o s → (rules : List Rule) → o ≡ ok rules → (table_numbers s).word ≡ clash_word
    → NoneLower rules (table_numbers s).one × Clash rules (table_numbers s).one (table_numbers s).two (table_numbers s).three
clash_named_holds (ok rules) sound h ks e w = absurd (omega arith)
clash_named_holds (ok rules) (gap q) h ks e w = absurd (omega arith)
clash_named_holds (ok rules) (clash q a b) h ks e w = same_rules (λ rs. NoneLower rs q × Clash rs q a b) rules ks e h
clash_named_holds (ok rules) (malformed number line) h ks e w = absurd h
clash_named_holds (refusal number line) s h ks e w = not_refused e

refused_when_holds : (o : Out (List Rule)) (s : Soundness) → Answered o s
    → ((table_numbers s).word ≡ table_refused_word) ↔ (o ≡ refusal sender_table_refusal (table_numbers s).two)
refused_when_holds (ok rules) sound h = (λ w. absurd (omega arith), λ e. absurd (not_refused (sym e)))
refused_when_holds (ok rules) (gap q) h = (λ w. absurd (omega arith), λ e. absurd (not_refused (sym e)))
refused_when_holds (ok rules) (clash q a b) h = (λ w. absurd (omega arith), λ e. absurd (not_refused (sym e)))
refused_when_holds (ok rules) (malformed number line) h = absurd h
refused_when_holds (refusal number line) s (p, q) = rw (q, p) (λ w. refl, λ e. refl)

module _ (table : List ℕ) where
  answered : Answered (rules_of table) (table_answer table)
  unfolding table_answer judged_table
  answered = go (rules_of table) (read_table table)
    where
      go : (o : Out (List Rule)) → Read 0 o → Answered o (judged_table o)
      go (ok rules) h = judged rules
      go (refusal number line) h = (h.0, refl)

  -- the numbers behind the word: a pair or 18, and lines of the table, at most that of rule 65
  pub table_within : ((table_numbers (table_answer table)).one < pairs) × ((table_numbers (table_answer table)).two ≤ line_of rules_most)
      × ((table_numbers (table_answer table)).three ≤ line_of rules_most)
  table_within = go (rules_of table) (table_answer table) (read_table table) answered
    where
      go : (o : Out (List Rule)) (s : Soundness) → Read 0 o → Answered o s
          → ((table_numbers s).one < pairs) × ((table_numbers s).two ≤ line_of rules_most) × ((table_numbers s).three ≤ line_of rules_most)
      go (ok rules) sound h a = (omega arith, omega arith, omega arith)
      go (ok rules) (gap q) h a = (a.0.0, omega arith, omega arith)
      go (ok rules) (clash q i j) h a = (a.0.0, omega (arith, a.1.lines, a.1.in_order), omega (arith, a.1.lines, a.1.in_order))
      go (ok rules) (malformed number line) h a = absurd a
      go (refusal number line) s h a = rw a.1 (omega (arith, a.0), h.1, omega arith)

  pub table_judged : (r : Numbers) → r ≡ table_numbers (table_answer table) → TableJudged table r
  table_judged r e =
      subst (λ (n : Numbers). TableJudged table n) (sym e)
      (record {
        answer = refl;
        sound_when = sound_when_holds (rules_of table) (table_answer table) answered;
        gap_named = gap_named_holds (rules_of table) (table_answer table) answered;
        clash_named = clash_named_holds (rules_of table) (table_answer table) answered;
        refused_when = refused_when_holds (rules_of table) (table_answer table) answered;
      })

-- The check with a table and the judgement of a table agree: its rules, or 18 without a line, as the judgement is sound or not.
abbrev pub Agrees : List Rule → Soundness → Type 0
Agrees rules sound = sound_rules rules ≡ ok rules
Agrees rules (gap q) = sound_rules rules ≡ refusal sender_table_refusal 0
Agrees rules (clash q a b) = sound_rules rules ≡ refusal sender_table_refusal 0
Agrees rules (malformed number line) = ⊥

pub agrees : (rules : List Rule) → Agrees rules (soundness_of rules)
unfolding sound_rules sound_by
agrees rules = go (soundness_of rules) refl (judged rules)
  where
    go : (s : Soundness) → soundness_of rules ≡ s → Judged rules s → Agrees rules s
    go sound e h = rw e
    go (gap q) e h = rw e
    go (clash q a b) e h = rw e
    go (malformed number line) e h = absurd h

-- A table is sound exactly if each pair is in exactly one of its rules.
sound_rules_holds : (rules ks : List Rule) → (sound_rules rules ≡ ok ks) ↔ ((rules ≡ ks) × ((pair : ℕ) → pair < pairs → InOne ks pair))
unfolding sound_rules sound_by
sound_rules_holds rules ks = go (soundness_of rules) refl (judged rules)
  where
    gap_unsound : {q : ℕ} → Gap rules q → InOne rules q → ⊥
    gap_unsound g o = g o.rule o.there o.in_it

    clash_unsound : {q a b : ℕ} → Clash rules q a b → InOne rules q → ⊥
    clash_unsound c o =
        let one : c.first ≡ o.rule = o.alone c.first (omega (arith, c.in_order)) c.in_both.0 in
        let two : c.second ≡ o.rule = o.alone c.second c.in_order.1 c.in_both.1 in
        omega (arith, c.in_order)

    go : (s : Soundness) → soundness_of rules ≡ s → Judged rules s
        → (sound_by s rules ≡ ok ks) ↔ ((rules ≡ ks) × ((pair : ℕ) → pair < pairs → InOne ks pair))
    go sound e h = ((λ i. let same : rules ≡ ks = cc in (same, subst (λ rs. (pair : ℕ) → pair < pairs → InOne rs pair) same h)), (λ p. ap ok p.0))
    go (gap q) e h = ((λ i. not_refused i), (λ p. absurd (gap_unsound h.1 (subst⁻¹ (λ rs. InOne rs q) p.0 (p.1 q h.0.0)))))
    go (clash q a b) e h = ((λ i. not_refused i), (λ p. absurd (clash_unsound h.1 (subst⁻¹ (λ rs. InOne rs q) p.0 (p.1 q h.0.0)))))
    go (malformed number line) e h = absurd h

pub sound_table_holds : (table : List ℕ) (ks : List Rule) → (sound_table table ≡ ok ks) ↔ ((rules_of table ≡ ok ks) × ((pair : ℕ) → pair < pairs → InOne ks pair))
unfolding sound_table and_then
sound_table_holds table ks = go (rules_of table)
  where
    go : (o : Out (List Rule)) → (and_then o sound_rules ≡ ok ks) ↔ ((o ≡ ok ks) × ((pair : ℕ) → pair < pairs → InOne ks pair))
    go (ok rules) = ((λ i. let p = (sound_rules_holds rules ks).0 i in (ap ok p.0, p.1)), (λ p. (sound_rules_holds rules ks).1 (cc p.0, p.1)))
    go (refusal number line) = ((λ i. not_refused i), (λ p. not_refused p.0))

-- In a sound table a pair is permitted as the one rule says that it is in.
permits_first : (rs : List Rule) (pair k : ℕ) → k < length rs → is_in rs pair k → ((j : ℕ) → j < k → is_in rs pair j → ⊥)
    → permits rs pair ≡ eqb (get_or rs k no_rule).verdict 1
unfolding permits
permits_first [] pair k l h before = absurd (omega arith)
permits_first (r ∷ rs) pair zero l h before = rw h
permits_first (r ∷ rs) pair (suc k) l h before =
    let e : covers r pair ≡ false = ⊎_elim (λ (t : covers r pair ≡ true). absurd (before 0 (omega arith) t)) (λ f. f) (which (covers r pair)) in
    rw e (permits_first rs pair k (omega arith) h (λ j m g. before (suc j) (omega arith) g))

pub permits_rule : (rules : List Rule) (pair : ℕ) (o : InOne rules pair) → permits rules pair ≡ eqb (get_or rules o.rule no_rule).verdict 1
permits_rule rules pair o =
    permits_first rules pair o.rule o.there o.in_it (λ j l g. let e : j ≡ o.rule = o.alone j (omega (arith, o.there)) g in omega arith)

-- and it is not forbidden exactly if that rule says 1
pub forbidden_by : (rules : List Rule) (pair : ℕ) (o : InOne rules pair)
    → (not (permits rules pair) ≡ false) ↔ ((get_or rules o.rule no_rule).verdict ≡ 1)
forbidden_by rules pair o =
    let e = permits_rule rules pair o in
    let v = (get_or rules o.rule no_rule).verdict in (
      (λ f. eqb-true v 1 (sym e ∙ not-false (permits rules pair) f)),
      (λ i. ap not (e ∙ eq-eqb v 1 i)),
    )
