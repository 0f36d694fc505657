-- What a sheet holds: the races listed are exactly the races, in order, and the first is the one that the check names. Assumes nothing.
use Prim.Native.Nat.{ℕ, zero, suc, ◌+◌, ◌*◌, ◌<◌}
use native.Mathlib.Nat.{add-zero, not-suc-le-zero}
use native.Mathlib.Omega.{arith}
use mathlib.Core.Path.{◌≡◌, refl, sym, ◌∙◌, ap, subst, subst⁻¹}
use mathlib.Core.Logic.{◌↔◌, ◌⊎◌, inl, inr, ⊎_elim}
use mathlib.Core.Bool.{Bool, true, false, cond, ◌||◌}
use mathlib.Core.List.{List, [], ◌∷◌, ◌++◌}
use mathlib.Core.Option.{Option, none, some}
use lib.Dec.{ltb}
use lib.ListN.{length, get_or, drop, length-append, get_or-append}
use lib.Seq.{get_or-append-add}
use Rattle.model.specs.Limits.{scratch_least, message_numbers_least}
use Rattle.model.specs.Refusal.{Out, ok}
use Rattle.model.specs.Order.{event, Scenario}
use Rattle.model.specs.Race.{RaceRule, never, race_rule_of, not_at_or_before, is_race, lowest_race}
use Rattle.model.specs.Answer.{sheet_of, scratch_behind}
use Rattle.model.specs.Monitor.{watchable}
use Rattle.model.specs.Senders.{lines_met, MessageRow}
use Rattle.model.specs.Holdings.{HoldingNumbers, listable, messages_told, messages_answer, messages_left, MessagesListed, races_answer, races_left, RacesTold, races_of, races_below, all_races, Listed, ComesFirst, InOrder, ExactlyRaces}
use Rattle.model.proofs.Bounded.{not_both, apart}
use Rattle.model.proofs.Refusal.{cond_refused}
use Rattle.model.proofs.Causal.{Causal}
use Rattle.model.proofs.Accepted.{sheet_causal, sheet_meets}
use Rattle.model.proofs.Permitted.{line_met}
use Rattle.model.proofs.Monitor.{watch_parts}
use Rattle.model.proofs.PointThree.{race_parts, race_none, race_lowest}

-- what is listed in one of two lists, and two lists of which each race of the first comes ahead of each of the second
listed_append : (e x : ℕ) (as' bs : List (ℕ × ℕ)) → Listed e x (as' ++ bs) ↔ (Listed e x as' ⊎ Listed e x bs)
listed_append e x [] bs = ((λ l. inr l), ⊎_elim (λ l. absurd l) (λ l. l))
listed_append e x (a ∷ as') bs =
    let rest = listed_append e x as' bs in (
      ⊎_elim (λ h. inl (inl h)) (λ l. ⊎_elim (λ m. inl (inr m)) (λ m. inr m) (rest.0 l)),
      ⊎_elim (⊎_elim (λ h. inl h) (λ m. inr (rest.1 (inl m)))) (λ m. inr (rest.1 (inr m))),
    )

in_order_append : (as' bs : List (ℕ × ℕ)) → InOrder as' → InOrder bs
    → ((e x f y : ℕ) → Listed e x as' → Listed f y bs → ComesFirst (e, x) (f, y)) → InOrder (as' ++ bs)
in_order_append [] bs h g across = g
in_order_append (a ∷ as') bs (h, t) g across = (
  (λ e x l. ⊎_elim (h e x) (λ m. across a.0 a.1 e x (inl (refl, refl)) m) ((listed_append e x as' bs).0 l)),
  in_order_append as' bs t g (λ e x f y l m. across e x f y (inr l) m),
)

module _ (S : Scenario) (rule : RaceRule) where
  one_listed : (e x f y : ℕ) (b : Bool) → is_race S rule e (event x) ≡ b
      → Listed f y (cond b ((e, x) ∷ []) []) ↔ ((e ≡ f) × (x ≡ y) × (is_race S rule e (event x) ≡ true))
  one_listed e x f y true t = (⊎_elim (λ (p, q). (p, q, t)) (λ l. absurd l), λ (p, q, h). inl (p, q))
  one_listed e x f y false t = ((λ l. absurd l), λ (p, q, h). not_both (is_race S rule e (event x)) h t)

  of_listed : (e n f y : ℕ) → Listed f y (races_of S rule e n) ↔ ((e ≡ f) × (y < n) × (is_race S rule e (event y) ≡ true))
  unfolding races_of
  of_listed e zero f y = ((λ l. absurd l), λ (p, l, h). absurd (not-suc-le-zero l))
  of_listed e (suc x) f y =
      let rest = of_listed e x f y in
      let one = one_listed e x f y (is_race S rule e (event x)) refl in
      let both = listed_append f y (races_of S rule e x) (cond (is_race S rule e (event x)) ((e, x) ∷ []) []) in (
        (λ l.
            ⊎_elim (λ m. let p = rest.0 m in (p.0, omega (arith, p.1), p.2))
            (λ m. let p = one.0 m in (p.0, omega (arith, p.1), subst (λ (k : ℕ). is_race S rule e (event k) ≡ true) p.1 p.2)) (both.0 l)),
        (λ (p, l, h).
            ⊎_elim (λ (i : y ≡ x). both.1 (inr (one.1 (p, sym i, subst (λ (k : ℕ). is_race S rule e (event k) ≡ true) i h))))
            (⊎_elim (λ (i : y < x). both.1 (inl (rest.1 (p, i, h)))) (λ (i : x < y). absurd (omega arith))) (apart y x)),
      )

  below_listed : (n f y : ℕ) → Listed f y (races_below S rule n) ↔ ((f < n) × (y < 2 * S.count) × (is_race S rule f (event y) ≡ true))
  unfolding races_below
  below_listed zero f y = ((λ l. absurd l), λ (l, m, h). absurd (not-suc-le-zero l))
  below_listed (suc e) f y =
      let rest = below_listed e f y in
      let last = of_listed e (2 * S.count) f y in
      let both = listed_append f y (races_below S rule e) (races_of S rule e (2 * S.count)) in (
        (λ l.
            ⊎_elim (λ m. let p = rest.0 m in (omega (arith, p.0), p.1, p.2))
            (λ m. let p = last.0 m in (omega (arith, p.0), p.1, subst (λ (k : ℕ). is_race S rule k (event y) ≡ true) p.0 p.2)) (both.0 l)),
        (λ (l, m, h).
            ⊎_elim (λ (i : f ≡ e). both.1 (inr (last.1 (sym i, m, subst (λ (k : ℕ). is_race S rule k (event y) ≡ true) i h))))
            (⊎_elim (λ (i : f < e). both.1 (inl (rest.1 (i, m, h)))) (λ (i : e < f). absurd (omega arith))) (apart f e)),
      )

  one_in_order : (e x : ℕ) (b : Bool) → InOrder (cond b ((e, x) ∷ []) [])
  one_in_order e x true = ((λ f y l. absurd l), tt)
  one_in_order e x false = tt

  of_in_order : (e n : ℕ) → InOrder (races_of S rule e n)
  unfolding races_of
  of_in_order e zero = tt
  of_in_order e (suc x) =
      in_order_append (races_of S rule e x) (cond (is_race S rule e (event x)) ((e, x) ∷ []) []) (of_in_order e x) (one_in_order e x (is_race S rule e (event x)))
      (λ f y g z l m.
      let p = (of_listed e x f y).0 l in
      let q = (one_listed e x g z (is_race S rule e (event x)) refl).0 m in
      inr (sym p.0 ∙ q.0, omega (arith, p.1, q.1)))

  below_in_order : (n : ℕ) → InOrder (races_below S rule n)
  unfolding races_below
  below_in_order zero = tt
  below_in_order (suc e) =
      in_order_append (races_below S rule e) (races_of S rule e (2 * S.count)) (below_in_order e) (of_in_order e (2 * S.count))
      (λ f y g z l m.
      let p = (below_listed e f y).0 l in
      let q = (of_listed e (2 * S.count) g z).0 m in
      inl (omega (arith, p.0, q.0)))

-- the first of a list that is not empty is listed, and is the one named
module _ (S : Scenario) (C : Causal S) (code : ℕ) where
  listed_race : (e x : ℕ) → Listed e x (all_races S code) → (e < S.count) × (x < 2 * S.count) × (is_race S (race_rule_of code) e (event x) ≡ true)
  listed_race e x = (below_listed S (race_rule_of code) S.count e x).0

  named_listed : (e x : ℕ) → lowest_race S (race_rule_of code) ≡ some (e, x) → Listed e x (all_races S code)
  named_listed e x i =
      let l = race_lowest S code e x i in
      (below_listed S (race_rule_of code) S.count e x).1 (l.in_scenario.0, l.in_scenario.1, l.race)

  -- no race comes ahead of the one named
  none_ahead : (e x f y : ℕ) → lowest_race S (race_rule_of code) ≡ some (e, x) → Listed f y (all_races S code) → ComesFirst (f, y) (e, x) → ⊥
  none_ahead e x f y i l c =
      let low = race_lowest S code e x i in
      let r = listed_race f y l in
      ⊎_elim
      (λ (h : f < e). not_both (is_race S (race_rule_of code) f (event y)) r.2 (low.no_lower_message f y h r.1))
      (λ (p, h). not_both (is_race S (race_rule_of code) e (event y)) (subst (λ (k : ℕ). is_race S (race_rule_of code) k (event y) ≡ true) p r.2) (low.no_lower_event y h)) c

  first_named : (races : List (ℕ × ℕ)) → all_races S code ≡ races → InOrder races → 0 < length races
      → lowest_race S (race_rule_of code) ≡ some (get_or races 0 (0, 0))
  first_named [] e o l = absurd (not-suc-le-zero l)
  first_named (race ∷ races) e o l = go (lowest_race S (race_rule_of code)) refl
    where
      head : Listed race.0 race.1 (all_races S code)
      head = subst⁻¹ (Listed race.0 race.1) e (inl (refl, refl))

      go : (o : Option (ℕ × ℕ)) → lowest_race S (race_rule_of code) ≡ o → o ≡ some race
      go none i = let r = listed_race race.0 race.1 head in absurd (race_none S C (race_rule_of code) i race.0 (event race.1) r.0 r.2)
      go (some (f, y)) i =
          ⊎_elim (λ (p, q). let same : race ≡ (f, y) = λ j. (p j, q j) in ap some (sym same))
          (λ m. absurd (none_ahead f y race.0 race.1 i head (o.0 f y m)))
          (subst (Listed f y) e (named_listed f y i))

  no_race_named : (races : List (ℕ × ℕ)) → all_races S code ≡ races → (races ≡ []) ↔ (lowest_race S (race_rule_of code) ≡ none)
  no_race_named races e = ((λ z. empty z), (λ n. gone races e n))
    where
      empty : races ≡ [] → lowest_race S (race_rule_of code) ≡ none
      empty z = go (lowest_race S (race_rule_of code)) refl
        where
          go : (o : Option (ℕ × ℕ)) → lowest_race S (race_rule_of code) ≡ o → o ≡ none
          go none i = refl
          go (some (f, y)) i = absurd (subst (Listed f y) (e ∙ z) (named_listed f y i))

      gone : (races : List (ℕ × ℕ)) → all_races S code ≡ races → lowest_race S (race_rule_of code) ≡ none → races ≡ []
      gone [] e n = refl
      gone (race ∷ races) e n =
          let r = listed_race race.0 race.1 (subst⁻¹ (Listed race.0 race.1) e (inl (refl, refl))) in
          absurd (race_none S C (race_rule_of code) n race.0 (event race.1) r.0 r.2)

  lazy_none : (races : List (ℕ × ℕ)) → all_races S code ≡ races → (code ≡ 1) ⊎ (code ≡ 3) → races ≡ []
  unfolding not_at_or_before
  lazy_none [] e c = refl
  lazy_none (race ∷ races) e c =
      let r = listed_race race.0 race.1 (subst⁻¹ (Listed race.0 race.1) e (inl (refl, refl))) in
      let never_races : race_rule_of code ≡ never = ⊎_elim (λ i. ap race_rule_of i) (λ i. ap race_rule_of i) c in
      not_both false (race_parts S never race.0 (event race.1) (subst (λ rule. is_race S rule race.0 (event race.1) ≡ true) never_races r.2)).2 refl

  pub exactly_races : ExactlyRaces S code (all_races S code)
  exactly_races =
      record {
        exactly = λ e x. below_listed S (race_rule_of code) S.count e x;
        in_order = below_in_order S (race_rule_of code) S.count;
        no_race = no_race_named (all_races S code) refl;
        first = first_named (all_races S code) refl (below_in_order S (race_rule_of code) S.count);
        lazy = lazy_none (all_races S code) refl;
      }

-- ---- messages

module _ (lines : List ℕ) (S : Scenario) where
  pub told_length : (n : ℕ) → length (messages_told n lines S) ≡ 3 * n
  unfolding messages_told
  told_length zero = refl
  told_length (suc n) = let e = told_length n in omega (arith, length-append (messages_told n lines S) (get_or lines n 0 ∷ S.source n ∷ S.target n ∷ []))

  -- the three numbers of message m
  told_at : (n m j : ℕ) → m < n → j < 3 → get_or (messages_told n lines S) (3 * m + j) 0 ≡ get_or (get_or lines m 0 ∷ S.source m ∷ S.target m ∷ []) j 0
  unfolding messages_told
  told_at zero m j l h = absurd (not-suc-le-zero l)
  told_at (suc n) m j l h =
      let long = told_length n in
      ⊎_elim
      (λ (e : m ≡ n).
      let at : 3 * m + j ≡ length (messages_told n lines S) + j = omega arith in
      ap (λ (k : ℕ). get_or (messages_told n lines S ++ (get_or lines n 0 ∷ S.source n ∷ S.target n ∷ [])) k 0) at
      ∙ get_or-append-add (messages_told n lines S) (get_or lines n 0 ∷ S.source n ∷ S.target n ∷ []) j 0
      ∙ ap (λ (k : ℕ). get_or (get_or lines k 0 ∷ S.source k ∷ S.target k ∷ []) j 0) (sym e))
      (⊎_elim
      (λ (k : m < n). get_or-append (messages_told n lines S) (get_or lines n 0 ∷ S.source n ∷ S.target n ∷ []) 0 (3 * m + j) (omega arith) ∙ told_at n m j k h)
      (λ (k : n < m). absurd (omega arith)))
      (apart m n)

  -- and so in the output
  left_at : (output : List ℕ) (m j : ℕ) → m < S.count → j < 3
      → get_or (messages_left (ok S) lines output) (3 * m + j) 0 ≡ get_or (get_or lines m 0 ∷ S.source m ∷ S.target m ∷ []) j 0
  unfolding messages_left
  left_at output m j l h =
      let long = told_length S.count in
      get_or-append (messages_told S.count lines S) (drop (3 * S.count) output) 0 (3 * m + j) (omega arith) ∙ told_at S.count m j l h

-- where no refusal applies, the sheet has its scenario
listable_sheet : (text : List ℕ) (scratch_length output_length : ℕ) (S : Scenario) → listable text scratch_length output_length ≡ ok S → sheet_of text ≡ ok S
unfolding listable
listable_sheet text scratch_length output_length S e = (cond_refused (ltb scratch_length scratch_least || ltb output_length message_numbers_least) _ _ _ S e).1

-- What is answered and left in the buffers, as the model says: then the whole promise holds.
pub messages_listed : (text scratch scratch_exit output output_exit : List ℕ) (r : HoldingNumbers)
    → r ≡ messages_answer (listable text (length scratch) (length output))
    → scratch_exit ≡ scratch_behind (listable text (length scratch) (length output)) scratch
    → output_exit ≡ messages_left (listable text (length scratch) (length output)) (lines_met text) output
    → MessagesListed text scratch scratch_exit output output_exit r
messages_listed text scratch scratch_exit output output_exit r a s o =
    record {
      answer = a;
      scratch_left = s;
      output_left = o;
      causal_order = λ S e. sheet_meets text S (sheet S e);
      each_message = λ S e m l.
          let at : (j : ℕ) → j < 3 → get_or output_exit (3 * m + j) 0 ≡ get_or (get_or (lines_met text) m 0 ∷ S.source m ∷ S.target m ∷ []) j 0
          = λ j h. ap (λ (out : List ℕ). get_or out (3 * m + j) 0) (o ∙ ap (λ (q : Out Scenario). messages_left q (lines_met text) output) e) ∙ left_at (lines_met text) S output m j l h in
          let line : get_or output_exit (3 * m) 0 ≡ get_or (lines_met text) m 0 = ap (λ (k : ℕ). get_or output_exit k 0) (sym (add-zero (3 * m))) ∙ at 0 (omega arith) in (
            subst⁻¹ (λ (k : ℕ). MessageRow text m k (S.source m) (S.target m)) line (line_met text S (sheet S e) m l),
            at 1 (omega arith),
            at 2 (omega arith),
          );
    }
  where
    sheet : (S : Scenario) → listable text (length scratch) (length output) ≡ ok S → sheet_of text ≡ ok S
    sheet S e = listable_sheet text (length scratch) (length output) S e

pub races_told : (text : List ℕ) (code : ℕ) (scratch scratch_exit output output_exit : List ℕ) (r : HoldingNumbers)
    → r ≡ races_answer (watchable text code (length scratch)) code (length output)
    → scratch_exit ≡ scratch_behind (watchable text code (length scratch)) scratch
    → output_exit ≡ races_left (watchable text code (length scratch)) code output
    → RacesTold text code scratch scratch_exit output output_exit r
races_told text code scratch scratch_exit output output_exit r a s o =
    record {
      answer = a;
      scratch_left = s;
      output_left = o;
      causal_order = λ S e. sheet_meets text S (watch_parts text code (length scratch) S e).2;
      races = λ S e. exactly_races S (sheet_causal text S (watch_parts text code (length scratch) S e).2) code;
    }
