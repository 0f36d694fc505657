-- Two taps on one machine: both fit exactly if nothing has to precede itself, and then the course built obeys all three. Assumes nothing.
use Prim.Native.Nat.{ℕ, ◌*◌, ◌^◌, ◌<◌, ◌≤◌}
use native.Mathlib.Omega.{arith}
use mathlib.Core.Path.{◌≡◌, refl, ◌∙◌, ap, subst, subst⁻¹}
use mathlib.Core.Logic.{◌⊎◌, inl, inr, ⊎_elim}
use mathlib.Core.Bool.{Bool, true, false, cond, ◌||◌}
use mathlib.Core.List.{List, [], ◌++◌}
use mathlib.Core.Option.{Option, none, some}
use lib.Dec.{ltb}
use lib.ListN.{length, get_or, take, drop, get_or-append}
use lib.Seq.{take-append_seam, take-append-le}
use borrow.Author.Tests.{ltb-false}
use Rattle.model.specs.Limits.{rows_most, messages_most, scratch_least, tap_numbers_least}
use Rattle.model.specs.Bounded.{lowest, among, each_once}
use Rattle.model.specs.Refusal.{Out, ok, refusal, and_then, bench_refusal, tap_refusal}
use Rattle.model.specs.Place.{line_of}
use Rattle.model.specs.Order.{Event, number, event, message_of, Scenario}
use Rattle.model.specs.Answer.{sheet_of}
use Rattle.model.specs.Taps.{ahead, with_lists, taps_accepted_of, Precedes, by_sheet, by_first, by_second, link, is_sooner, precedes, is_next, course_of, Tapped, fit, clash, tapped_on, tapped_for, tapped_of, output_after, tap_numbers_of, Obeys, NothingBefore, LowestNext, LowestCircle, Fitted}
use Rattle.model.proofs.Bounded.{or_cases, or_left, or_right, not_both, IsLowest, Found, lowest_found, or_neither}
use Rattle.model.proofs.Events.{event_number, number_event, below_number}
use Rattle.model.proofs.Refusal.{and_then_ok, cond_ok, cond_refused}
use Rattle.model.proofs.Causal.{Causal}
use Rattle.model.proofs.Accepted.{sheet_causal, sheet_count}
use Rattle.model.proofs.Lines.{Well, sheet_well}
use Rattle.model.proofs.Closure.{Over, over, linked_below, closure_holds, closure_transitive, closure_least}
use Rattle.model.proofs.Ahead.{ahead_empty, ahead_inside, ahead_transitive, ahead_irreflexive}
use Rattle.model.proofs.Course.{next_use, next_on, course_holds, course_all, course_take, course_place}

-- what acceptance says: the buffers are long enough, the sheet has its scenario, and each list has events of it, each once
pub record TapsAccepted (text : List ℕ) (scratch_length : ℕ) (first second : List ℕ) (output_length : ℕ) (S : Scenario) : Type 0 where
  pub scratch_enough : scratch_least ≤ scratch_length
  pub output_enough : tap_numbers_least ≤ output_length
  pub sheet : sheet_of text ≡ ok S
  pub first_once : each_once (2 * S.count) first ≡ true
  pub second_once : each_once (2 * S.count) second ≡ true

pub taps_accepted_parts : (text : List ℕ) (scratch_length : ℕ) (first second : List ℕ) (output_length : ℕ) (S : Scenario)
    → taps_accepted_of text scratch_length first second output_length ≡ ok S
    → TapsAccepted text scratch_length first second output_length S
unfolding taps_accepted_of with_lists
taps_accepted_parts text scratch_length first second output_length S e =
    let a = cond_refused (ltb scratch_length scratch_least || ltb output_length tap_numbers_least) _ _ _ S e in
    let lengths = or_neither (ltb scratch_length scratch_least) (ltb output_length tap_numbers_least) a.0 in
    let b = and_then_ok (sheet_of text) (with_lists first second) S a.1 in
    let T = b.0 in
    let c = cond_ok (each_once (2 * T.count) first) _ _ _ S b.2 in
    let d = cond_ok (each_once (2 * T.count) second) _ _ _ S c.1 in
    let same : T ≡ S = cc d.1 in
    record {
      scratch_enough = ltb-false scratch_length scratch_least lengths.0;
      output_enough = ltb-false output_length tap_numbers_least lengths.1;
      sheet = b.1 ∙ ap ok same;
      first_once = subst (λ (U : Scenario). each_once (2 * U.count) first ≡ true) same c.0;
      second_once = subst (λ (U : Scenario). each_once (2 * U.count) second ≡ true) same d.0;
    }

-- the numbers of an answer fit 32 bits
abbrev pub Small : Tapped → Type 0
Small a = ((tap_numbers_of a).one < 2 ^ 32) × ((tap_numbers_of a).two < 2 ^ 32)

-- The three sources of "has to precede", one by one.
module _ (S : Scenario) (first second : List ℕ) where
  pub sooner_cases : (x y : ℕ) → is_sooner S first second x y ≡ true → (S.before (event x) (event y) ≡ true) ⊎ ((ahead first x y ≡ true) ⊎ (ahead second x y ≡ true))
  unfolding is_sooner
  sooner_cases x y h =
      ⊎_elim
      (λ p. ⊎_elim inl (λ f. inr (inl f)) (or_cases (S.before (event x) (event y)) (ahead first x y) p))
      (λ s. inr (inr s))
      (or_cases (S.before (event x) (event y) || ahead first x y) (ahead second x y) h)

  pub by_sheet_holds : (x y : ℕ) → S.before (event x) (event y) ≡ true → is_sooner S first second x y ≡ true
  unfolding is_sooner
  by_sheet_holds x y h = or_left _ (ahead second x y) (or_left (S.before (event x) (event y)) (ahead first x y) h)

  pub by_first_holds : (x y : ℕ) → ahead first x y ≡ true → is_sooner S first second x y ≡ true
  unfolding is_sooner
  by_first_holds x y h = or_left _ (ahead second x y) (or_right (S.before (event x) (event y)) (ahead first x y) h)

  pub by_second_holds : (x y : ℕ) → ahead second x y ≡ true → is_sooner S first second x y ≡ true
  unfolding is_sooner
  by_second_holds x y h = or_right (S.before (event x) (event y) || ahead first x y) (ahead second x y) h

module _ (S : Scenario) (C : Causal S) (first second : List ℕ) (first_once : each_once (2 * S.count) first ≡ true)
    (second_once : each_once (2 * S.count) second ≡ true) where
  -- the events, and which is before which by one of the three
  abbrev events : ℕ
  events = 2 * S.count

  abbrev sooner : ℕ → ℕ → Bool
  sooner = is_sooner S first second

  -- both are events of the sheet
  event_inside : (x : ℕ) → message_of (event x) < S.count → x < events
  event_inside x h = subst (λ (k : ℕ). k < events) (number_event x) ((below_number (event x) S.count).0 h)

  sooner_inside : (x y : ℕ) → sooner x y ≡ true → (x < events) × (y < events)
  sooner_inside x y h =
      ⊎_elim
      (λ b. let i = C.inside (event x) (event y) b in (event_inside x i.0, event_inside y i.1))
      (⊎_elim (ahead_inside events first first_once x y) (ahead_inside events second second_once x y))
      (sooner_cases S first second x y h)

  -- The computed test is exactly the least transitive relation with all three.
  sooner_precedes : (x y : ℕ) → sooner x y ≡ true → Precedes S first second x y
  sooner_precedes x y h = ⊎_elim by_sheet (⊎_elim by_first by_second) (sooner_cases S first second x y h)

  pub precedes_relation : (x y : ℕ) → precedes S first second x y ≡ true → Precedes S first second x y
  unfolding precedes
  precedes_relation =
      closure_least events sooner (Precedes S first second) (λ x y p q h. sooner_precedes x y h) (λ x y z p q. link p q)

  precedes_direct : (x y : ℕ) → sooner x y ≡ true → precedes S first second x y ≡ true
  unfolding precedes
  precedes_direct x y h = let i = sooner_inside x y h in closure_holds events sooner x y i.0 i.1 h

  pub relation_precedes : {x y : ℕ} → Precedes S first second x y → precedes S first second x y ≡ true
  unfolding precedes
  relation_precedes (by_sheet {x = x} {y = y} h) = precedes_direct x y (by_sheet_holds S first second x y h)
  relation_precedes (by_first {x = x} {y = y} h) = precedes_direct x y (by_first_holds S first second x y h)
  relation_precedes (by_second {x = x} {y = y} h) = precedes_direct x y (by_second_holds S first second x y h)
  relation_precedes (link {x = x} {y = y} {z = z} p q) =
      closure_transitive events sooner x y z (relation_precedes p) (relation_precedes q)

  -- in an order that obeys, what has to precede another stands ahead of it, so nothing has to precede itself
  obeyed : (order : List ℕ) → Obeys S first second order → {x y : ℕ} → Precedes S first second x y → ahead order x y ≡ true
  obeyed order O (by_sheet {x = x} {y = y} h) =
      subst (λ (k : ℕ). ahead order x k ≡ true) (number_event y)
      (subst (λ (k : ℕ). ahead order k (number (event y)) ≡ true) (number_event x) (O.obeys_before (event x) (event y) h))
  obeyed order O (by_first {x = x} {y = y} h) = O.obeys_first x y h
  obeyed order O (by_second {x = x} {y = y} h) = O.obeys_second x y h
  obeyed order O (link {x = x} {y = y} {z = z} p q) =
      ahead_transitive events order x y z O.once (obeyed order O p) (obeyed order O q)

  obeyed_no_circle : (order : List ℕ) → Obeys S first second order → (x : ℕ) → Precedes S first second x x → ⊥
  obeyed_no_circle order O x p = ahead_irreflexive events order x O.once (obeyed order O p)

  -- with empty lists only "before" is left, so nothing has to precede itself
  empty_before : first ≡ [] → second ≡ [] → {x y : ℕ} → Precedes S first second x y → S.before (event x) (event y) ≡ true
  empty_before f s (by_sheet h) = h
  empty_before f s (by_first {x = x} {y = y} h) = not_both (ahead first x y) h (ahead_empty first f x y)
  empty_before f s (by_second {x = x} {y = y} h) = not_both (ahead second x y) h (ahead_empty second s x y)
  empty_before f s (link {x = x} {y = y} {z = z} p q) = C.trans (event x) (event y) (event z) (empty_before f s p) (empty_before f s q)

  empty_no_circle : first ≡ [] → second ≡ [] → (x : ℕ) → Precedes S first second x x → ⊥
  empty_no_circle f s x p = C.irreflexive (event x) (empty_before f s p)

  -- what the test for the next event says in the request's words, and back
  nothing_before_holds : (taken : List ℕ) (k : ℕ) → k < events → is_next events sooner taken k ≡ true → NothingBefore S first second taken k
  nothing_before_holds taken k l h =
      let N = next_use events sooner taken k h in
      let there : (x : ℕ) → sooner x k ≡ true → among x taken ≡ true = λ x r. N.before x (sooner_inside x k r).0 r in
      record {
        in_sheet = l;
        left = N.left;
        taken_before = λ x b. there (number x) (by_sheet_holds S first second (number x) k (subst⁻¹ (λ (y : Event). S.before y (event k) ≡ true) (event_number x) b));
        taken_first = λ x b. there x (by_first_holds S first second x k b);
        taken_second = λ x b. there x (by_second_holds S first second x k b);
      }

  nothing_before_next : (taken : List ℕ) (k : ℕ) → NothingBefore S first second taken k → is_next events sooner taken k ≡ true
  nothing_before_next taken k N =
      next_on events sooner taken k
      (record {
        left = N.left;
        before = λ x l r.
            ⊎_elim
            (λ b. subst (λ (j : ℕ). among j taken ≡ true) (number_event x) (N.taken_before (event x) b))
            (⊎_elim (N.taken_first x) (N.taken_second x))
            (sooner_cases S first second x k r);
      })

  lowest_next : (taken : List ℕ) (k : ℕ) → IsLowest events (is_next events sooner taken) k → LowestNext S first second taken k
  lowest_next taken k L =
      record {
        nothing_before = nothing_before_holds taken k L.below L.passes;
        no_lower = λ j l N. not_both (is_next events sooner taken j) (nothing_before_next taken j N) (L.first j l);
      }

  -- The course, where nothing has to precede itself.
  module _ (no_circle : (x : ℕ) → Over events sooner events x x → ⊥) where
    abbrev course : ℕ → List ℕ
    course = course_of events sooner

    pub course_long : length (course events) ≡ events
    course_long =
        (course_holds events sooner no_circle events
        (omega arith)).long

    course_obeys : Obeys S first second (course events)
    course_obeys =
        let K =
        course_holds events sooner no_circle events
        (omega arith) in
        let all =
        course_all events sooner no_circle in
        let obeys : (x y : ℕ) → sooner x y ≡ true → ahead (course events) x y ≡ true =
        λ x y r. let i = sooner_inside x y r in K.obeys x y i.0 (all y i.1) r in
        record {
          once = K.once;
          all = all;
          obeys_before = λ x y b.
              obeys (number x) (number y)
              (by_sheet_holds S first second (number x) (number y) (rw (event_number x, event_number y) b));
          obeys_first = λ x y h. obeys x y (by_first_holds S first second x y h);
          obeys_second = λ x y h. obeys x y (by_second_holds S first second x y h);
        }

    -- each place of it, with the output's own numbers behind it
    course_lowest : (rest : List ℕ) (i : ℕ) → i < events
        → LowestNext S first second (take i (course events ++ rest)) (get_or (course events ++ rest) i 0)
    course_lowest rest i l =
        let long = course_long in
        let cut : take i (course events ++ rest) ≡ course i =
        take-append-le i (course events) rest (omega arith)
        ∙ course_take events sooner no_circle events i
        (omega arith) (omega arith) in
        let at : get_or (course events ++ rest) i 0 ≡ get_or (course events) i 0 = get_or-append (course events) rest 0 i (omega arith) in
        subst⁻¹ (λ (t : List ℕ). LowestNext S first second t (get_or (course events ++ rest) i 0)) cut
        (subst⁻¹ (LowestNext S first second (course i)) at
        (lowest_next (course i) (get_or (course events) i 0)
        (course_place events sooner no_circle events i
        (omega arith) l)))

  -- what the answer is: fit, and nothing has to precede itself; or clash, with the lowest event that has
  pub data Decided : Tapped → Type 0 where
    is_fit : ((x : ℕ) → Over events sooner events x x → ⊥) → Decided (fit (course_of events sooner events))
    is_clash : {x : ℕ} → LowestCircle S first second x → Decided (clash x)

  pub decided : Decided (tapped_on first second S)
  unfolding tapped_on precedes
  decided = go (lowest events (λ x. precedes S first second x x)) (lowest_found events (λ x. precedes S first second x x))
    where
      go : (o : Option ℕ) → Found events (λ x. precedes S first second x x) o
          → Decided (elim o [ none ↦ fit (course_of events sooner events) | some x ↦ clash x ])
      go none f = is_fit (λ x h. not_both (over events sooner events x x) h (f x (linked_below events sooner events x x h).0))
      go (some x) f =
          is_clash
          (record {
            in_sheet = f.below;
            circle = precedes_relation x x f.passes;
            no_lower = λ y l p. not_both (precedes S first second y y) (relation_precedes p) (f.first y l);
          })

  fitted_for : (a : Tapped) → Decided a → (output : List ℕ) → Fitted S first second (tap_numbers_of a) (output_after a output)
  unfolding output_after precedes
  fitted_for a (is_fit no_circle) output =
      let course = course_of events sooner events in
      let long = course_long no_circle in
      let rest = drop (length course) output in
      record {
        fit_or_clash = inl refl;
        fit_when_obeyed = (λ i. (course, course_obeys no_circle), λ o. refl);
        empty_fit = λ f s. refl;
        fit_count = λ i. long;
        fit_order = λ i. subst⁻¹ (Obeys S first second) (take-append_seam course rest) (course_obeys no_circle);
        fit_lowest = λ i k l. course_lowest no_circle rest k (omega arith);
        clash_when_circle = (λ i. absurd (omega arith), λ p. absurd (no_circle p.0 (relation_precedes p.1)));
        clash_lowest = λ i. absurd (omega arith);
      }
  fitted_for a (is_clash {x = x} L) output =
      record {
        fit_or_clash = inr refl;
        fit_when_obeyed = (λ i. absurd (omega arith), λ o. absurd (obeyed_no_circle o.0 o.1 x L.circle));
        empty_fit = λ f s. absurd (empty_no_circle f s x L.circle);
        fit_count = λ i. absurd (omega arith);
        fit_order = λ i. absurd (omega arith);
        fit_lowest = λ i. absurd (omega arith);
        clash_when_circle = (λ i. (x, L.circle), λ p. refl);
        clash_lowest = λ i. L;
      }

  -- what an answer names: events of the sheet, or how many there are
  decided_small : (a : Tapped) → Decided a → S.count ≤ messages_most → Small a
  decided_small a (is_fit no_circle) few = (omega (arith, course_long no_circle), omega arith)
  decided_small a (is_clash {x = x} L) few = (omega (arith, L.in_sheet), omega arith)

-- What the answer says of the course, for every text, scratch length, lists and output, with no premise but that the call is accepted.
pub taps_course : (text : List ℕ) (scratch_length : ℕ) (first second output : List ℕ) (S : Scenario)
    → taps_accepted_of text scratch_length first second (length output) ≡ ok S
    → Fitted S first second (tap_numbers_of (tapped_of text scratch_length first second (length output)))
    (output_after (tapped_of text scratch_length first second (length output)) output)
unfolding tapped_of tapped_for
taps_course text scratch_length first second output S e =
    let a = taps_accepted_parts text scratch_length first second (length output) S e in
    let C = sheet_causal text S a.sheet in
    subst⁻¹ (λ (o : Out Scenario). Fitted S first second (tap_numbers_of (tapped_for first second o)) (output_after (tapped_for first second o) output)) e
    (fitted_for S C first second a.first_once a.second_once (tapped_on first second S)
    (decided S C first second a.first_once a.second_once) output)

-- The numbers of every answer do: they are events, refusals and lines.
pub taps_small : (text : List ℕ) (scratch_length : ℕ) (first second : List ℕ) (output_length : ℕ)
    → Small (tapped_of text scratch_length first second output_length)
unfolding tapped_of taps_accepted_of tapped_for with_lists and_then
taps_small text scratch_length first second output_length =
    short (ltb scratch_length scratch_least || ltb output_length tap_numbers_least)
  where
    listed : (S : Scenario) → sheet_of text ≡ ok S → (a b : Bool) → each_once (2 * S.count) first ≡ a → each_once (2 * S.count) second ≡ b
        → Small (tapped_for first second (cond a (cond b (ok S) (refusal tap_refusal 2)) (refusal tap_refusal 1)))
    listed S e true true p q =
        let few : S.count ≤ messages_most = sheet_count text S e in
        decided_small S (sheet_causal text S e) first second p q (tapped_on first second S)
        (decided S (sheet_causal text S e) first second p q) few
    listed S e true false p q = (omega arith, omega arith)
    listed S e false b p q = (omega arith, omega arith)

    sheet : (o : Out Scenario) → sheet_of text ≡ o → Well (line_of rows_most) o → Small (tapped_for first second (and_then o (with_lists first second)))
    sheet (refusal number line) e w = (omega (arith, w.known), omega (arith, w.within))
    sheet (ok S) e w = listed S e (each_once (2 * S.count) first) (each_once (2 * S.count) second) refl refl

    short : (b : Bool) → Small (tapped_for first second (cond b (refusal bench_refusal 0) (and_then (sheet_of text) (with_lists first second))))
    short true = (omega arith, omega arith)
    short false = sheet (sheet_of text) refl (sheet_well text)
