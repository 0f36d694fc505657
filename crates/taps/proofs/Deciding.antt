-- What each part of the call is to show, from what its own parts handed on. Assumes nothing.
use mathlib.Core.Path.{◌≡◌, refl, sym, ◌∙◌, ap, subst⁻¹}
use mathlib.Core.Bool.{Bool, true, false, not}
use mathlib.Core.List.{List, [], ◌++◌}
use mathlib.Core.Option.{Option, none, some}
use Prim.Native.Nat.{ℕ, ◌*◌}
use native.Mathlib.Omega.{arith}
use lib.ListN.{length, drop}
use borrow.Author.Tests.{not-true, not-false}
use Rattle.model.specs.Bounded.{lowest, each_once}
use Rattle.model.specs.Refusal.{Out, ok, refusal, tap_refusal}
use Rattle.model.specs.Order.{Scenario}
use Rattle.model.specs.Taps.{Tapped, with_lists, is_sooner, precedes, course_of, fit, clash, fit_word, tapped_on, tapped_for, tap_numbers_of, output_after}
use Rattle.relation.specs.Width.{width}
use Rattle.relation.specs.Order.{before, Transitive}
use Rattle.std.specs.Prelude as std
use Rattle.std.specs.Prelude.{Result, Ok, Err, Some, None}
use Rattle.outcome.specs.declared.Refusal.{Refusal}
use Rattle.outcome.specs.declared.Reason.TheVariants.{Tap}
use Rattle.outcome.specs.Options.{found_in}
use Rattle.outcome.specs.Refusals.{number_in}
use Rattle.relation.specs.Own.{is_own}
use Rattle.relation.specs.Scenario.{scenario_in}
use Rattle.course.specs.Links.{Room, linked_by}
use Rattle.course.specs.Left.{NoCircle}
use Rattle.course.proofs.Closing.{linked_by_holds, twice_long, own_circle, no_circle, course_same, course_long}
use Rattle.taps.specs.declared.Taps.{Taps}
use Rattle.taps.specs.declared.Taps.TheVariants.{Fit, Clash}
use Rattle.taps.specs.Parts.{numbers_for, Lent, Decides, DecidesFor}

-- the words have the room that the links ask for
pub lent_room : (count : ℕ) (words output : List ℕ) → Lent count words output → Room (2 * count) words
lent_room count words output L = record { rows = omega (arith, L.few, L.words_long); bits = omega (arith, L.few) }

-- and still have it when a list is linked
pub room_linked : (events : ℕ) (words list : List ℕ) → Room events words → Transitive events (before width words) → each_once events list ≡ true
    → (once : List ℕ) → once ≡ linked_by width events list words → Room events once
room_linked events words list R closed list_once once e =
    let K = linked_by_holds events words R closed list list_once in
    subst⁻¹ (Room events) e (record { rows = omega (arith, R.rows, K.long); bits = R.bits })

-- one list behind the other
pub both_linked : (events : ℕ) (words first second once twice : List ℕ) → once ≡ linked_by width events first words
    → twice ≡ linked_by width events second once → twice ≡ linked_by width events second (linked_by width events first words)
both_linked events words first second once twice e d = d ∙ ap (linked_by width events second) e

-- what the model says of a scenario by what the search for a circle finds
module _ (first second : List ℕ) (S : Scenario) where
  abbrev circle : ℕ → Bool
  circle x = precedes S first second x x

  abbrev by_circle : Option ℕ → Tapped
  by_circle o = elim o [ none ↦ fit (course_of (2 * S.count) (is_sooner S first second) (2 * S.count)) | some x ↦ clash x ]

  tapped_by : (o : Option ℕ) → lowest (2 * S.count) circle ≡ o → tapped_on first second S ≡ by_circle o
  unfolding tapped_on
  tapped_by o e = ap by_circle e

  -- both lists have events of the sheet, each once: the scenario stands; else the first list that has not
  module _ (first_once : each_once (2 * S.count) first ≡ true) where
    pub lists_stand : each_once (2 * S.count) second ≡ true → with_lists first second S ≡ ok S
    unfolding with_lists
    lists_stand second_once = rw (first_once, second_once)

    lists_second : each_once (2 * S.count) second ≡ false → with_lists first second S ≡ refusal tap_refusal 2
    unfolding with_lists
    lists_second f = rw (first_once, f)

  lists_first : each_once (2 * S.count) first ≡ false → with_lists first second S ≡ refusal tap_refusal 1
  unfolding with_lists
  lists_first f = rw f

-- a refusal handed on
pub refuses_as : (first second : List ℕ) (r : Refusal) (o : Out Scenario) (output : List ℕ) → o ≡ refusal (number_in r.reason) r.line
    → Decides first second o output output (Err r)
unfolding tapped_for output_after
refuses_as first second r o output e =
    subst⁻¹ (λ (p : Out Scenario). Decides first second p output output (Err r)) e (record { answer = refl; output_left = refl })

refuses : (first second : List ℕ) (r : Refusal) (line : ℕ) (o : Out Scenario) (output : List ℕ) → r ≡ record { reason = Tap; line = line } → o ≡ refusal tap_refusal line
    → Decides first second o output output (Err r)
unfolding tapped_for output_after
refuses first second r line o output i e =
    subst⁻¹ (λ (p : Out Scenario). Decides first second p output output (Err r)) e
    (record { answer = ap (λ (q : Refusal). numbers_for (Err q)) i; output_left = refl })

-- The lists, one by one: refusal 20 at the first that is not in order.
module _ (count : ℕ) (words first second output : List ℕ) (r : Bool) where
  pub refuses_first : r ≡ each_once (2 * count) first → not r ≡ true → (t : Refusal) → t ≡ record { reason = Tap; line = 1 }
      → DecidesFor count words first second output output (Err t)
  refuses_first e f t i boards =
      refuses first second t 1 _ output i (lists_first first second (scenario_in count boards words) (sym e ∙ not-true r f))

  pub refuses_second : (q : Bool) → q ≡ each_once (2 * count) first → not q ≡ false → r ≡ each_once (2 * count) second → not r ≡ true
      → (u : Refusal) → u ≡ record { reason = Tap; line = 2 } → DecidesFor count words first second output output (Err u)
  refuses_second q d t e f u i boards =
      refuses first second u 2 _ output i (lists_second first second (scenario_in count boards words) (sym d ∙ not-false q t) (sym e ∙ not-true r f))

-- a list that is not refused
pub list_stands : (n : ℕ) (list : List ℕ) (r : Bool) → r ≡ each_once n list → not r ≡ false → each_once n list ≡ true
list_stands n list r e t = sym e ∙ not-false r t

-- Both linked: what the search for a circle finds decides.
module _ (count : ℕ) (words output first second : List ℕ) (lent : Lent count words output) (first_once : each_once (2 * count) first ≡ true)
    (second_once : each_once (2 * count) second ≡ true) (twice : List ℕ)
    (is-linked : twice ≡ linked_by width (2 * count) second (linked_by width (2 * count) first words)) where
  abbrev linked : List ℕ
  linked = linked_by width (2 * count) second (linked_by width (2 * count) first words)

  pub linked_long : length twice ≡ length words
  linked_long =
      ap length is-linked ∙ twice_long count [] words first second (lent_room count words output lent) lent.closed first_once second_once

  module _ (v : std.Option ℕ) (f : found_in v ≡ lowest (2 * count) (is_own width twice)) where
    found_circle : (boards : List ℕ) (o : Option ℕ) → found_in v ≡ o
        → lowest (2 * count) (λ x. precedes (scenario_in count boards words) first second x x) ≡ o
    found_circle boards o i =
        sym (own_circle count boards words first second (lent_room count words output lent) lent.closed first_once second_once)
        ∙ ap (λ (l : List ℕ). lowest (2 * count) (is_own width l)) (sym is-linked)
        ∙ sym f
        ∙ i

    decides : (boards : List ℕ) (a : Tapped) (behind : List ℕ) (r : Result Taps Refusal)
        → tapped_on first second (scenario_in count boards words) ≡ a
        → numbers_for r ≡ tap_numbers_of a → behind ≡ output_after a output
        → Decides first second (with_lists first second (scenario_in count boards words)) output behind r
    unfolding tapped_for
    decides boards a behind r i n b =
        subst⁻¹ (λ (p : Out Scenario). Decides first second p output behind r)
        (lists_stand first second (scenario_in count boards words) first_once second_once)
        (record { answer = n ∙ ap tap_numbers_of (sym i); output_left = b ∙ ap (λ (p : Tapped). output_after p output) (sym i) })

    pub clashes : (x : ℕ) → v ≡ Some x → DecidesFor count words first second output output (Ok (Clash x))
    unfolding output_after
    clashes x i boards =
        decides boards (clash x) output (Ok (Clash x))
        (tapped_by first second (scenario_in count boards words) (some x) (found_circle boards (some x) (ap (found_in {A = ℕ}) i))) refl refl

    module _ (i : v ≡ None) where
      none_own_holds : lowest (2 * count) (is_own width linked) ≡ none
      none_own_holds = ap (λ (l : List ℕ). lowest (2 * count) (is_own width l)) (sym is-linked) ∙ sym f ∙ ap (found_in {A = ℕ}) i

      pub fits_without_circle : NoCircle (2 * count) twice
      fits_without_circle =
          subst⁻¹ (NoCircle (2 * count)) is-linked
          (no_circle count [] words first second (lent_room count words output lent) lent.closed first_once second_once none_own_holds)

      pub fits : (behind : List ℕ) → behind ≡ course_of (2 * count) (before width twice) (2 * count) ++ drop (2 * count) output
          → DecidesFor count words first second output behind (Ok (Fit (2 * count)))
      unfolding output_after
      fits behind b boards =
          let S = scenario_in count boards words in
          let room = lent_room count words output lent in
          let long = course_long count boards words first second room lent.closed first_once second_once none_own_holds in
          let same = course_same count boards words first second room lent.closed first_once second_once none_own_holds in
          decides boards (fit (course_of (2 * count) (is_sooner S first second) (2 * count))) behind (Ok (Fit (2 * count)))
          (tapped_by first second S none (found_circle boards none (ap (found_in {A = ℕ}) i)))
          (ap (λ (k : ℕ). record { word = fit_word; one = k; two = 0 }) (sym long))
          (b ∙ ap (λ (l : List ℕ). course_of (2 * count) (before width l) (2 * count) ++ drop (2 * count) output) is-linked
          ∙ ap (λ (l : List ℕ). l ++ drop (2 * count) output) (sym same)
          ∙ ap (λ (k : ℕ). course_of (2 * count) (is_sooner S first second) (2 * count) ++ drop k output) (sym long))
