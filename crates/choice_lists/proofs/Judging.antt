-- What the loop over the lists keeps: all lists ahead of this one were walked, none was refused, and the first locked one is known.
-- Each law has the premises of one place of the code. Assumes nothing.
use Prim.Native.Nat.{ℕ, ◌+◌, ◌-◌, ◌*◌, ◌^◌, ◌<◌, ◌≤◌}
use native.Mathlib.Omega.{arith}
use mathlib.Core.Path.{◌≡◌, refl, sym, ◌∙◌, ap, subst}
use mathlib.Core.Bool.{Bool}
use mathlib.Core.List.{List, [], ◌∷◌}
use mathlib.Core.Option.{Option, none, some}
use lib.ListN.{length}
use lib.Pow.{pow_pos}
use Rattle.model.specs.Limits.{choices_most, lists_most, messages_most}
use Rattle.model.specs.Refusal.{Out, ok, refusal, and_then}
use Rattle.model.specs.Rows.{Row}
use Rattle.model.specs.Expansion.{Progress}
use Rattle.model.specs.Order.{Scenario, Met, exchange_of, scenario_of}
use Rattle.model.specs.Channel.{channel_of}
use Rattle.model.specs.Race.{race_rule_of, lowest_race}
use Rattle.model.specs.Schedule.{schedule}
use Rattle.model.specs.Answer.{Answer, free, locked, refused, expanded_with, verdict_of, answer_for}
use Rattle.model.specs.Choice.{ChoiceList, lists_of, ChoiceAnswer, first_locked, refusal_in, lock_in}
use Rattle.model.proofs.Refusal.{and_then_ok}
use Rattle.model.proofs.Standing.{Fits, read_fits}
use Rattle.model.proofs.Accepted.{walk_count, walk_boards}
use Rattle.model.proofs.Asking.{walk_on, list_padded, beginning_most, list_count}
use Rattle.relation.specs.Width.{width}
use Rattle.relation.specs.Scenario.{scenario_in}
use Rattle.sheet.specs.Bridge.{rows_of}
use Rattle.blocks.specs.Store.{counted_with}
use Rattle.levels.specs.Options.{options_of}
use Rattle.race.specs.declared.Rule.{Rule}
use Rattle.std.specs.Prelude as std
use Rattle.std.specs.Prelude.{Result, Ok, Err, Some, None}
use Rattle.outcome.specs.declared.Refusal.{Refusal}
use Rattle.outcome.specs.Refusals.{number_in, refused_in}
use Rattle.at_or_before.specs.Lent.{Lent}
use Rattle.race.specs.Bridge.{rule_in}
use Rattle.scenario.specs.Contract.{Fit}
use Rattle.scenario.proofs.Parts.{fit_from}
use Rattle.expansion.specs.Lent.{RowsRead}
use Rattle.expansion.specs.Outcome.{counted_of}
use Rattle.expansion.specs.declared.Counted.{Counted}
use Rattle.expansion.proofs.Listed.{listed_refused, listed_messages}
use Rattle.choice_lists.specs.Places.{place_of}
use Rattle.choice_lists.specs.Walked.{first_from, LockAt, LastList}
use Rattle.choice_lists.proofs.Places.{Tiles, place_below, padding, options_at, padded_length, tiles_all}

-- The walk of the list at a place, as the code hands it on.
module _ (file : List Row) (l : List Bool) (c : ChoiceList file l) where
  short : length l ≤ choices_most
  short = beginning_most file c.beginning

  -- m behind the list's options changes nothing
  same_walk : counted_with (options_of (place_of l)) file ≡ counted_with l file
  unfolding counted_with
  same_walk =
      ap (λ (o : List Bool). and_then (walk_on file o) (λ s. ok (scenario_of (exchange_of s), s.walk.choices))) (options_at l short)
      ∙ ap (λ (w : Out (Progress Met)). and_then w (λ s. ok (scenario_of (exchange_of s), s.walk.choices)))
      (list_padded file l (padding l short) c.whole (padded_length l short))

  counted_choices : (S : Scenario) (n : ℕ) → counted_with l file ≡ ok (S, n) → n ≡ length l
  unfolding counted_with
  counted_choices S n e =
      let d = and_then_ok (walk_on file l) (λ s. ok (scenario_of (exchange_of s), s.walk.choices)) (S, n) e in
      let g : ◌≡◌ {A = Scenario × ℕ} (scenario_of (exchange_of d.0), d.0.walk.choices) (S, n) = cc d.2 in
      sym (ap (λ (p : Scenario × ℕ). p.1) g) ∙ list_count file c.beginning d.0 d.1

  module _ (at : ℕ) (place : at ≡ place_of l) (boards words : List ℕ) (r : Result Counted Refusal) (h : counted_of r boards words ≡ counted_with (options_of at) file) where
    counted : counted_of r boards words ≡ counted_with l file
    counted = h ∙ ap (λ (k : ℕ). counted_with (options_of k) file) place ∙ same_walk

    pub list_refused : (e : Refusal) → r ≡ Err e → expanded_with l file ≡ refused_in e
    list_refused e i = sym (listed_refused boards words r l file counted e i)

    module _ (m : Counted) (i : r ≡ Ok m) where
      abbrev T : Scenario
      T = scenario_in m.messages boards words

      pub list_scenario : expanded_with l file ≡ ok T
      list_scenario = sym (listed_messages boards words r l file counted m i)

      pub list_met : m.choices ≡ length l
      list_met = counted_choices T m.choices (sym counted ∙ ap (λ (q : Result Counted Refusal). counted_of q boards words) i)

      pub list_fit : Fits [] file → length boards ≡ 2 * messages_most → length words ≡ 2 * messages_most * width → Fit m.messages boards words
      list_fit fits b w = fit_from m.messages boards words b w (walk_count l file fits T list_scenario) (walk_boards l file fits T list_scenario)

-- the answer over a list and those behind it, by the scenario of the first
module _ (file : List Row) (code : ℕ) (l : List Bool) (ls : List (List Bool)) where
  refusal_on : (S : Scenario) → expanded_with l file ≡ ok S → refusal_in file (l ∷ ls) ≡ refusal_in file ls
  unfolding refusal_in
  refusal_on S e = ap (λ (w : Out Scenario). elim w [ ok T ↦ refusal_in file ls | refusal number line ↦ some (number, line) ]) e

  refusal_here : (number line : ℕ) → expanded_with l file ≡ refusal number line → refusal_in file (l ∷ ls) ≡ some (number, line)
  unfolding refusal_in
  refusal_here number line e = ap (λ (w : Out Scenario). elim w [ ok T ↦ refusal_in file ls | refusal n k ↦ some (n, k) ]) e

  by_answer : Answer → ChoiceAnswer
  by_answer a = elim a [ free ↦ lock_in file code ls | locked e x ts ↦ first_locked l e x ts | refused number line ↦ lock_in file code ls ]

  lock_by : (S : Scenario) (a : Answer) → expanded_with l file ≡ ok S → verdict_of S code ≡ a → lock_in file code (l ∷ ls) ≡ by_answer a
  unfolding lock_in answer_for by_answer
  lock_by S a e i = ap (λ (w : Out Scenario). by_answer (answer_for w code)) e ∙ ap by_answer i

  pub lock_on : (S : Scenario) → expanded_with l file ≡ ok S → verdict_of S code ≡ free → lock_in file code (l ∷ ls) ≡ lock_in file code ls
  unfolding by_answer
  lock_on S e i = lock_by S free e i

  pub lock_here : (S : Scenario) (e x : ℕ) (ts : _) → expanded_with l file ≡ ok S → verdict_of S code ≡ locked e x ts
      → lock_in file code (l ∷ ls) ≡ first_locked l e x ts
  unfolding by_answer
  lock_here S e x ts h i = lock_by S (locked e x ts) h i

-- a verdict by its race
pub verdict_by : (S : Scenario) (code : ℕ) (o : Option (ℕ × ℕ)) → lowest_race S (race_rule_of code) ≡ o
    → verdict_of S code ≡ elim o [ none ↦ free | some race ↦ locked race.0 race.1 (schedule S (channel_of code) race.0) ]
unfolding verdict_of
verdict_by S code o e = ap (λ (p : Option (ℕ × ℕ)). elim p [ none ↦ free | some race ↦ locked race.0 race.1 (schedule S (channel_of code) race.0) ]) e

-- the tiles end where the numbers do
tiles_end : (file : List Row) (at : ℕ) (ls : List (List Bool)) → Tiles file at ls → at ≡ lists_most → ls ≡ []
tiles_end file at [] t e = refl
tiles_end file at (l ∷ ls) t e = absurd (omega (arith, t.1, place_below choices_most l))

-- the rows lent stand where they may
pub rows_fit : (kind one two : List ℕ) (count : ℕ) (start : List ℕ) → RowsRead kind one two count start → Fits [] (rows_of kind one two count)
rows_fit kind one two count start lent = read_fits lent.read.0 lent.read.1 (rows_of kind one two count) lent.read.2

module _ (file : List Row) (code : ℕ) where
  pub record Judging (at : ℕ) (first : std.Option ℕ) : Type 0 where
    pub options : List Bool
    pub behind : List (List Bool)
    pub is_list : ChoiceList file options
    pub place : at ≡ place_of options
    pub tiles : Tiles file (at + 2 ^ (choices_most - length options)) behind
    pub refusals : refusal_in file (lists_of file) ≡ refusal_in file (options ∷ behind)
    pub known : first ≡ None → lock_in file code (lists_of file) ≡ lock_in file code (options ∷ behind)
    pub ahead : (k : ℕ) → first ≡ Some k → LockAt file code k

  from_tiles : (at : ℕ) (first : std.Option ℕ) (ls : List (List Bool)) → Tiles file at ls → (at ≡ lists_most → ⊥) → refusal_in file (lists_of file) ≡ refusal_in file ls
      → (first ≡ None → lock_in file code (lists_of file) ≡ lock_in file code ls) → ((k : ℕ) → first ≡ Some k → LockAt file code k) → Judging at first
  from_tiles at first [] t n r k a = absurd (n t)
  from_tiles at first (l ∷ ls) t n r k a =
      record { options = l; behind = ls; is_list = t.0; place = t.1; tiles = t.2; refusals = r; known = k; ahead = a }

  pub judging_start : Judging 0 None
  judging_start =
      from_tiles 0 None (lists_of file) (tiles_all file) (λ e. omega arith) refl (λ e. refl) (λ k e. let z : ⊥ = cc e in absurd z)

  pub at_below : (at : ℕ) (first : std.Option ℕ) → Judging at first → at < lists_most
  at_below at first j = omega (arith, j.place, place_below choices_most j.options)

  module _ (at : ℕ) (first : std.Option ℕ) (j : Judging at first) (boards words : List ℕ) (r : Result Counted Refusal)
      (h : counted_of r boards words ≡ counted_with (options_of at) file) where
    pub judging_refused : (e : Refusal) → r ≡ Err e → refusal_in file (lists_of file) ≡ some (number_in e.reason, e.line)
    judging_refused e i =
        j.refusals ∙ refusal_here file code j.options j.behind (number_in e.reason) e.line
        (list_refused file j.options j.is_list at j.place boards words r h e i)

    module _ (m : Counted) (i : r ≡ Ok m) where
      abbrev S : Scenario
      S = scenario_in m.messages boards words

      is_scenario_holds : expanded_with j.options file ≡ ok S
      is_scenario_holds = list_scenario file j.options j.is_list at j.place boards words r h m i

      is_met : m.choices ≡ length j.options
      is_met = list_met file j.options j.is_list at j.place boards words r h m i

      pub met_most : m.choices ≤ choices_most
      met_most = omega (arith, is_met, beginning_most file j.is_list.beginning)

      module _ (fits : Fits [] file) (b : length boards ≡ 2 * messages_most) (w : length words ≡ 2 * messages_most * width) where
        fit : Fit m.messages boards words
        fit = list_fit file j.options j.is_list at j.place boards words r h m i fits b w

        pub race_lent : Lent m.messages boards words
        race_lent =
            let few : m.messages ≤ messages_most = fit.few in
            record { boards_long = omega arith; words_long = omega arith; row_long = omega arith; boards_below = fit.boards_below }

        module _ (next : ℕ) (n : next ≡ at + 2 ^ (choices_most - m.choices)) where
          behind_tiles : Tiles file next j.behind
          behind_tiles = subst (λ (k : ℕ). Tiles file k j.behind) (ap (λ (m : ℕ). at + 2 ^ (choices_most - m)) (sym is_met) ∙ sym n) j.tiles

          -- the last list
          pub judging_last : next ≡ lists_most → LastList file code boards words (record { list = at; messages = m.messages; met = m.choices; first = first })
          unfolding refusal_in
          judging_last e =
              let none-behind : j.behind ≡ [] = tiles_end file next j.behind behind_tiles e in
              let only : j.options ∷ j.behind ≡ j.options ∷ [] = ap (λ (ls : List (List Bool)). j.options ∷ ls) none-behind in
              record {
                options = j.options;
                is_list = j.is_list;
                place = j.place;
                size = is_met;
                scenario = is_scenario_holds;
                fit = fit;
                unrefused = j.refusals ∙ ap (refusal_in file) only ∙ last_unrefused;
                last_decides = λ f. j.known f ∙ ap (lock_in file code) only;
                locked_ahead = j.ahead;
              }
            where
              last_unrefused : refusal_in file (j.options ∷ []) ≡ none
              last_unrefused = refusal_on file code j.options [] S is_scenario_holds

          -- one list more
          pub next_less : lists_most - next < lists_most - at
          next_less = omega (arith, pow_pos (choices_most - m.choices), at_below at first j)

          module _ (more : next ≡ lists_most → ⊥) (rule : Rule) (same : rule_in rule ≡ race_rule_of code) (first' : std.Option ℕ)
              (f : first' ≡ first_from first at (lowest_race S (rule_in rule))) where
            -- whether a list ahead is locked, or this one
            pub judging_next : Judging next first'
            judging_next =
                let p = go first refl (lowest_race S (race_rule_of code)) refl (f ∙ ap (λ q. first_from first at (lowest_race S q)) same) in
                from_tiles next first' j.behind behind_tiles more (j.refusals ∙ refusal_on file code j.options j.behind S is_scenario_holds) p.0 p.1
              where
                Both : Type 0
                Both = (first' ≡ None → lock_in file code (lists_of file) ≡ lock_in file code j.behind) × ((k : ℕ) → first' ≡ Some k → LockAt file code k)

                go : (o : std.Option ℕ) → first ≡ o → (race : Option (ℕ × ℕ)) → lowest_race S (race_rule_of code) ≡ race
                    → first' ≡ first_from o at race → Both
                go (Some k) i race e g = (
                  λ d. let z : ⊥ = cc (d, g) in absurd z,
                  λ k' d. let same : k ≡ k' = cc (d, g) in subst (LockAt file code) same (j.ahead k i),
                )
                go None i none e g = (
                  λ d. j.known i ∙ lock_on file code j.options j.behind S is_scenario_holds (verdict_by S code none e),
                  λ k d. let z : ⊥ = cc (d, g) in absurd z,
                )
                go None i (some race) e g = (
                  λ d. let z : ⊥ = cc (d, g) in absurd z,
                  λ k d. let here : k ≡ at = cc (d, g) in record {
                    options = j.options;
                    is_list = j.is_list;
                    place = here ∙ j.place;
                    scenario = S;
                    is_scenario = is_scenario_holds;
                    message = race.0;
                    event = race.1;
                    steps = schedule S (channel_of code) race.0;
                    is_locked = verdict_by S code (some race) e;
                    lock = j.known i ∙ lock_here file code j.options j.behind S race.0 race.1 _ is_scenario_holds (verdict_by S code (some race) e);
                  },
                )
