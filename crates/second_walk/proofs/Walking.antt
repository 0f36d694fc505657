-- What `walk_twice` is to show, from where its two walks end and the race that one round has. Assumes nothing.
use Prim.Native.Nat.{ℕ, ◌*◌, ◌≤◌}
use native.Mathlib.Omega.{arith}
use mathlib.Core.Path.{◌≡◌, sym, ◌∙◌, ap, subst}
use mathlib.Core.List.{List, []}
use lib.ListN.{length}
use Rattle.model.specs.Limits.{boards, messages_most, rows_most, calls_most}
use Rattle.model.specs.Refusal.{Out, ok, and_then}
use Rattle.model.specs.Rows.{Row}
use Rattle.model.specs.Expansion.{Progress, expand}
use Rattle.model.specs.Order.{Scenario, scenario_of, Met, nothing_met, met_ops, exchange_of}
use Rattle.model.specs.Race.{race_rule_of, lowest_race}
use Rattle.model.specs.Choice.{Plain}
use Rattle.model.specs.Rounds.{rounds, walked_again}
use Rattle.model.proofs.Standing.{Fits, read_fits}
use Rattle.model.proofs.WithoutChoices.{walk_plain}
use Rattle.model.proofs.Twice.{walk_later}
use Rattle.model.proofs.TwoWalks.{two_walks_holds}
use Rattle.relation.specs.Width.{width}
use Rattle.relation.specs.Scenario.{scenario_in}
use Rattle.sheet.specs.Bridge.{rows_of}
use Rattle.sheet.proofs.Bridge.{rows_length}
use Rattle.blocks.specs.Store.{Store, store_of, walked_on}
use Rattle.blocks.proofs.Again.{Alongside, again, ended_scenario, once_ended, once_refused, again_ended, again_refused}
use Rattle.walk.specs.Block.{state_of}
use Rattle.walk.specs.declared.Walk.{Walk}
use Rattle.levels.specs.Options.{options_of}
use Rattle.expansion.specs.Lent.{RowsRead}
use Rattle.expansion.specs.Outcome.{zeros}
use Rattle.expansion.specs.Ends.{beginning, Rests, Ends}
use Rattle.std.specs.Prelude as std
use Rattle.std.specs.Prelude.{Result, Ok, Err, Some, None}
use Rattle.outcome.specs.declared.Refusal.{Refusal}
use Rattle.outcome.specs.Refusals.{refused_in, number_in}
use Rattle.outcome.specs.Options.{found_in}
use Rattle.expansion.proofs.Whole.{nothing_begins}
use Rattle.expansion.proofs.Reading.{sheets_lent}
use Rattle.scenario.specs.Contract.{Fit}
use Rattle.at_or_before.specs.Lent.{Lent}
use Rattle.race.specs.declared.Rule.{Rule}
use Rattle.race.specs.Bridge.{rule_in}
use Rattle.second_walk.specs.Walks.{rows_repeatable, OneLocks, OneFrees}
use Rattle.second_walk.proofs.Plain.{walked_plain}

-- a walk that rests has its scenario in boards and words
module _ (t : Store) (expected : Out (Progress Store)) (w : Walk) (h : Ends (Ok w) t expected) where
  pub ends_rests : Rests w t
  ends_rests = h.rests

  ends_at : expected ≡ ok (state_of w t)
  ends_at = sym h.exact

  pub ends_fit : Fit w.count t.events t.words
  ends_fit =
      let m = ends_rests.room in
      record { few = m.count_most; boards_long = m.events_long; words_long = m.words_long; boards_below = λ x l. m.boards_most x }

  pub ends_lent : Lent w.count t.events t.words
  ends_lent =
      let m = ends_rests.room in
      record {
        boards_long = omega (arith, m.count_most, m.events_long);
        words_long = omega (arith, m.count_most, m.words_long);
        row_long = omega (arith, m.count_most);
        boards_below = λ x l. m.boards_most x;
      }

-- a walk goes on from where another rests: with no more messages, and room for what is past
pub rests_on : (w v : Walk) (events words past past' : List ℕ) → Rests w (store_of events words past) → length past' ≡ boards * width → v.calls ≤ calls_most
    → v.first ≡ v.count → v.count ≤ w.count → Rests v (store_of events words past')
rests_on w v events words past past' r l few empty less =
    let m = r.room in
    record {
      few = few;
      empty = empty;
      room = record {
        events_long = m.events_long;
        words_long = m.words_long;
        past_long = l;
        first_most = omega arith;
        count_most = omega (arith, m.count_most);
        boards_most = m.boards_most;
      };
    }

module _ (kind one two : List ℕ) (count : ℕ) (start : List ℕ) (lent : RowsRead kind one two count start) (plain : Plain (rows_of kind one two count))
    (options : ℕ) (words : List ℕ) (l : length words ≡ 2 * messages_most * width) (t : Store) where
  abbrev file : List Row
  file = rows_of kind one two count

  abbrev nothing : Store
  nothing = store_of (zeros (2 * messages_most)) words (zeros (boards * width))

  fits : Fits [] file
  fits = read_fits lent.read.0 lent.read.1 file lent.read.2

  few : length file ≤ rows_most
  few = omega (arith, rows_length kind one two 0 count, (sheets_lent kind one two count start lent 0).rows.few)

  -- the first walk is refused
  pub first_refused : (e : Refusal) → Ends (Err e) t (walked_on (options_of options) file (beginning words)) → rows_repeatable file ≡ refused_in e
  unfolding rows_repeatable and_then
  first_refused e h =
      let none : expand met_ops [] file nothing_met ≡ refused_in e =
      sym (walk_plain file plain (options_of options))
      ∙ once_refused (options_of options) file fits nothing (nothing_begins words l) (number_in e.reason) e.line (sym h.exact) in
      rw none

  module _ (w : Walk) (h : Ends (Ok w) t (walked_on (options_of options) file (beginning words))) where
    beside : Alongside (expand met_ops [] file nothing_met) (state_of w t)
    beside =
        subst (λ (o : Out (Progress Met)). Alongside o (state_of w t)) (walk_plain file plain (options_of options))
        (once_ended (options_of options) file fits nothing (nothing_begins words l) (state_of w t) (ends_at t _ w h))

    abbrev s : Progress Met
    s = record { walk = beside.walk; kept = beside.kept }

    one_scenario : scenario_in w.count t.events t.words ≡ scenario_of (exchange_of s)
    one_scenario = ended_scenario beside

    again_is : again (options_of options) file fits s ≡ walked_again file s
    unfolding walked_again
    again_is = walked_plain met_ops (options_of options) file plain few _

    module _ (t' : Store) where
      pub second_refused : (e : Refusal) → Ends (Err e) t' (walked_on (options_of options) file (state_of w t)) → rows_repeatable file ≡ refused_in e
      unfolding rows_repeatable and_then
      second_refused e h' =
          let none : walked_again file s ≡ refused_in e =
          sym again_is ∙ again_refused (options_of options) file fits beside (number_in e.reason) e.line (sym h'.exact) in
          rw (beside.is_met, none)

      module _ (w' : Walk) (h' : Ends (Ok w') t' (walked_on (options_of options) file (state_of w t))) where
        beside' : Alongside (walked_again file s) (state_of w' t')
        beside' =
            subst (λ (o : Out (Progress Met)). Alongside o (state_of w' t')) again_is
            (again_ended (options_of options) file fits beside (state_of w' t') (ends_at t' _ w' h'))

        is_one_holds : rows_repeatable file ≡ ok (exchange_of s)
        unfolding rows_repeatable and_then
        is_one_holds = rw (beside.is_met, beside'.is_met)

        two_scenario : scenario_in w'.count t'.events t'.words ≡ scenario_of (rounds (exchange_of s) 2)
        two_scenario =
            ended_scenario beside'
            ∙ two_walks_holds s (record { walk = beside'.walk; kept = beside'.kept }) beside.sound
            (walk_later s file (record { walk = beside'.walk; kept = beside'.kept }) beside.is_met beside'.is_met)

        module _ (code : ℕ) (rule : Rule) (v : std.Option (ℕ × ℕ)) (same : rule_in rule ≡ race_rule_of code)
            (found : found_in v ≡ lowest_race (scenario_in w.count t.events t.words) (rule_in rule)) where
          race_is : (o : std.Option (ℕ × ℕ)) → v ≡ o → lowest_race (scenario_of (exchange_of s)) (race_rule_of code) ≡ found_in o
          race_is o e =
              ap (λ (S : Scenario). lowest_race S (race_rule_of code)) (sym one_scenario)
              ∙ ap (lowest_race (scenario_in w.count t.events t.words)) (sym same) ∙ sym found ∙ ap found_in e

          pub one_locks : (race : ℕ × ℕ) → v ≡ Some race → OneLocks (rows_repeatable file) code
          one_locks race n = record { one = exchange_of s; is_one = is_one_holds; message = race.0; event = race.1; race = race_is (Some race) n }

          pub one_frees : v ≡ None → OneFrees (rows_repeatable file) code t'.events t'.words w'.count
          one_frees n =
              record {
                one = exchange_of s;
                is_one = is_one_holds;
                no_race = race_is None n;
                is_two = two_scenario;
                fit = ends_fit t' _ w' h';
              }
