-- The search for the lowest message that races. Assumes nothing.
use mathlib.Core.Path.{◌≡◌, refl, sym, ◌∙◌, ap, subst, subst⁻¹}
use mathlib.Core.Logic.{⊎_elim}
use mathlib.Core.Bool.{Bool, true, false, ◌&&◌}
use mathlib.Core.List.{List}
use mathlib.Core.Option.{Option, none, some}
use Prim.Native.Nat.{ℕ, ◌+◌, ◌*◌, ◌<◌, ◌≤◌}
use native.Mathlib.Omega.{arith}
use native.Mathlib.Numerals.{add-one}
use lib.Dec.{eqb}
use lib.ListN.{get_or}
use Rattle.model.specs.Order.{Event, receive_of, event, board}
use Rattle.model.specs.Race.{RaceRule, never, not_at_or_before, is_race, races, lowest_event, lowest_message, lowest_race}
use Rattle.model.specs.Bounded.{lowest}
use Rattle.model.proofs.Bounded.{which, not_both, any_from, any_some, lowest_none, lowest_some, lowest_hit, lowest_miss, lowest_nowhere}
use Rattle.relation.specs.Scenario.{scenario_in}
use Rattle.race.specs.declared.Rule.{Rule}
use Rattle.race.specs.declared.Rule.TheVariants.{Never}
use Rattle.std.specs.Prelude as code
use Rattle.std.specs.Prelude.{Some, None}
use Rattle.race.specs.Bridge.{rule_in}
use Rattle.outcome.specs.Options.{found_in}

module _ (count : ℕ) (boards words : List ℕ) where
  -- a message races where its search finds an event
  races_none : (q : RaceRule) (e : ℕ) → lowest_event (scenario_in count boards words) q e ≡ none → races (scenario_in count boards words) q e ≡ false
  unfolding lowest_event races
  races_none q e h =
      ⊎_elim
      (λ (t : races (scenario_in count boards words) q e ≡ true).
      let k = any_some (2 * count) (λ j. is_race (scenario_in count boards words) q e (event j)) t in
      not_both _ k.2 (lowest_none (2 * count) (λ j. is_race (scenario_in count boards words) q e (event j)) h k.0 k.1))
      (λ f. f)
      (which (races (scenario_in count boards words) q e))

  races_some : (q : RaceRule) (e x : ℕ) → lowest_event (scenario_in count boards words) q e ≡ some x → races (scenario_in count boards words) q e ≡ true
  unfolding lowest_event races
  races_some q e x h =
      let L = lowest_some (2 * count) (λ j. is_race (scenario_in count boards words) q e (event j)) x h in
      any_from (2 * count) (λ j. is_race (scenario_in count boards words) q e (event j)) x L.below L.passes

  -- the search for the lowest message: none below e races
  pub record Passed (q : RaceRule) (e : ℕ) : Type 0 where
    pub within : e ≤ count
    pub passed : lowest e (races (scenario_in count boards words) q) ≡ none

  pub messages_begin : (q : RaceRule) → Passed q 0
  unfolding lowest
  messages_begin q = record { within = omega arith; passed = refl }

  pub messages_go_on : (q : RaceRule) (e : ℕ) (f : code.Option ℕ) → Passed q e → f ≡ None
      → found_in f ≡ lowest_event (scenario_in count boards words) q e → e < count → Passed q (e + 1)
  messages_go_on q e f p i h l =
      record { within = omega arith; passed = rw add-one (lowest_miss e (races (scenario_in count boards words) q) p.passed (races_none q e (sym h ∙ ap (found_in {A = ℕ}) i))) }

  pub messages_find : (q : RaceRule) (e x : ℕ) (f : code.Option ℕ) → Passed q e → f ≡ Some x
      → found_in f ≡ lowest_event (scenario_in count boards words) q e → e < count → some (e, x) ≡ lowest_race (scenario_in count boards words) q
  unfolding lowest_race lowest_message
  messages_find q e x f p i h l =
      let at : lowest_event (scenario_in count boards words) q e ≡ some x = sym h ∙ ap (found_in {A = ℕ}) i in
      let m : lowest count (races (scenario_in count boards words) q) ≡ some e =
      lowest_hit count e (races (scenario_in count boards words) q) p.passed (races_some q e x at) l in
      let race : Option (ℕ × ℕ) = some (e, x) in
      subst⁻¹
      (λ (o : Option ℕ). race ≡ elim o [ none ↦ none | some i ↦ elim (lowest_event (scenario_in count boards words) q i) [ none ↦ none | some y ↦ some (i, y) ] ]) m
      (subst⁻¹ (λ (o : Option ℕ). race ≡ elim o [ none ↦ none | some y ↦ some (e, y) ]) at refl)

  pub messages_end : (q : RaceRule) (e : ℕ) → Passed q e → count ≤ e → none ≡ lowest_race (scenario_in count boards words) q
  unfolding lowest_race lowest_message
  messages_end q e p l =
      let i : e ≡ count = omega (arith, p.within) in
      let m : lowest count (races (scenario_in count boards words) q) ≡ none =
      subst (λ (k : ℕ). lowest k (races (scenario_in count boards words) q) ≡ none) i p.passed in
      sym (rw (m, lowest_race, lowest_message))

  -- on the lazy channels no message races
  outside_never : (e : ℕ) (x : Event) → is_race (scenario_in count boards words) never e x ≡ false
  unfolding is_race not_at_or_before
  outside_never e x = falls (eqb (board (scenario_in count boards words) x) (get_or boards (2 * e + 1) 0)) ((scenario_in count boards words).before x (receive_of e))
    where
      falls : (a b : Bool) → (a && b && false) ≡ false
      falls true true = refl
      falls true false = refl
      falls false b = refl

  pub never_races : (r : Rule) → r ≡ Never → none ≡ lowest_race (scenario_in count boards words) (rule_in r)
  unfolding lowest_event
  never_races r i =
      subst⁻¹ (λ (q : RaceRule). none ≡ lowest_race (scenario_in count boards words) q) (ap rule_in i)
      (messages_end never count
      (record {
        within = omega arith;
        passed =
            lowest_nowhere count (races (scenario_in count boards words) never)
            (λ e h. races_none never e (lowest_nowhere (2 * count) (λ j. is_race (scenario_in count boards words) never e (event j)) (λ k l. outside_never e (event k))));
      })
      (omega arith))
