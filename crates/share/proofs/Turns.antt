-- What the turns of a job find, and that all of them together find the race named. Assumes nothing.
use mathlib.Core.Path.{◌≡◌, refl, sym, ◌∙◌, ap, subst⁻¹}
use mathlib.Core.Logic.{⊎_elim}
use mathlib.Core.Bool.{Bool, true, false, ◌&&◌, and-false}
use mathlib.Core.List.{List}
use mathlib.Core.Option.{Option, none, some}
use Prim.Native.Nat.{ℕ, zero, suc, ◌*◌, ◌/◌, ◌%◌, ◌<◌, ◌≤◌}
use native.Mathlib.Decide.{ℕ_discrete, dec_lt}
use native.Mathlib.Omega.{arith}
use lib.Dec.{eqb, ltb, leb}
use borrow.Author.Tests.{eq-eqb, ne_eqb, lt-ltb, le-ltb, ltb-true, le-leb, lt-leb}
use Rattle.model.specs.Limits.{channels, messages_most}
use Rattle.model.specs.Bounded.{lowest}
use Rattle.model.specs.Order.{Scenario, event}
use Rattle.model.specs.Race.{RaceRule, race_rule_of, is_race, races, lowest_event, lowest_message, lowest_race}
use Rattle.model.proofs.Bounded.{and_left, and_right, not_both, which, any_from, any_some, lowest_none, lowest_some, lowest_hit, lowest_nowhere}
use Rattle.relation.specs.Width.{width, word_bits}
use Rattle.relation.specs.Scenario.{scenario_in}
use Rattle.race.specs.declared.Rule.{Rule}
use Rattle.race.specs.Bridge.{rule_in}
use Rattle.std.specs.Prelude as std
use Rattle.std.specs.Prelude.{Some, None}
use Rattle.outcome.specs.Options.{found_in}
use Rattle.share.specs.declared.Race.{Race}
use Rattle.share.specs.Search.{in_words, half, from_of, to_of, share_of, searched, race_in, can_be_held, looked_from, Looks}

-- ---- the share of a turn, as it is looked at
module _ (S : Scenario) (q : RaceRule) (t : ℕ) where
  pub first_share : (f : std.Option ℕ) → t % 2 ≡ 0 → found_in f ≡ lowest (2 * S.count) (λ x. in_words 0 half x && is_race S q (t / 2) (event x)) → found_in f ≡ share_of S q t
  unfolding share_of from_of to_of
  first_share f e h = h ∙ sym (rw (eq-eqb (t % 2) 0 e))

  pub second_share : (f : std.Option ℕ) → (t % 2 ≡ 0 → ⊥) → found_in f ≡ lowest (2 * S.count) (λ x. in_words half width x && is_race S q (t / 2) (event x)) → found_in f ≡ share_of S q t
  unfolding share_of from_of to_of
  second_share f e h = h ∙ sym (rw (ne_eqb (t % 2) 0 e))

-- ---- one turn more
module _ (S : Scenario) (q : RaceRule) (t : ℕ) where
  searched_stays : (race : ℕ × ℕ) → searched S q t ≡ some race → searched S q (suc t) ≡ some race
  unfolding searched
  searched_stays race e = rw e

  searched_none : searched S q t ≡ none → share_of S q t ≡ none → searched S q (suc t) ≡ none
  unfolding searched
  searched_none e s = rw (e, s)

  searched_some : (x : ℕ) → searched S q t ≡ none → share_of S q t ≡ some x → searched S q (suc t) ≡ some (t / 2, x)
  unfolding searched
  searched_some x e s = rw (e, s)

module _ (count : ℕ) (boards words : List ℕ) (code t : ℕ) (so_far : Race) where
  abbrev the_share : Option ℕ
  the_share = share_of (scenario_in count boards words) (race_rule_of code) t

  abbrev after : Race
  after = looked_from count boards words code t so_far

  -- a race found stays
  stays : (so_far.found ≡ 0 → ⊥) → after ≡ so_far
  unfolding looked_from
  stays n = rw (ne_eqb so_far.found 0 n)

  pub looks_stays : (so_far.found ≡ 0 → ⊥) → Looks count boards words code t so_far so_far
  looks_stays n = record { exact = sym (stays n) }

  -- what no job can hold
  no_job : can_be_held count code t ≡ false → Looks count boards words code t so_far so_far
  unfolding looked_from
  no_job f = record { exact = sym (rw (f, and-false (eqb so_far.found 0))) }

  pub looks_many : messages_most < count → Looks count boards words code t so_far so_far
  unfolding can_be_held
  looks_many h = no_job (rw (lt-leb count messages_most h))

  pub looks_unknown : channels ≤ code → Looks count boards words code t so_far so_far
  unfolding can_be_held
  looks_unknown h = no_job (rw (le-ltb code channels h, and-false (leb count messages_most)))

  pub looks_late : 2 * count ≤ t → Looks count boards words code t so_far so_far
  unfolding can_be_held
  looks_late h = no_job (rw (le-ltb t (2 * count) h) (and-false (leb count messages_most && ltb code channels)))

  -- a job's turn
  module _ (z : so_far.found ≡ 0) (few : count ≤ messages_most) (known : code < channels) (l : t < 2 * count) where
    nothing : the_share ≡ none → after ≡ so_far
    unfolding looked_from can_be_held
    nothing s = rw (eq-eqb so_far.found 0 z, le-leb count messages_most few, lt-ltb code channels known, lt-ltb t (2 * count) l, s)

    event_found : (x : ℕ) → the_share ≡ some x → after ≡ record { found = 1; message = t / 2; event = x }
    unfolding looked_from can_be_held
    event_found x s = rw (eq-eqb so_far.found 0 z, le-leb count messages_most few, lt-ltb code channels known, lt-ltb t (2 * count) l, s)

    module _ (rule : Rule) (same : rule_in rule ≡ race_rule_of code) where
      share_is : (o : Option ℕ) → o ≡ share_of (scenario_in count boards words) (rule_in rule) t → the_share ≡ o
      share_is o s = ap (λ (k : RaceRule). share_of (scenario_in count boards words) k t) (sym same) ∙ sym s

      pub looks_nothing : none ≡ share_of (scenario_in count boards words) (rule_in rule) t → Looks count boards words code t so_far so_far
      looks_nothing s = record { exact = sym (nothing (share_is none s)) }

      pub looks_finds : (x : ℕ) → some x ≡ share_of (scenario_in count boards words) (rule_in rule) t
          → Looks count boards words code t so_far (record { found = 1; message = t / 2; event = x })
      looks_finds x s = record { exact = sym (event_found x (share_is (some x) s)) }

  -- so a turn of a job that holds a scenario takes its search one turn on
  pub looks_on : (r : Race) → Looks count boards words code t so_far r → count ≤ messages_most → code < channels → t < 2 * count
      → race_in so_far ≡ searched (scenario_in count boards words) (race_rule_of code) t
      → race_in r ≡ searched (scenario_in count boards words) (race_rule_of code) (suc t)
  looks_on r L few known l e = ap race_in L.exact ∙ go (ℕ_discrete so_far.found 0) the_share refl
    where
      go : Dec (so_far.found ≡ 0) → (o : Option ℕ) → the_share ≡ o → race_in after ≡ searched (scenario_in count boards words) (race_rule_of code) (suc t)
      go (no n) o s =
          let is : race_in so_far ≡ some (so_far.message, so_far.event) = rw (ne_eqb so_far.found 0 n) in
          ap race_in (stays n) ∙ is ∙ sym (searched_stays _ _ t (so_far.message, so_far.event) (sym e ∙ is))
      go (yes z) none s =
          let yet : race_in so_far ≡ none = rw (eq-eqb so_far.found 0 z) in
          ap race_in (nothing z few known l s) ∙ yet ∙ sym (searched_none _ _ t (sym e ∙ yet) s)
      go (yes z) (some x) s =
          let yet : race_in so_far ≡ none = rw (eq-eqb so_far.found 0 z) in
          ap race_in (event_found z few known l x s) ∙ sym (searched_some _ _ t x (sym e ∙ yet) s)

-- the event found is one of the scenario's
pub found_below : (S : Scenario) (q : RaceRule) (t x : ℕ) → some x ≡ share_of S q t → x < 2 * S.count
unfolding share_of
found_below S q t x s = (lowest_some (2 * S.count) _ x (sym s)).below

-- ---- all turns together
module _ (S : Scenario) (q : RaceRule) where
  abbrev races_at : ℕ → ℕ → Bool
  races_at e x = is_race S q e (event x)

  abbrev in_part : ℕ → ℕ → ℕ → ℕ → Bool
  in_part from to e x = in_words from to x && races_at e x

  -- what t turns have found: nothing, where no message looked at races; or the race named
  abbrev Sought : ℕ → Option (ℕ × ℕ) → Type 0
  Sought t none = ((e : ℕ) → e < t / 2 → lowest_event S q e ≡ none) × (t % 2 ≡ 1 → lowest (2 * S.count) (in_part 0 half (t / 2)) ≡ none)
  Sought t (some race) = (race.0 < S.count) × (lowest_event S q race.0 ≡ some race.1) × ((e : ℕ) → e < race.0 → lowest_event S q e ≡ none)

  sought_none : Sought 0 (searched S q 0)
  unfolding searched
  sought_none = (λ e h. absurd (omega arith), λ e. absurd (omega arith))

  -- where the test by parts is one of the whole row
  in_first : (e x : ℕ) → x < word_bits * half → in_part 0 half e x ≡ races_at e x
  in_first e x h = rw (le-leb (word_bits * 0) x (omega arith), lt-ltb x (word_bits * half) h)

  in_second : (e x : ℕ) → word_bits * half ≤ x → x < word_bits * width → in_part half width e x ≡ races_at e x
  in_second e x g h = rw (le-leb (word_bits * half) x g, lt-ltb x (word_bits * width) h)

  first_part : (t : ℕ) → t % 2 ≡ 0 → share_of S q t ≡ lowest (2 * S.count) (in_part 0 half (t / 2))
  unfolding share_of from_of to_of
  first_part t z = rw (eq-eqb (t % 2) 0 z)

  second_part : (t : ℕ) → t % 2 ≡ 1 → share_of S q t ≡ lowest (2 * S.count) (in_part half width (t / 2))
  unfolding share_of from_of to_of
  second_part t z = rw (ne_eqb (t % 2) 0 (λ i. omega arith))

  module _ (room : 2 * S.count ≤ word_bits * width) where
    -- neither half of a row has a race: the message does not race
    neither : (e : ℕ) → lowest (2 * S.count) (in_part 0 half e) ≡ none → lowest (2 * S.count) (in_part half width e) ≡ none → lowest_event S q e ≡ none
    unfolding lowest_event
    neither e a b = lowest_nowhere (2 * S.count) (races_at e) (λ x h. go x h (dec_lt x (word_bits * half)))
      where
        go : (x : ℕ) → x < 2 * S.count → Dec (x < word_bits * half) → races_at e x ≡ false
        go x h (yes k) = sym (in_first e x k) ∙ lowest_none (2 * S.count) (in_part 0 half e) a x h
        go x h (no k) = sym (in_second e x (omega arith) (omega arith)) ∙ lowest_none (2 * S.count) (in_part half width e) b x h

    -- the lowest of the first half is the lowest of the row; and of the second, where the first has none
    lowest_first : (e x : ℕ) → lowest (2 * S.count) (in_part 0 half e) ≡ some x → lowest_event S q e ≡ some x
    unfolding lowest_event
    lowest_first e x a =
        let L = lowest_some (2 * S.count) (in_part 0 half e) x a in
        let inside : x < word_bits * half = ltb-true x (word_bits * half) (and_right (leb (word_bits * 0) x) _ (and_left (in_words 0 half x) (races_at e x) L.passes)) in
        lowest_hit (2 * S.count) x (races_at e)
        (lowest_nowhere x (races_at e) (λ y h. sym (in_first e y (omega arith)) ∙ L.first y h))
        (and_right (in_words 0 half x) (races_at e x) L.passes) L.below

    lowest_second : (e x : ℕ) → lowest (2 * S.count) (in_part 0 half e) ≡ none → lowest (2 * S.count) (in_part half width e) ≡ some x → lowest_event S q e ≡ some x
    unfolding lowest_event
    lowest_second e x a b =
        let L = lowest_some (2 * S.count) (in_part half width e) x b in
        lowest_hit (2 * S.count) x (races_at e)
        (lowest_nowhere x (races_at e) (λ y h. go y h L.below L.first (dec_lt y (word_bits * half))))
        (and_right (in_words half width x) (races_at e x) L.passes) L.below
      where
        go : (y : ℕ) → y < x → x < 2 * S.count → ((j : ℕ) → j < x → in_part half width e j ≡ false) → Dec (y < word_bits * half) → races_at e y ≡ false
        go y h below first (yes k) = sym (in_first e y k) ∙ lowest_none (2 * S.count) (in_part 0 half e) a y (omega arith)
        go y h below first (no k) = sym (in_second e y (omega arith) (omega arith)) ∙ first y h

    -- one turn more
    sought_more : (t : ℕ) → t < 2 * S.count → (o : Option (ℕ × ℕ)) → searched S q t ≡ o → Sought t o → Sought (suc t) (searched S q (suc t))
    sought_more t l (some race) e h = subst⁻¹ (λ (o : Option (ℕ × ℕ)). Sought (suc t) o) (searched_stays S q t race e) h
    sought_more t l none e h = go (share_of S q t) refl (ℕ_discrete (t % 2) 0)
      where
        go : (s : Option ℕ) → share_of S q t ≡ s → Dec (t % 2 ≡ 0) → Sought (suc t) (searched S q (suc t))
        go none s (yes z) =
            let same : suc t / 2 ≡ t / 2 = omega arith in
            subst⁻¹ (λ (o : Option (ℕ × ℕ)). Sought (suc t) o) (searched_none S q t e s)
            (λ i k. h.0 i (omega arith), λ d. ap (λ n. lowest (2 * S.count) (in_part 0 half n)) same ∙ sym (first_part t z) ∙ s)
        go none s (no z) =
            let odd : t % 2 ≡ 1 = omega arith in
            subst⁻¹ (λ (o : Option (ℕ × ℕ)). Sought (suc t) o) (searched_none S q t e s)
            (λ i k. passed i k odd (sym (second_part t odd) ∙ s) (ℕ_discrete i (t / 2)), λ d. absurd (omega arith))
          where
            passed : (i : ℕ) → i < suc t / 2 → t % 2 ≡ 1 → lowest (2 * S.count) (in_part half width (t / 2)) ≡ none → Dec (i ≡ t / 2) → lowest_event S q i ≡ none
            passed i k odd b (yes w) = ap (lowest_event S q) w ∙ neither (t / 2) (h.1 odd) b
            passed i k odd b (no w) = h.0 i (omega arith)
        go (some x) s (yes z) =
            subst⁻¹ (λ (o : Option (ℕ × ℕ)). Sought (suc t) o) (searched_some S q t x e s)
            (omega arith, lowest_first (t / 2) x (sym (first_part t z) ∙ s), h.0)
        go (some x) s (no z) =
            let odd : t % 2 ≡ 1 = omega arith in
            subst⁻¹ (λ (o : Option (ℕ × ℕ)). Sought (suc t) o) (searched_some S q t x e s)
            (omega arith, lowest_second (t / 2) x (h.1 odd) (sym (second_part t odd) ∙ s), h.0)

    sought : (t : ℕ) → t ≤ 2 * S.count → Sought t (searched S q t)
    sought zero l = sought_none
    sought (suc t) l = sought_more t (omega arith) (searched S q t) refl (sought t (omega arith))

    -- a message races where its search finds an event
    races_not : (e : ℕ) → lowest_event S q e ≡ none → races S q e ≡ false
    unfolding lowest_event races
    races_not e h =
        ⊎_elim
        (λ (t : races S q e ≡ true). let k = any_some (2 * S.count) (races_at e) t in not_both _ k.2 (lowest_none (2 * S.count) (races_at e) h k.0 k.1))
        (λ f. f) (which (races S q e))

    races_so : (e x : ℕ) → lowest_event S q e ≡ some x → races S q e ≡ true
    unfolding lowest_event races
    races_so e x h = let L = lowest_some (2 * S.count) (races_at e) x h in any_from (2 * S.count) (races_at e) x L.below L.passes

    named : (o : Option (ℕ × ℕ)) → Sought (2 * S.count) o → o ≡ lowest_race S q
    unfolding lowest_race lowest_message
    named none h =
        let m : lowest S.count (races S q) ≡ none = lowest_nowhere S.count (races S q) (λ e k. races_not e (h.0 e (omega arith))) in
        sym (rw (m, lowest_race, lowest_message))
    named (some race) h =
        let m : lowest S.count (races S q) ≡ some race.0 =
        lowest_hit S.count race.0 (races S q) (lowest_nowhere race.0 (races S q) (λ e k. races_not e (h.2 e k))) (races_so race.0 race.1 h.1) h.0 in
        sym (rw (m, lowest_race, lowest_message, h.1))

    -- The turns of a job, all of them, find the race named.
    pub searched_all : searched S q (2 * S.count) ≡ lowest_race S q
    searched_all = named (searched S q (2 * S.count)) (sought (2 * S.count) (omega arith))
