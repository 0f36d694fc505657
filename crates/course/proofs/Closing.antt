-- The relation with the links of two lists is exactly what has to precede what, so that its course is the request's. Assumes nothing.
use mathlib.Core.Path.{◌≡◌, refl, sym, ◌∙◌, subst⁻¹}
use mathlib.Core.Bool.{Bool, true, false}
use mathlib.Core.Logic.{⊎_elim}
use mathlib.Core.List.{List, [], ◌∷◌}
use mathlib.Core.Option.{none}
use Prim.Native.Nat.{ℕ, ◌*◌, ◌<◌}
use native.Mathlib.Omega.{arith}
use lib.ListN.{length}
use Rattle.model.specs.Bounded.{lowest, among, each_once}
use Rattle.model.specs.Taps.{ahead, is_sooner, precedes, course_of}
use Rattle.model.proofs.Bounded.{not_both, lowest_same, lowest_none}
use Rattle.model.proofs.Closure.{Over, over, closure_holds, closure_transitive, closure_least}
use Rattle.model.proofs.Ahead.{among_here, among_cases, ahead_cases, ahead_here, ahead_there, ahead_inside, once_parts}
use Rattle.model.proofs.Course.{course_holds, course_closure}
use Rattle.model.proofs.Taps.{sooner_cases, by_sheet_holds, by_first_holds, by_second_holds}
use Rattle.relation.specs.Width.{width}
use Rattle.relation.specs.Rows.{holds}
use Rattle.relation.specs.Order.{before, Transitive}
use Rattle.relation.specs.Own.{is_own}
use Rattle.relation.specs.Scenario.{scenario_in}
use Rattle.relation.proofs.Tests.{both_ways}
use Rattle.relation.proofs.Order.{Within, Covers, linked}
use Rattle.closure.specs.Insertion.{inserted}
use Rattle.closure.proofs.Inserted.{length_inserted}
use Rattle.closure.proofs.Closed.{linked_holds, linked_pair, linked_least, inserted_linked, inserted_closed}
use Rattle.relation.proofs.Scenario.{before_at}
use Rattle.course.specs.Left.{NoCircle}
use Rattle.course.specs.Links.{Room, chained, linked_by}

-- The words `now` hold the least closed relation with that of `words` and the order of a list.
pub record Links (n : ℕ) (words : List ℕ) (list now : List ℕ) : Type 0 where
  pub closed : Transitive n (before width now)
  pub keeps : Within n (before width words) (before width now)
  pub pairs : (x y : ℕ) → ahead list x y ≡ true → before width now x y ≡ true
  pub least : (S : ℕ → ℕ → Bool) → Transitive n S → Within n (before width words) S → ((x y : ℕ) → ahead list x y ≡ true → S x y ≡ true)
      → Within n (before width now) S
  pub long : length now ≡ length words

-- no pair is ahead in a list of one
ahead_one : {C : Type 0} (a x y : ℕ) → ahead (a ∷ []) x y ≡ true → C
unfolding ahead among
ahead_one a x y h = ⊎_elim (λ p. not_both false p.1 refl) (λ q. not_both false q refl) (ahead_cases a [] x y h)

module _ (n : ℕ) where
  -- one link: a before b
  module _ (words : List ℕ) (room : Room n words) (closed : Transitive n (before width words)) (a b : ℕ) (ha : a < n) (hb : b < n) where
    covers : Covers width words n b 0 n
    covers k h out = absurd (out (omega arith) h)

    one_link : (x y : ℕ) → x < n → y < n → before width (inserted width words a b 0 n) x y ≡ linked (before width words) a b x y
    one_link = inserted_linked width n words a b 0 n room.bits ha hb room.rows covers closed

    one_closed : Transitive n (before width (inserted width words a b 0 n))
    one_closed = inserted_closed width n words a b 0 n room.bits ha hb room.rows covers closed

  chained_links : (words : List ℕ) → Room n words → Transitive n (before width words) → (a : ℕ) (rest : List ℕ) → each_once n (a ∷ rest) ≡ true
      → Links n words (a ∷ rest) (chained width n words a rest)
  unfolding chained
  chained_links words room closed a [] once =
      record { closed = closed; keeps = λ x y hx hy h. h; pairs = λ x y h. ahead_one a x y h; least = λ S c w p. w; long = refl }
  chained_links words room closed a (b ∷ rest) once =
      let o = once_parts n a (b ∷ rest) once in
      let hb : b < n = (once_parts n b rest o.rest).below in
      let next = inserted width words a b 0 n in
      let kept : length next ≡ length words = length_inserted width words a b 0 n in
      let L =
      chained_links next (record { rows = omega (arith, room.rows); bits = room.bits })
      (one_closed words room closed a b o.below hb) b rest o.rest in
      let exact = one_link words room closed a b o.below hb in
      let grown : Within n (before width words) (before width next) =
      λ x y hx hy h. exact x y hx hy ∙ linked_holds n (before width words) a b x y hx hy h in
      let pair : before width (chained width n next b rest) a b ≡ true =
      L.keeps a b o.below hb (exact a b o.below hb ∙ linked_pair n (before width words) a b) in
      let reach : (y : ℕ) → among y (b ∷ rest) ≡ true → before width (chained width n next b rest) a y ≡ true =
      λ y m.
      ⊎_elim
      (λ e. subst⁻¹ (λ (z : ℕ). before width (chained width n next b rest) a z ≡ true) e pair)
      (λ q.
      let h = ahead_here b rest b y refl q in
      L.closed a b y o.below hb (ahead_inside n (b ∷ rest) o.rest b y h).1 pair (L.pairs b y h))
      (among_cases y b rest m) in
      record {
        closed = L.closed;
        keeps = λ x y hx hy h. L.keeps x y hx hy (grown x y hx hy h);
        pairs = λ x y h.
            ⊎_elim
            (λ p. subst⁻¹ (λ (z : ℕ). before width (chained width n next b rest) z y ≡ true) p.0 (reach y p.1))
            (λ q. L.pairs x y q)
            (ahead_cases a (b ∷ rest) x y h);
        least = λ S c w p.
            L.least S c
            (λ x y hx hy h.
            linked_least n (before width words) a b S c w (p a b (ahead_here a (b ∷ rest) a b refl (among_here b rest))) o.below hb x y hx hy
            (sym (exact x y hx hy) ∙ h))
            (λ x y h. p x y (ahead_there a (b ∷ rest) x y h));
        long = L.long ∙ kept;
      }

  pub linked_by_holds : (words : List ℕ) → Room n words → Transitive n (before width words) → (list : List ℕ) → each_once n list ≡ true
      → Links n words list (linked_by width n list words)
  unfolding linked_by ahead
  linked_by_holds words room closed [] once =
      record { closed = closed; keeps = λ x y hx hy h. h; pairs = λ x y h. not_both false h refl; least = λ S c w p. w; long = refl }
  linked_by_holds words room closed (a ∷ rest) once = chained_links words room closed a rest once

-- Both lists linked into the relation of a scenario.
module _ (count : ℕ) (boards words : List ℕ) (first second : List ℕ) (room : Room (2 * count) words)
    (closed : Transitive (2 * count) (before width words)) (first_once : each_once (2 * count) first ≡ true)
    (second_once : each_once (2 * count) second ≡ true) where
  abbrev events : ℕ
  events = 2 * count

  abbrev sooner : ℕ → ℕ → Bool
  sooner = is_sooner (scenario_in count boards words) first second

  -- the words with the first list, and with both
  abbrev once : List ℕ
  once = linked_by width events first words

  abbrev twice : List ℕ
  twice = linked_by width events second once

  once_links : Links events words first once
  once_links = linked_by_holds events words room closed first first_once

  once_room : Room events once
  once_room = record { rows = omega (arith, room.rows, once_links.long); bits = room.bits }

  twice_links : Links events once second twice
  twice_links = linked_by_holds events once once_room once_links.closed second second_once

  pub twice_long : length twice ≡ length words
  twice_long = twice_links.long ∙ once_links.long

  -- each link has to precede, and what has to precede is linked
  linked_precedes : Within events (before width twice) (over events sooner events)
  linked_precedes =
      twice_links.least P P_closed (once_links.least P P_closed by_words by_one) by_two
    where
      P : ℕ → ℕ → Bool
      P = over events sooner events

      P_closed : Transitive events P
      P_closed x y z hx hy hz p q = closure_transitive events sooner x y z p q

      by_words : Within events (before width words) P
      by_words x y hx hy h =
          closure_holds events sooner x y hx hy
          (by_sheet_holds (scenario_in count boards words) first second x y (before_at count boards words x y hx hy ∙ h))

      by_one : (x y : ℕ) → ahead first x y ≡ true → P x y ≡ true
      by_one x y h =
          let i = ahead_inside events first first_once x y h in
          closure_holds events sooner x y i.0 i.1 (by_first_holds (scenario_in count boards words) first second x y h)

      by_two : (x y : ℕ) → ahead second x y ≡ true → P x y ≡ true
      by_two x y h =
          let i = ahead_inside events second second_once x y h in
          closure_holds events sooner x y i.0 i.1 (by_second_holds (scenario_in count boards words) first second x y h)

  precedes_linked : (x y : ℕ) → Over events sooner events x y → (x < events) × (y < events) × (before width twice x y ≡ true)
  precedes_linked =
      closure_least events sooner (λ x y. (x < events) × (y < events) × (before width twice x y ≡ true))
      (λ x y hx hy h. (
        hx,
        hy,
        ⊎_elim
            (λ b. twice_links.keeps x y hx hy (once_links.keeps x y hx hy (sym (before_at count boards words x y hx hy) ∙ b)))
            (⊎_elim
            (λ f. twice_links.keeps x y hx hy (once_links.pairs x y f))
            (λ s. twice_links.pairs x y s))
            (sooner_cases (scenario_in count boards words) first second x y h),
      ))
      (λ x y z f g. (f.0, g.1, twice_links.closed x y z f.0 f.1 g.1 f.2 g.2))

  pub linked_exact : (x y : ℕ) → x < events → y < events → before width twice x y ≡ over events sooner events x y
  linked_exact x y hx hy =
      both_ways (before width twice x y) (over events sooner events x y) (linked_precedes x y hx hy) (λ o. (precedes_linked x y o).2)

  -- so the search for an event in its own row is the search for one that has to precede itself
  pub own_circle : lowest events (is_own width twice) ≡ lowest events (λ x. precedes (scenario_in count boards words) first second x x)
  unfolding precedes
  own_circle =
      lowest_same events (is_own width twice) (λ x. over events sooner events x x)
      (λ x h t. sym (linked_exact x x h h) ∙ t)
      (λ x h t. linked_exact x x h h ∙ t)

  -- and where there is none, the course taken from the words is the request's, of all events
  module _ (none_own : lowest events (is_own width twice) ≡ none) where
    pub no_circle : NoCircle events twice
    no_circle = record { closed = twice_links.closed; none_own = none_own }

    none_linked : (x : ℕ) → Over events sooner events x x → ⊥
    none_linked x o =
        let p = precedes_linked x x o in
        not_both (holds width twice x x) p.2 (lowest_none events (is_own width twice) none_own x p.0)

    pub course_same : course_of events sooner events ≡ course_of events (before width twice) events
    course_same = course_closure events sooner (before width twice) linked_exact none_linked events (omega arith)

    pub course_long : length (course_of events sooner events) ≡ events
    course_long = (course_holds events sooner none_linked events (omega arith)).long
