-- The search for the next step: a message of a class, the lowest of a class, and the classes in their order. Assumes nothing.
use mathlib.Core.Path.{◌≡◌, refl, sym, ◌∙◌, ap, subst, subst⁻¹}
use mathlib.Core.Bool.{Bool, true, false, ◌&&◌}
use mathlib.Core.List.{List, [], ◌∷◌}
use mathlib.Core.Option.{Option, none, some}
use Prim.Native.Nat.{ℕ, zero, suc, ◌+◌, ◌<◌, ◌≤◌}
use native.Mathlib.Omega.{arith}
use native.Mathlib.Decide.{ℕ_discrete, dec_lt}
use lib.ListN.{drop, get_or}
use Rattle.model.specs.Limits.{messages_most}
use Rattle.model.specs.Bounded.{lowest}
use Rattle.model.specs.Order.{Scenario}
use Rattle.model.specs.Channel as model
use Rattle.model.specs.Run.{State, Step, allowed}
use Rattle.model.specs.Schedule as plan
use Rattle.model.specs.Schedule.{classes_for, choose, message_of_step}
use Rattle.model.proofs.Bounded.{and_right, lowest_hit, lowest_miss, lowest_some}
use Rattle.relation.specs.Scenario.{scenario_in}
use Rattle.channel_table.specs.declared.Channel.{Channel}
use Rattle.channel_table.specs.Table.{channel_in}
use Rattle.std.specs.Prelude as prelude
use Rattle.step.specs.declared.Step as code
use Rattle.step.specs.Steps.{step_in, message_in, step_or_none}
use Rattle.run.specs.State.{state_of}
use Rattle.buffers.specs.Held.{HeldAnywhere}
use Rattle.step_classes.specs.declared.Class.{Class}
use Rattle.step_classes.specs.declared.Class.TheVariants.{AnyConsume, DeliveryOf, NeededDelivery, NeededSend, AnyDelivery, AnySend}
use Rattle.step_classes.specs.Classes.{class_in, step_for}
use Rattle.candidates.specs.Candidates.{Exactly, is_candidate}
use Rattle.next_message.specs.Next.{next_in}
use Rattle.next_message.proofs.InRow.{next_absent}
use Rattle.step_classes.proofs.EachClass.{step_is, message_is}
use Rattle.channel.specs.Steps.{SaysIn}
use Rattle.model.proofs.Rules.{allowed_inside}
use Rattle.next_step.specs.Search.{OfRuns, fits, Fits, Lowest, ChosenIn}
use Rattle.next_step.proofs.Skipped.{no_candidate}

-- the step of a class on a message of the scenario
pub message_below : (q : Class) (m : ℕ) (step : code.Step) (count : ℕ) → step ≡ step_for q m → m < count → message_in step < count
message_below q m step count i l = rw (i, message_is q m) l

-- What each return of `fits_class` is to show.
module _ (count : ℕ) (boards words : List ℕ) (c : Channel) (done way rows : List ℕ) (e : ℕ) (q : Class) (m : ℕ) where
  pub other_class : (t : Bool) → t ≡ false → t ≡ (class_in (scenario_in count boards words) e q).takes m
      → Fits count boards words c done way rows e q m t
  other_class t f h = λ run d w s.
      f ∙ ap (λ b. b && allowed (scenario_in count boards words) (channel_in c) (state_of run) ((class_in (scenario_in count boards words) e q).step m)) (sym f ∙ h)

  pub in_class : (t u : Bool) (step : code.Step) → SaysIn count boards words c done way rows step u → step ≡ step_for q m
      → t ≡ true → t ≡ (class_in (scenario_in count boards words) e q).takes m → Fits count boards words c done way rows e q m u
  in_class t u step says i f h = λ run d w s.
      says run d w s
      ∙ ap (allowed (scenario_in count boards words) (channel_in c) (state_of run)) (ap step_in i ∙ step_is (scenario_in count boards words) e q m)
      ∙ ap (λ k. k && allowed (scenario_in count boards words) (channel_in c) (state_of run) ((class_in (scenario_in count boards words) e q).step m)) (sym f ∙ h)

-- What is chosen from a list of classes, by its first class.
module _ (S : Scenario) (c : model.Channel) where
  choose_hit : (k : plan.Class) (ks : List plan.Class) (s : State) (m : ℕ)
      → lowest S.count (λ j. k.takes j && allowed S c s (k.step j)) ≡ some m → choose S c (k ∷ ks) s ≡ some (k.step m)
  unfolding choose
  choose_hit k ks s m e = rw (e, choose)

  choose_miss : (k : plan.Class) (ks : List plan.Class) (s : State)
      → lowest S.count (λ j. k.takes j && allowed S c s (k.step j)) ≡ none → choose S c (k ∷ ks) s ≡ choose S c ks s
  unfolding choose
  choose_miss k ks s e =
      subst⁻¹ (λ (o : Option ℕ). elim o [ some m ↦ some (k.step m) | none ↦ choose S c ks s ] ≡ choose S c ks s) e refl

  choose_none : (s : State) → choose S c [] s ≡ none
  unfolding choose
  choose_none s = refl

  -- the first class alone has a step, or it has none
  module _ (k : plan.Class) (ks : List plan.Class) (s : State) where
    abbrev test : ℕ → Bool
    test j = k.takes j && allowed S c s (k.step j)

    first_class : (o : Option ℕ) → lowest S.count test ≡ o → (r : Option Step) → r ≡ choose S c (k ∷ []) s
        → choose S c (k ∷ ks) s ≡ elim r [ some t ↦ some t | none ↦ choose S c ks s ]
    first_class (some m) e r h = choose_hit k ks s m e ∙ rw (h ∙ choose_hit k [] s m e)
    first_class none e r h = choose_miss k ks s e ∙ rw (h ∙ choose_miss k [] s e ∙ choose_none s)

  -- a step that is chosen is allowed, so its message is one of the scenario's
  pub chosen_inside : (ks : List plan.Class) (s : State) (t : Step) → choose S c ks s ≡ some t → message_of_step t < S.count
  chosen_inside [] s t h = let z : none ≡ some t = sym (choose_none s) ∙ h in absurd (let n : ◌≡◌ {A = ℕ} 0 1 = cc in omega arith)
  chosen_inside (k ∷ ks) s t h = go (lowest S.count (test k ks s)) refl (chosen_inside ks s t)
    where
      go : (o : Option ℕ) → lowest S.count (test k ks s) ≡ o → (choose S c ks s ≡ some t → message_of_step t < S.count) → message_of_step t < S.count
      go (some m) e rest =
          let same : some (k.step m) ≡ some t = sym (choose_hit k ks s m e) ∙ h in
          let step : k.step m ≡ t = cc in
          subst (λ (u : Step). message_of_step u < S.count) step
          (allowed_inside S c s (k.step m) (and_right (k.takes m) (allowed S c s (k.step m)) (lowest_some S.count (test k ks s) m e).passes))
      go none e rest = rest (sym (choose_miss k ks s e) ∙ h)

-- The search of a class: no message below m fits, of those that there are, in every run with these parts.
module _ (count : ℕ) (boards words : List ℕ) (c : Channel) (done way rows : List ℕ) (e : ℕ) (q : Class) where
  abbrev S : Scenario
  S = scenario_in count boards words

  pub record Passed (m : ℕ) : Type 0 where
    pub passed : (j : ℕ) → j < m → j < count → OfRuns done way rows (λ run. fits count boards words c run e q j ≡ false)

  -- none of the messages below m is the lowest
  none_below : (m : ℕ) → m ≤ count → Passed m → OfRuns done way rows (λ run. lowest m (fits count boards words c run e q) ≡ none)
  unfolding lowest
  none_below m few p run d w h = go m few (λ j l. p.passed j l (omega arith) run d w h)
    where
      go : (n : ℕ) → n ≤ count → ((j : ℕ) → j < n → fits count boards words c run e q j ≡ false) → lowest n (fits count boards words c run e q) ≡ none
      go zero f g = refl
      go (suc n) f g = lowest_miss n (fits count boards words c run e q) (go n (omega arith) (λ j l. g j (omega arith))) (g n (omega arith))

  -- no candidate is among the messages skipped
  skips : (m r : ℕ) (row held : List ℕ) → Passed m → r ≡ next_in row m → Exactly (is_candidate words done way held e q) row → HeldAnywhere rows held → count ≤ messages_most → Passed r
  skips m r row held p n all anywhere few = record { passed = λ j h i. go j h i (dec_lt j m) }
    where
      go : (j : ℕ) → j < r → j < count → Dec (j < m) → OfRuns done way rows (λ run. fits count boards words c run e q j ≡ false)
      go j h i (yes b) = p.passed j b i
      go j h i (no b) = λ run d w s.
          no_candidate words done way held rows e j (omega arith) q row all anywhere (next_absent row m j (omega arith) (subst (λ (k : ℕ). j < k) n h)) run d w s count boards c

  pub search_begins : (r : ℕ) (row held : List ℕ) → r ≡ next_in row 0 → Exactly (is_candidate words done way held e q) row → HeldAnywhere rows held → count ≤ messages_most → Passed r
  search_begins r row held n all anywhere few = skips 0 r row held (record { passed = λ j h i. absurd (omega arith) }) n all anywhere few

  pub finds_nothing : (m : ℕ) → Passed m → count ≤ m → Lowest count boards words c done way rows e q prelude.None
  finds_nothing m p l run d w r =
      sym (choose_miss S (channel_in c) (class_in S e q) [] (state_of run)
      (none_below count (omega arith) (record { passed = λ j h i. p.passed j (omega arith) i }) run d w r)
      ∙ choose_none S (channel_in c) (state_of run))

  -- message m is tried
  module _ (m : ℕ) (u : Bool) (s : Fits count boards words c done way rows e q m u) (p : Passed m) (l : m < count) where
    misses : u ≡ false → Passed (m + 1)
    misses f = record { passed = λ k h g. go k h g (ℕ_discrete k m) }
      where
        go : (k : ℕ) → k < m + 1 → k < count → Dec (k ≡ m) → OfRuns done way rows (λ run. fits count boards words c run e q k ≡ false)
        go k h g (yes same) = λ run d w r. rw same (sym (s run d w r) ∙ f)
        go k h g (no other) = p.passed k (omega arith) g

    pub goes_past : (r : ℕ) (row held : List ℕ) → u ≡ false → r ≡ next_in row (m + 1) → Exactly (is_candidate words done way held e q) row → HeldAnywhere rows held → count ≤ messages_most → Passed r
    goes_past r row held f n all anywhere few = skips (m + 1) r row held (misses f) n all anywhere few

    pub finds : (step : code.Step) → step ≡ step_for q m → u ≡ true → Lowest count boards words c done way rows e q (prelude.Some step)
    finds step i v run d w r =
        ap some (ap step_in i ∙ step_is S e q m)
        ∙ sym (choose_hit S (channel_in c) (class_in S e q) [] (state_of run) m
        (lowest_hit count m (fits count boards words c run e q) (none_below m (omega arith) p run d w r) (sym (s run d w r) ∙ v) l))

    pub finds_none_left : u ≡ false → m + 1 ≡ count → Lowest count boards words c done way rows e q prelude.None
    finds_none_left f z = finds_nothing (m + 1) (misses f) (omega arith)

-- the classes, in the order in which they are tried
abbrev pub class_at : ℕ → Class
class_at k = get_or (AnyConsume ∷ DeliveryOf ∷ NeededDelivery ∷ NeededSend ∷ AnyDelivery ∷ AnySend ∷ []) k AnyConsume

-- The classes tried so far have no allowed step: what is left to choose from is chosen from as before.
module _ (count : ℕ) (boards words : List ℕ) (c : Channel) (done way rows : List ℕ) (e : ℕ) where
  pub record Tried (k : ℕ) : Type 0 where
    pub within : k ≤ 6
    pub same :
        OfRuns done way rows (λ run.
        choose (scenario_in count boards words) (channel_in c) (classes_for (scenario_in count boards words) e) (state_of run)
        ≡ choose (scenario_in count boards words) (channel_in c) (drop k (classes_for (scenario_in count boards words) e)) (state_of run))

  pub tried_none : Tried 0
  tried_none = record { within = omega arith; same = λ run d w p. refl }

  -- the k-th class and those behind it
  at_class : (k : ℕ) → k < 6
      → drop k (classes_for (scenario_in count boards words) e) ≡ class_in (scenario_in count boards words) e (class_at k) ∷ drop (k + 1) (classes_for (scenario_in count boards words) e)
  at_class zero l = refl
  at_class (suc zero) l = refl
  at_class (suc (suc zero)) l = refl
  at_class (suc (suc (suc zero))) l = refl
  at_class (suc (suc (suc (suc zero)))) l = refl
  at_class (suc (suc (suc (suc (suc zero))))) l = refl
  at_class (suc (suc (suc (suc (suc (suc k)))))) l = absurd (omega arith)

  -- what is chosen, by what the k-th class alone has
  by_class : (k : ℕ) (f : prelude.Option code.Step) → Tried k → k < 6 → Lowest count boards words c done way rows e (class_at k) f
      → OfRuns done way rows (λ run.
      choose (scenario_in count boards words) (channel_in c) (classes_for (scenario_in count boards words) e) (state_of run)
      ≡ elim (step_or_none f) [
        | some t ↦ some t
        | none ↦ choose (scenario_in count boards words) (channel_in c) (drop (k + 1) (classes_for (scenario_in count boards words) e)) (state_of run)
      ])
  by_class k f T l h run d w p =
      T.same run d w p ∙ ap (λ ks. choose (scenario_in count boards words) (channel_in c) ks (state_of run)) (at_class k l)
      ∙ first_class (scenario_in count boards words) (channel_in c) (class_in (scenario_in count boards words) e (class_at k)) (drop (k + 1) (classes_for (scenario_in count boards words) e)) (state_of run) _ refl (step_or_none f) (h run d w p)

  pub tried_more : (k : ℕ) → Tried k → Lowest count boards words c done way rows e (class_at k) prelude.None → k < 6 → Tried (k + 1)
  tried_more k T h l = record { within = omega arith; same = λ run d w p. by_class k prelude.None T l h run d w p }

  pub chooses : (k : ℕ) (step : code.Step) → Tried k → Lowest count boards words c done way rows e (class_at k) (prelude.Some step) → k < 6
      → ChosenIn count boards words c done way rows e (prelude.Some step)
  chooses k step T h l run d w p = sym (by_class k (prelude.Some step) T l h run d w p)

  pub chooses_nothing : (k : ℕ) → Tried k → 6 ≤ k → ChosenIn count boards words c done way rows e prelude.None
  chooses_nothing k T l run d w p =
      let i : k ≡ 6 = omega (arith, T.within) in
      sym (T.same run d w p ∙ ap (λ j. choose (scenario_in count boards words) (channel_in c) (drop j (classes_for (scenario_in count boards words) e)) (state_of run)) i ∙ choose_none (scenario_in count boards words) (channel_in c) (state_of run))
