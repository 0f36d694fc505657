-- Allowed orders, over whole lists of steps: what they reach, and how one is carried on. Assumes nothing.
use Prim.Native.Nat.{ℕ, zero, suc, ◌+◌, ◌*◌, ◌<◌, ◌≤◌}
use native.Mathlib.Omega.{arith}
use mathlib.Core.Path.{◌≡◌, refl, subst, subst⁻¹}
use mathlib.Core.Logic.{⊎_elim}
use mathlib.Core.Bool.{true, false}
use mathlib.Core.List.{List, [], ◌∷◌, ◌++◌}
use borrow.Author.Tests.{leb-false}
use lib.ListN.{length}
use Rattle.model.specs.Order.{Event, send_of, receive_of, message_of, Scenario}
use Rattle.model.specs.Channel.{Channel}
use Rattle.model.specs.Run.{State, start, Step, next, allowed, is_order_from, after, finished, IsOrder, EndsFinished, CanFinish}
use Rattle.model.specs.Race.{RaceRule, is_race}
use Rattle.model.specs.Schedule.{message_of_step}
use Rattle.model.proofs.Bounded.{and_left, and_right, and_both, which}
use Rattle.model.proofs.Causal.{Causal}
use Rattle.model.proofs.Phases.{done_at, bump, view, view_start, view_next}
use Rattle.model.proofs.Rank.{rank, rank_bump, rank_most, rank_less, rank_full, rank_zero}
use Rattle.model.proofs.Rules.{may_use, may_inside, finished_use, finished_not}
use Rattle.model.proofs.Invariants.{Inv, moves, may_phase, inv_bump, inv_start}
use Rattle.model.proofs.Suited.{Suited}
use Rattle.model.proofs.Progress.{progress}

module _ (S : Scenario) where
  pub after_append : (s : State) (ts us : List Step) → after S s (ts ++ us) ≡ after S (after S s ts) us
  unfolding after
  after_append s [] us = refl
  after_append s (t ∷ ts) us = after_append (next S s t) ts us

  module _ (c : Channel) where
    pub order_append : (s : State) (ts us : List Step) → is_order_from S c s ts ≡ true → is_order_from S c (after S s ts) us ≡ true
        → is_order_from S c s (ts ++ us) ≡ true
    unfolding after is_order_from
    order_append s [] us p q = q
    order_append s (t ∷ ts) us p q =
        and_both (allowed S c s t) (is_order_from S c (next S s t) (ts ++ us)) (and_left (allowed S c s t) (is_order_from S c (next S s t) ts) p)
        (order_append (next S s t) ts us (and_right (allowed S c s t) (is_order_from S c (next S s t) ts) p) q)

    -- the steps behind an order are an order in the state that it leaves
    pub order_rest : (s : State) (ts us : List Step) → is_order_from S c s (ts ++ us) ≡ true → is_order_from S c (after S s ts) us ≡ true
    unfolding after is_order_from
    order_rest s [] us p = p
    order_rest s (t ∷ ts) us p = order_rest (next S s t) ts us (and_right (allowed S c s t) (is_order_from S c (next S s t) (ts ++ us)) p)

    module _ (C : Causal S) where
      -- what an order reaches: a state of phases that the invariants hold of, its rank grown by the number of steps
      pub record Reached (s : State) (from : ℕ) (ts : List Step) : Type 0 where
        pub phases : ℕ → ℕ
        pub state : after S s ts ≡ view S phases
        pub inv : Inv S C c phases
        pub grown : rank S.count phases ≡ from + length ts

      reached : (ts : List Step) (φ : ℕ → ℕ) → Inv S C c φ → is_order_from S c (view S φ) ts ≡ true → Reached (view S φ) (rank S.count φ) ts
      unfolding after is_order_from
      reached [] φ I o = record { phases = φ; state = refl; inv = I; grown = omega arith }
      reached (t ∷ ts) φ I o =
          let M = may_use S φ c C t (and_left (allowed S c (view S φ) t) (is_order_from S c (next S (view S φ) t) ts) o) in
          let step : next S (view S φ) t ≡ view S (bump φ (message_of_step t)) = view_next S φ t (may_phase S C c φ t M) in
          let rest : is_order_from S c (next S (view S φ) t) ts ≡ true = and_right (allowed S c (view S φ) t) (is_order_from S c (next S (view S φ) t) ts) o in
          let R =
          reached ts (bump φ (message_of_step t)) (inv_bump S C c φ I (message_of_step t) (moves S C c φ t M))
          (subst (λ (s : State). is_order_from S c s ts ≡ true) step rest) in
          record {
            phases = R.phases;
            state = subst⁻¹ (λ (s : State). after S s ts ≡ view S R.phases) step R.state;
            inv = R.inv;
            grown = omega (arith, R.grown, rank_bump S.count φ (message_of_step t) (may_inside S φ c C t M));
          }

      pub reached_from_start : (ts : List Step) → IsOrder S c ts → Reached start 0 ts
      reached_from_start ts o =
          let at : is_order_from S c (view S (λ m. 0)) ts ≡ true = subst (λ (s : State). is_order_from S c s ts ≡ true) (view_start S) o in
          let R = reached ts (λ m. 0) (inv_start S C c) at in
          record {
            phases = R.phases;
            state = subst⁻¹ (λ (s : State). after S s ts ≡ view S R.phases) (view_start S) R.state;
            inv = R.inv;
            grown = omega (arith, R.grown, rank_zero S.count);
          }

      -- no order is longer than three steps a message, and one that finishes is just so long
      pub none_longer_holds : (ts : List Step) → IsOrder S c ts → length ts ≤ 3 * S.count
      none_longer_holds ts o =
          let R = reached_from_start ts o in
          omega (arith, R.grown, rank_most S.count R.phases R.inv.most)

      pub finished_length_holds : (ts : List Step) → EndsFinished S c ts → length ts ≡ 3 * S.count
      finished_length_holds ts E =
          let R = reached_from_start ts E.is_order in
          let f : finished S (view S R.phases) ≡ true = subst (λ (s : State). finished S s ≡ true) R.state E.is_finished in
          let full : rank S.count R.phases ≡ 3 * S.count =
          rank_full S.count R.phases (λ m l. omega (arith, finished_use S R.phases f m l, R.inv.most m)) in
          omega (arith, R.grown)

      -- Without a race every order can be carried on until all is consumed.
      module _ (r : RaceRule) (U : Suited S C c r) (none : (e : ℕ) (x : Event) → e < S.count → is_race S r e x ≡ true → ⊥) where
        -- the phases of an undone event's message are short of three
        short : (φ : ℕ → ℕ) (x : Event) → done_at φ x ≡ false → φ (message_of x) < 3
        unfolding message_of
        short φ (send_of m) u = omega (arith, leb-false 1 (φ m) u)
        short φ (receive_of m) u = leb-false 3 (φ m) u

        -- steps that an order goes on with, from a state, until all is consumed
        Rest : State → Type 0
        Rest s = (more : List Step) × (is_order_from S c s more ≡ true) × (finished S (after S s more) ≡ true)

        rest_none : (s : State) → finished S s ≡ true → Rest s
        unfolding Rest is_order_from after
        rest_none s t = ([], refl, t)

        rest_step : (s : State) (t : Step) → allowed S c s t ≡ true → Rest (next S s t) → Rest s
        unfolding Rest is_order_from after
        rest_step s t a m = (t ∷ m.0, and_both (allowed S c s t) (is_order_from S c (next S s t) m.0) a m.1, m.2)

        carried_on : (fuel : ℕ) (φ : ℕ → ℕ) → Inv S C c φ → 3 * S.count ≤ fuel + rank S.count φ → Rest (view S φ)
        carried_on zero φ I l =
            ⊎_elim (rest_none (view S φ))
            (λ (f : finished S (view S φ) ≡ false).
            let u = finished_not S φ f in
            absurd (omega (arith, rank_less S.count φ I.most (message_of u.0) u.1 (short φ u.0 u.2))))
            (which (finished S (view S φ)))
        carried_on (suc fuel) φ I l =
            ⊎_elim (rest_none (view S φ))
            (λ (f : finished S (view S φ) ≡ false).
            let p = progress S C c φ I r U none f in
            let t = p.0 in
            let M = may_use S φ c C t p.1 in
            rest_step (view S φ) t p.1
            (subst⁻¹ Rest (view_next S φ t (may_phase S C c φ t M))
            (carried_on fuel (bump φ (message_of_step t)) (inv_bump S C c φ I (message_of_step t) (moves S C c φ t M))
            (omega (arith, rank_bump S.count φ (message_of_step t) (may_inside S φ c C t M))))))
            (which (finished S (view S φ)))

        pub can_finish : (ts : List Step) → IsOrder S c ts → CanFinish S c ts
        unfolding Rest
        can_finish ts o =
            let R = reached_from_start ts o in
            let m = carried_on (3 * S.count) R.phases R.inv (omega arith) in (
              m.0,
              record {
                is_order = order_append start ts m.0 o (subst⁻¹ (λ (s : State). is_order_from S c s m.0 ≡ true) R.state m.1);
                is_finished =
                    subst⁻¹ (λ (s : State). finished S s ≡ true) (after_append start ts m.0)
                    (subst⁻¹ (λ (s : State). finished S (after S s m.0) ≡ true) R.state m.2);
              },
            )
