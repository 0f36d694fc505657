-- The withholding schedule for a race: until e is delivered or a board jams, only what e's send needs is sent; then a jam
-- holds, and the schedule goes on until no step is left. Assumes nothing.
use Prim.Native.Nat.{ℕ, zero, suc, ◌+◌, ◌*◌, ◌<◌, ◌≤◌}
use native.Mathlib.Omega.{arith}
use mathlib.Core.Path.{◌≡◌, refl, sym, ◌∙◌, ap, subst, subst⁻¹}
use mathlib.Core.Logic.{◌⊎◌, inl, inr, ⊎_elim}
use mathlib.Core.Bool.{Bool, true, false, not, ◌&&◌, ◌||◌}
use mathlib.Core.List.{List, [], ◌∷◌}
use mathlib.Core.Option.{Option, none, some}
use borrow.Author.Tests.{eq-eqb, eqb-true, leb-true, lt-leb, not-true}
use lib.Dec.{eqb}
use Rattle.model.specs.Bounded.{every, lowest}
use Rattle.model.specs.Order.{Event, send_of, receive_of, message_of, Scenario, board, board_of, at_or_before}
use Rattle.model.specs.Channel.{Channel, ToSend, ToDeliver}
use Rattle.model.specs.Run.{State, Step, send, deliver, consume, next, allowed, is_order_from, after, finished, stuck}
use Rattle.model.specs.Race.{RaceRule, by_event, by_origin, never, origin, not_at_or_before, is_race}
use Rattle.model.specs.Schedule.{
  message_of_step,
  Class,
  any_consume,
  delivery_of,
  needed_delivery,
  needed_send,
  any_delivery,
  any_send,
  classes_for,
  choose,
  schedule_from,
}
use Rattle.model.proofs.Bounded.{and_left, and_right, and_both, which, not_both, not_is_true, every_at, every_not, Found, lowest_found}
use Rattle.model.proofs.Events.{at_or_before_cases, at_or_before_same, at_or_before_before}
use Rattle.model.proofs.Causal.{Causal}
use Rattle.model.proofs.Phases.{equal_or_not, done_at, bump, bump_same, bump_cases, view, view_next}
use Rattle.model.proofs.Rank.{rank, rank_bump, rank_less}
use Rattle.model.proofs.Rules.{implies, implies_not, finished_use, stuck_on, Waits, Quiet, DeliverRule, may_inside, may_use, deliver_on}
use Rattle.model.proofs.Invariants.{Inv, Moves, moves, may_phase, newly_is, inv_bump}
use Rattle.model.proofs.Suited.{Suited}
use Rattle.model.proofs.Progress.{in_phase, least_event, deliver_some, least_moves, Clear, single_alone, held_moves}
use Rattle.model.proofs.Jam.{Jammed, jam_inside, jam_bump}

module _ (S : Scenario) (c : Channel) where
  -- no message of the class has an allowed step
  abbrev NoneOf : Class → State → Type 0
  NoneOf k s = (m : ℕ) → m < S.count → k.takes m ≡ true → allowed S c s (k.step m) ≡ true → ⊥

  -- what is chosen is an allowed step of the first class, or what is chosen of the others where that class has none
  choose_first : (k : Class) (ks : List Class) (s : State) (P : Option Step → Type 0)
      → ((m : ℕ) → m < S.count → k.takes m ≡ true → allowed S c s (k.step m) ≡ true → P (some (k.step m)))
      → (NoneOf k s → P (choose S c ks s)) → P (choose S c (k ∷ ks) s)
  unfolding choose
  choose_first k ks s P here later = go (lowest S.count p) (lowest_found S.count p)
    where
      p : ℕ → Bool
      p m = k.takes m && allowed S c s (k.step m)

      go : (o : Option ℕ) → Found S.count p o → P (elim o [ some m ↦ some (k.step m) | none ↦ choose S c ks s ])
      go (some m) f = here m f.below (and_left (k.takes m) _ f.passes) (and_right (k.takes m) _ f.passes)
      go none f = later (λ m l t a. not_both (p m) (and_both (k.takes m) _ t a) (f m l))

  -- whatever is chosen is allowed
  Lawful : State → Option Step → Type 0
  Lawful s none = Unit {0}
  Lawful s (some t) = allowed S c s t ≡ true

  choose_allowed : (ks : List Class) (s : State) → Lawful s (choose S c ks s)
  unfolding choose Lawful
  choose_allowed [] s = tt
  choose_allowed (k ∷ ks) s = choose_first k ks s (Lawful s) (λ m l t a. a) (λ n. choose_allowed ks s)

  -- the schedule is an order, from any state
  pub schedule_order : (e fuel : ℕ) (s : State) → is_order_from S c s (schedule_from S c e fuel s) ≡ true
  unfolding schedule_from is_order_from Lawful
  schedule_order e zero s = refl
  schedule_order e (suc fuel) s = go (choose S c (classes_for S e) s) (choose_allowed (classes_for S e) s) (schedule_order e fuel)
    where
      go : (o : Option Step) → Lawful s o → ((u : State) → is_order_from S c u (schedule_from S c e fuel u) ≡ true)
          → is_order_from S c s (elim o [ none ↦ [] | some t ↦ t ∷ schedule_from S c e fuel (next S s t) ]) ≡ true
      go none a later = refl
      go (some t) a later = and_both (allowed S c s t) _ a (later (next S s t))

-- The race (e, x), on an eager channel, by the channel's rule.
module _ (S : Scenario) (C : Causal S) (c : Channel) (r : RaceRule) (U : Suited S C c r) (eager : c.eager ≡ true)
    (e : ℕ) (x : Event) (inside : e < S.count) (on_board : board S x ≡ S.target e)
    (is_before : S.before x (receive_of e) ≡ true) (outside : not_at_or_before S r e x ≡ true) where
  -- the event is at or before e's send
  abbrev Needed : Event → Type 0
  Needed y = at_or_before S y (send_of e) ≡ true

  -- e is not delivered, and nothing was done that e's send does not need: no other send, and where races go by the event
  -- itself no delivery of another message either
  pub record Withheld (φ : ℕ → ℕ) : Type 0 where
    pub early : φ e ≤ 1
    pub sends : (m : ℕ) → 1 ≤ φ m → Needed (send_of m)
    pub receives : r ≡ by_event → (m : ℕ) → 2 ≤ φ m → Needed (receive_of m)

  -- what is before a needed event is needed
  needed_below : (z y : Event) → S.before z y ≡ true → Needed y → Needed z
  needed_below z y b n =
      at_or_before_before S z (send_of e)
      (⊎_elim
      (λ i. subst (λ (w : Event). S.before z w ≡ true) i b)
      (λ h. C.trans z y (send_of e) b h)
      (at_or_before_cases S y (send_of e) n))

  needed_receive : (g : ℕ) → Needed (receive_of g) → S.before (receive_of g) (send_of e) ≡ true
  needed_receive g n =
      ⊎_elim (λ i. (let z : ◌≡◌ {A = ℕ} 0 1 = cc in absurd (omega arith))) (λ b. b) (at_or_before_cases S (receive_of g) (send_of e) n)

  -- x is not done while e's send is withheld from it
  done_needed : (φ : ℕ → ℕ) → Withheld φ → (q : RaceRule) → q ≡ r → (y : Event) → done_at φ y ≡ true → not_at_or_before S q e y ≡ true → ⊥
  unfolding not_at_or_before origin
  done_needed φ W never i y d o = not_both false o refl
  done_needed φ W by_event i (send_of g) d o = not_both _ (W.sends g (leb-true 1 (φ g) d)) (not-true (at_or_before S (send_of g) (send_of e)) o)
  done_needed φ W by_origin i (send_of g) d o = not_both _ (W.sends g (leb-true 1 (φ g) d)) (not-true (at_or_before S (send_of g) (send_of e)) o)
  done_needed φ W by_event i (receive_of g) d o =
      not_both _ (W.receives (sym i) g (omega (arith, leb-true 3 (φ g) d))) (not-true (at_or_before S (receive_of g) (send_of e)) o)
  done_needed φ W by_origin i (receive_of g) d o =
      not_both _ (W.sends g (omega (arith, leb-true 3 (φ g) d))) (not-true (at_or_before S (send_of g) (send_of e)) o)

  -- where the schedule stands: e is withheld, or a board is jammed
  abbrev pub Course : (ℕ → ℕ) → Type 0
  Course φ = Withheld φ ⊎ ((d : ℕ) × (y : Event) × Jammed S C c φ d y)

  pub course_start : Course (λ m. 0)
  course_start = inl (record { early = omega arith; sends = λ m l. absurd (omega arith); receives = λ p m l. absurd (omega arith) })

  module _ (φ : ℕ → ℕ) (I : Inv S C c φ) where
    -- some message is not consumed
    course_short : Course φ → (k : ℕ) × (k < S.count) × (φ k < 3)
    course_short (inl W) = (e, inside, omega (arith, W.early))
    course_short (inr (d, y, J)) = (d, jam_inside S C c φ I eager d y J, omega (arith, J.held))

    -- message m moves, with e withheld before: withheld behind too where m is not e's delivery, what is sent is needed and,
    -- by the event's rule, what is delivered is needed
    withheld_bump : Withheld φ → (m : ℕ) → (m ≡ e → φ m ≡ 0) → (φ m ≡ 0 → Needed (send_of m))
        → (r ≡ by_event → φ m ≡ 1 → Needed (receive_of m)) → Withheld (bump φ m)
    withheld_bump W m other sent got =
        record {
          early =
              ⊎_elim
              (λ (i : (e ≡ m) × (bump φ m e ≡ suc (φ m))). omega (arith, i.1, other (sym i.0)))
              (λ (i : (e ≡ m → ⊥) × (bump φ m e ≡ φ e)). omega (arith, i.1, W.early))
              (bump_cases φ m e);
          sends = λ k l.
              ⊎_elim
              (λ (i : (k ≡ m) × (bump φ m k ≡ suc (φ m))).
              subst (λ (j : ℕ). Needed (send_of j)) (sym i.0)
              (⊎_elim (λ (z : φ m ≡ 0). sent z) (λ (z : φ m ≡ 0 → ⊥). W.sends m (omega arith)) (equal_or_not (φ m) 0)))
              (λ (i : (k ≡ m → ⊥) × (bump φ m k ≡ φ k)). W.sends k (omega (arith, i.1)))
              (bump_cases φ m k);
          receives = λ p k l.
              ⊎_elim
              (λ (i : (k ≡ m) × (bump φ m k ≡ suc (φ m))).
              subst (λ (j : ℕ). Needed (receive_of j)) (sym i.0)
              (⊎_elim (λ (z : φ m ≡ 1). got p z) (λ (z : φ m ≡ 1 → ⊥). W.receives p m (omega (arith, i.1))) (equal_or_not (φ m) 1)))
              (λ (i : (k ≡ m → ⊥) × (bump φ m k ≡ φ k)). W.receives p k (omega (arith, i.1)))
              (bump_cases φ m k);
        }

    -- e is delivered: its board jams, for x is not done
    delivered_jams : Withheld φ → φ e ≡ 1 → Moves S C c φ e → Jammed S C c (bump φ e) e x
    unfolding board_of
    delivered_jams W p M =
        record {
          held = bump_same φ e ∙ ap suc p;
          waits = record { is_before = is_before; on_board = on_board; undone = ⊎_elim late (λ f. f) (which (done_at (bump φ e) x)) };
        }
      where
        late : done_at (bump φ e) x ≡ true → done_at (bump φ e) x ≡ false
        late d =
            ⊎_elim
            (λ (o : done_at φ x ≡ true). absurd (done_needed φ W r refl x o outside))
            (λ (u : done_at φ x ≡ false).
            ⊎_elim
            (λ (s : (x ≡ send_of e) × (φ e ≡ 0)). absurd (omega (arith, s.1)))
            (λ (s : (x ≡ receive_of e) × (φ e ≡ 2)). absurd (omega (arith, s.1)))
            (newly_is S C c φ I e M x u d))
            (which (done_at φ x))

    -- With nothing held, one of the first classes has an allowed step.
    module _ (W : Withheld φ) (empty : (k : ℕ) → k < S.count → φ k ≡ 2 → ⊥) where
      clear : Clear S C c φ I
      clear _ = empty

      undone_needed : Event → Bool
      undone_needed z = not (done_at φ z) && at_or_before S z (send_of e)

      -- the least event that e's send needs and that is not done: a send that may go, or the receive of a message under way
      least_needed : φ e ≡ 0 → (Quiet S φ ⊎ (c.to_send ≡ ToSend.always))
          → ((g : ℕ) × (g < S.count) × Needed (send_of g) × (allowed S c (view S φ) (send g) ≡ true))
          ⊎ ((g : ℕ) × (g < S.count) × (S.before (receive_of g) (send_of e) ≡ true) × (φ g ≡ 1))
      unfolding undone_needed message_of
      least_needed p q =
          let first : undone_needed (send_of e) ≡ true =
          and_both (not (done_at φ (send_of e))) (at_or_before S (send_of e) (send_of e))
          (not_is_true (done_at φ (send_of e)) (lt-leb 1 (φ e) (omega arith))) (at_or_before_same S (send_of e) (send_of e) refl) in
          let r' = least_event S C undone_needed (send_of e) inside first in
          let y = r'.0 in
          let L = r'.1 in
          let u : done_at φ y ≡ false = not-true (done_at φ y) (and_left (not (done_at φ y)) (at_or_before S y (send_of e)) L.passes) in
          let n : Needed y = and_right (not (done_at φ y)) (at_or_before S y (send_of e)) L.passes in
          ⊎_elim
          (λ (s : (g : ℕ) × (y ≡ send_of g) × (allowed S c (view S φ) (send g) ≡ true)).
          inl (s.0, subst (λ (z : Event). message_of z < S.count) s.1 L.inside, subst Needed s.1 n, s.2))
          (λ (s : (g : ℕ) × (y ≡ receive_of g) × (g < S.count) × ((φ g ≡ 1) ⊎ (allowed S c (view S φ) (consume g) ≡ true))).
          ⊎_elim
          (λ (w : φ s.0 ≡ 1). inr (s.0, s.2, needed_receive s.0 (subst Needed s.1 n), w))
          (λ (a : allowed S c (view S φ) (consume s.0) ≡ true). absurd (empty s.0 s.2 (may_use S φ c C (consume s.0) a).held))
          s.3)
          (least_moves S C c φ I undone_needed y u L (λ z b f. and_both (not (done_at φ z)) (at_or_before S z (send_of e)) (not_is_true (done_at φ z) f) (needed_below z y b n)) clear q)

      -- by the event's rule: e itself, a message whose receive e's send needs, or a send that it needs
      plain_step : r ≡ by_event
          → (allowed S c (view S φ) (deliver e) ≡ true)
          ⊎ (((g : ℕ) × (g < S.count) × (S.before (receive_of g) (send_of e) ≡ true) × (allowed S c (view S φ) (deliver g) ≡ true))
          ⊎ ((g : ℕ) × (g < S.count) × Needed (send_of g) × (allowed S c (view S φ) (send g) ≡ true)))
      plain_step i =
          ⊎_elim
          (λ (p : φ e ≡ 1). inl (delivers e inside p))
          (λ (n : φ e ≡ 1 → ⊥).
          ⊎_elim
          (λ s. inr (inr s))
          (λ (s : (g : ℕ) × (g < S.count) × (S.before (receive_of g) (send_of e) ≡ true) × (φ g ≡ 1)).
          inr (inl (s.0, s.1, s.2, delivers s.0 s.1 s.3)))
          (least_needed (omega (arith, W.early)) (inr (U.plain i).0)))
          (equal_or_not (φ e) 1)
        where
          delivers : (g : ℕ) → g < S.count → φ g ≡ 1 → allowed S c (view S φ) (deliver g) ≡ true
          delivers g l p =
              deliver_on S φ c C g (record {
                inside = l;
                under_way = p;
                free = λ v k h t. empty k h;
                rule = subst (λ (d : ToDeliver). DeliverRule S φ d g) (sym (U.plain i).1) tt;
              })

      -- by any rule: some delivery, or a send that e's send needs
      origin_step : ((g : ℕ) × (g < S.count) × (allowed S c (view S φ) (deliver g) ≡ true))
          ⊎ ((g : ℕ) × (g < S.count) × Needed (send_of g) × (allowed S c (view S φ) (send g) ≡ true))
      origin_step =
          ⊎_elim
          (λ (w : (k : ℕ) × (k < S.count) × (φ k ≡ 1)).
          let d = deliver_some S C c φ I clear (single_alone S C c φ I r U) w.0 w.1 w.2 in
          inl (d.0, (may_use S φ c C (deliver d.0) d.1).inside, d.1))
          (λ (q : Quiet S φ).
          let p : φ e ≡ 1 → ⊥ = q e inside in
          ⊎_elim
          (λ s. inr s)
          (λ (s : (g : ℕ) × (g < S.count) × (S.before (receive_of g) (send_of e) ≡ true) × (φ g ≡ 1)). absurd (q s.0 s.1 s.3))
          (least_needed (omega (arith, W.early)) (inl q)))
          (in_phase S.count 1 φ)

    -- A step chosen with e withheld, where every message held may be consumed, leaves e withheld or jams its board.
    module _ (W : Withheld φ) (consumable : (k : ℕ) → k < S.count → φ k ≡ 2 → allowed S c (view S φ) (consume k) ≡ true) where
      Leads : Option Step → Type 0
      Leads none = Unit {0}
      Leads (some t) = Course (bump φ (message_of_step t))

      consumes : (m : ℕ) → allowed S c (view S φ) (consume m) ≡ true → Course (bump φ m)
      consumes m a =
          let p : φ m ≡ 2 = (may_use S φ c C (consume m) a).held in
          inl (withheld_bump W m (λ i. absurd (omega (arith, ap φ i, W.early))) (λ z. absurd (omega arith)) (λ b z. absurd (omega arith)))

      delivers_e : (m : ℕ) → m ≡ e → allowed S c (view S φ) (deliver m) ≡ true → Course (bump φ m)
      delivers_e m i a =
          let M = may_use S φ c C (deliver m) a in
          let J =
          delivered_jams W (sym (ap φ i) ∙ M.under_way)
          (subst (λ (k : ℕ). Moves S C c φ k) i (moves S C c φ (deliver m) M)) in
          inr (e, x, subst (λ (k : ℕ). Jammed S C c (bump φ k) e x) (sym i) J)

      -- a delivery of another message, which by the event's rule e's send needs
      delivers : (m : ℕ) → (m ≡ e → ⊥) → (r ≡ by_event → Needed (receive_of m)) → allowed S c (view S φ) (deliver m) ≡ true → Course (bump φ m)
      delivers m other needed a =
          let p : φ m ≡ 1 = (may_use S φ c C (deliver m) a).under_way in
          inl (withheld_bump W m (λ i. absurd (other i)) (λ z. absurd (omega arith)) (λ b z. needed b))

      sends_needed : (m : ℕ) → Needed (send_of m) → allowed S c (view S φ) (send m) ≡ true → Course (bump φ m)
      sends_needed m n a =
          let p : φ m ≡ 0 = may_phase S C c φ (send m) (may_use S φ c C (send m) a) in
          inl (withheld_bump W m (λ i. p) (λ z. n) (λ b z. absurd (omega arith)))

      no_circle : (m : ℕ) → S.before (receive_of m) (send_of e) ≡ true → m ≡ e → ⊥
      no_circle m b i =
          C.irreflexive (send_of e)
          (C.trans (send_of e) (receive_of e) (send_of e) (C.own e inside) (subst (λ (k : ℕ). S.before (receive_of k) (send_of e) ≡ true) i b))

      withheld_leads : Leads (choose S c (classes_for S e) (view S φ))
      unfolding Leads
      withheld_leads =
          let s = view S φ in
          choose_first S c any_consume (delivery_of e ∷ needed_delivery S e ∷ needed_send S e ∷ any_delivery ∷ any_send ∷ []) s Leads
          (λ m l t a. consumes m a) (λ n₁.
          choose_first S c (delivery_of e) (needed_delivery S e ∷ needed_send S e ∷ any_delivery ∷ any_send ∷ []) s Leads
          (λ m l t a. delivers_e m (eqb-true m e t) a) (λ n₂.
          choose_first S c (needed_delivery S e) (needed_send S e ∷ any_delivery ∷ any_send ∷ []) s Leads
          (λ m l t a. delivers m (no_circle m t) (λ b. at_or_before_before S (receive_of m) (send_of e) t) a) (λ n₃.
          choose_first S c (needed_send S e) (any_delivery ∷ any_send ∷ []) s Leads
          (λ m l t a. sends_needed m t a) (λ n₄.
          let empty : (k : ℕ) → k < S.count → φ k ≡ 2 → ⊥ = λ k l p. n₁ k l refl (consumable k l p) in
          let plain : r ≡ by_event → ⊥ = λ i.
          ⊎_elim (λ a. n₂ e inside (eq-eqb e e refl) a)
          (⊎_elim (λ g. n₃ g.0 g.1 g.2 g.3) (λ g. n₄ g.0 g.1 g.2 g.3))
          (plain_step W empty i) in
          choose_first S c any_delivery (any_send ∷ []) s Leads
          (λ m l t a. delivers m (λ i. n₂ m l (eq-eqb m e i) a) (λ b. absurd (plain b)) a) (λ n₅.
          ⊎_elim (λ g. absurd (n₅ g.0 g.1 refl g.2)) (λ g. absurd (n₄ g.0 g.1 g.2 g.3)) (origin_step W empty))))))

    -- every message held may be consumed, or one of them jams its board
    settle : ((k : ℕ) → k < S.count → φ k ≡ 2 → allowed S c (view S φ) (consume k) ≡ true)
        ⊎ ((d : ℕ) × (y : Event) × Jammed S C c φ d y)
    settle =
        ⊎_elim
        (λ (t : every S.count moves_on ≡ true). inl (λ k l p. implies (eqb (φ k) 2) _ (every_at S.count moves_on t k l) (eq-eqb (φ k) 2 p)))
        (λ (f : every S.count moves_on ≡ false).
        let w = every_not S.count moves_on f in
        let u = implies_not (eqb (φ w.0) 2) (allowed S c (view S φ) (consume w.0)) w.2 in
        let p : φ w.0 ≡ 2 = eqb-true (φ w.0) 2 u.0 in
        ⊎_elim
        (λ (a : allowed S c (view S φ) (consume w.0) ≡ true). not_both (allowed S c (view S φ) (consume w.0)) a u.1)
        (λ (h : (y : Event) × Waits S C φ (receive_of w.0) y × (is_race S r w.0 y ≡ true)). inr (w.0, h.0, record { held = p; waits = h.1 }))
        (held_moves S C c φ I r U eager w.0 w.1 p))
        (which (every S.count moves_on))
      where
        moves_on : ℕ → Bool
        moves_on k = not (eqb (φ k) 2) || allowed S c (view S φ) (consume k)

    course_next : Course φ → (t : Step) → choose S c (classes_for S e) (view S φ) ≡ some t → allowed S c (view S φ) t ≡ true
        → Course (bump φ (message_of_step t))
    unfolding Leads
    course_next K t i a = ⊎_elim (λ W. ⊎_elim (λ h. on W h) jam settle) jam K
      where
        jam : (d : ℕ) × (y : Event) × Jammed S C c φ d y → Course (bump φ (message_of_step t))
        jam (d, y, J) = inr (d, y, jam_bump S C c φ I eager d y J (message_of_step t) (moves S C c φ t (may_use S φ c C t a)))

        on : Withheld φ → ((k : ℕ) → k < S.count → φ k ≡ 2 → allowed S c (view S φ) (consume k) ≡ true) → Course (bump φ (message_of_step t))
        on W h = subst (Leads W h) i (withheld_leads W h)

    -- where nothing is chosen, no step is allowed
    Stops : Option Step → Type 0
    Stops none = (t : Step) → allowed S c (view S φ) t ≡ true → ⊥
    Stops (some t) = Unit {0}

    chosen_none : Stops (choose S c (classes_for S e) (view S φ))
    unfolding Stops choose
    chosen_none =
        let s = view S φ in
        choose_first S c any_consume (delivery_of e ∷ needed_delivery S e ∷ needed_send S e ∷ any_delivery ∷ any_send ∷ []) s Stops (λ m l t a. tt) (λ n₁.
        choose_first S c (delivery_of e) (needed_delivery S e ∷ needed_send S e ∷ any_delivery ∷ any_send ∷ []) s Stops (λ m l t a. tt) (λ n₂.
        choose_first S c (needed_delivery S e) (needed_send S e ∷ any_delivery ∷ any_send ∷ []) s Stops (λ m l t a. tt) (λ n₃.
        choose_first S c (needed_send S e) (any_delivery ∷ any_send ∷ []) s Stops (λ m l t a. tt) (λ n₄.
        choose_first S c any_delivery (any_send ∷ []) s Stops (λ m l t a. tt) (λ n₅.
        choose_first S c any_send [] s Stops (λ m l t a. tt) (λ n₆. nothing n₁ n₅ n₆))))))
      where
        nothing : NoneOf S c any_consume (view S φ) → NoneOf S c any_delivery (view S φ) → NoneOf S c any_send (view S φ)
            → (t : Step) → allowed S c (view S φ) t ≡ true → ⊥
        nothing n₁ n₅ n₆ (send m) a = n₆ m (may_use S φ c C (send m) a).inside refl a
        nothing n₁ n₅ n₆ (deliver m) a = n₅ m (may_use S φ c C (deliver m) a).inside refl a
        nothing n₁ n₅ n₆ (consume m) a = n₁ m (may_use S φ c C (consume m) a).inside refl a

    course_unfinished : Course φ → finished S (view S φ) ≡ false
    course_unfinished K =
        let k = course_short K in
        ⊎_elim (λ t. absurd (omega (arith, finished_use S φ t k.0 k.1, k.2))) (λ f. f) (which (finished S (view S φ)))

    -- nothing is chosen: stuck
    course_stuck : Course φ → choose S c (classes_for S e) (view S φ) ≡ none → stuck S c (view S φ) ≡ true
    unfolding Stops
    course_stuck K i = stuck_on S c (view S φ) (course_unfinished K) (subst Stops i chosen_none)

  -- the schedule from where e is withheld or a board jammed, with fuel for all that is left: it ends stuck
  pub schedule_stuck : (fuel : ℕ) (φ : ℕ → ℕ) → Inv S C c φ → Course φ → 3 * S.count ≤ fuel + rank S.count φ
      → stuck S c (after S (view S φ) (schedule_from S c e fuel (view S φ))) ≡ true
  unfolding schedule_from after Lawful
  schedule_stuck zero φ I K l =
      let k = course_short φ I K in
      absurd (omega (arith, rank_less S.count φ I.most k.0 k.1 k.2))
  schedule_stuck (suc fuel) φ I K l = go (choose S c (classes_for S e) (view S φ)) refl (choose_allowed S c (classes_for S e) (view S φ)) (schedule_stuck fuel)
    where
      go : (o : Option Step) → choose S c (classes_for S e) (view S φ) ≡ o → Lawful S c (view S φ) (choose S c (classes_for S e) (view S φ))
          → ((ψ : ℕ → ℕ) → Inv S C c ψ → Course ψ → 3 * S.count ≤ fuel + rank S.count ψ → stuck S c (after S (view S ψ) (schedule_from S c e fuel (view S ψ))) ≡ true)
          → stuck S c (after S (view S φ) (elim o [ none ↦ [] | some t ↦ t ∷ schedule_from S c e fuel (next S (view S φ) t) ])) ≡ true
      go none i a later = course_stuck φ I K i
      go (some t) i a later =
          let allow : allowed S c (view S φ) t ≡ true = subst (Lawful S c (view S φ)) i a in
          let M = may_use S φ c C t allow in
          subst⁻¹ (λ (s : State). stuck S c (after S s (schedule_from S c e fuel s)) ≡ true) (view_next S φ t (may_phase S C c φ t M))
          (later (bump φ (message_of_step t)) (inv_bump S C c φ I (message_of_step t) (moves S C c φ t M)) (course_next φ I K t i allow)
          (omega (arith, rank_bump S.count φ (message_of_step t) (may_inside S φ c C t M))))
