-- Without a race, a state that the invariants hold of and that is not finished allows a step. Assumes nothing.
use Prim.Native.Nat.{ℕ, ◌*◌, ◌<◌, ◌≤◌}
use native.Mathlib.Omega.{arith}
use mathlib.Core.Path.{◌≡◌, refl, sym, subst}
use mathlib.Core.Logic.{◌⊎◌, inl, inr, ⊎_elim}
use mathlib.Core.Bool.{Bool, true, false, not}
use borrow.Author.Tests.{eqb-true, eq-eqb, leb-true, leb-false, le-leb, lt-leb, not-true, not-false}
use lib.Dec.{eqb, leb}
use Rattle.model.specs.Bounded.{every}
use Rattle.model.specs.Order.{Event, send_of, receive_of, number, event, message_of, Scenario, board, board_of, at_or_before}
use Rattle.model.specs.Channel.{Channel, ToSend, ToDeliver, in_order, alone}
use Rattle.model.specs.Run.{Step, send, deliver, consume, ready, allowed, finished}
use Rattle.model.specs.Race.{RaceRule, by_event, by_origin, never, origin, not_at_or_before, is_race}
use Rattle.model.proofs.Bounded.{which, not_both, not_is_true, every_at, every_not}
use Rattle.model.proofs.Events.{event_number, below_number, below_event, at_or_before_cases}
use Rattle.model.proofs.Causal.{Causal}
use Rattle.model.proofs.Least.{least_below}
use Rattle.model.proofs.Phases.{equal_or_not, done_at, view}
use Rattle.model.proofs.Rules.{Ready, Waits, ready_use, ready_not, Quiet, DeliverRule, BoardFree, finished_not, send_on, deliver_on, consume_on}
use Rattle.model.proofs.Invariants.{Single, SendInv, Inv, inv_start}
use Rattle.model.proofs.Suited.{Suited}

-- some message below n is in phase j, or none is
pub in_phase : (n j : ℕ) (φ : ℕ → ℕ) → ((k : ℕ) × (k < n) × (φ k ≡ j)) ⊎ ((k : ℕ) → k < n → φ k ≡ j → ⊥)
in_phase n j φ =
    ⊎_elim
    (λ (t : every n (λ k. not (eqb (φ k) j)) ≡ true).
    inr (λ k l p. not_both (eqb (φ k) j) (eq-eqb (φ k) j p) (not-true (eqb (φ k) j) (every_at n (λ i. not (eqb (φ i) j)) t k l))))
    (λ (f : every n (λ k. not (eqb (φ k) j)) ≡ false).
    let r = every_not n (λ i. not (eqb (φ i) j)) f in
    inl (r.0, r.1, eqb-true (φ r.0) j (not-false (eqb (φ r.0) j) r.2)))
    (which (every n (λ k. not (eqb (φ k) j))))

module _ (S : Scenario) (C : Causal S) where
  -- an event that passes a test has a least one that does, in the causal order
  pub record LeastEvent (p : Event → Bool) (y : Event) : Type 0 where
    pub inside : message_of y < S.count
    pub passes : p y ≡ true
    pub least : (z : Event) → S.before z y ≡ true → p z ≡ true → ⊥

  pub least_event : (p : Event → Bool) (x : Event) → message_of x < S.count → p x ≡ true → (y : Event) × LeastEvent p y
  least_event p x l t =
      let at : p (event (number x)) ≡ true = subst (λ (z : Event). p z ≡ true) (sym (event_number x)) t in
      let r =
      least_below (λ k. p (event k)) (λ i j. S.before (event i) (event j)) (λ i j k. C.trans (event i) (event j) (event k))
      (λ i. C.irreflexive (event i)) (2 * S.count) (number x) ((below_number x S.count).0 l) at in
      let y = event r.0 in (
        y,
        record {
          inside = below_event r.0 S.count r.1.below;
          passes = r.1.passes;
          least = λ z b q.
              r.1.least (number z) ((below_number z S.count).0 (C.inside z y b).0)
              (subst (λ (w : Event). p w ≡ true) (sym (event_number z)) q)
              (subst (λ (w : Event). S.before w y ≡ true) (sym (event_number z)) b);
        },
      )

  module _ (c : Channel) (φ : ℕ → ℕ) (I : Inv S C c φ) where
    -- of the messages under way one may be delivered, as far as the channel's order goes
    pub deliverable : (r : ToDeliver) → (r ≡ alone → Single S φ) → (m : ℕ) → m < S.count → φ m ≡ 1
        → (f : ℕ) × (f < S.count) × (φ f ≡ 1) × DeliverRule S φ r f
    deliverable ToDeliver.always single m l p = (m, l, p, tt)
    deliverable alone single m l p = (m, l, p, λ f k d q. d (single refl f m q p))
    deliverable in_order single m l p =
        let r =
        least_below (λ k. eqb (φ k) 1) (λ i j. S.before (send_of i) (send_of j)) (λ i j k. C.trans (send_of i) (send_of j) (send_of k))
        (λ i. C.irreflexive (send_of i)) S.count m l (eq-eqb (φ m) 1 p) in
        (r.0, r.1.below, eqb-true (φ r.0) 1 r.1.passes, λ f k d q t b. r.1.least f k (eq-eqb (φ f) 1 q) b)

    -- a buffer that holds nothing is empty, on an eager channel; on a lazy one nothing is asked
    abbrev pub Clear : Type 0
    Clear = c.eager ≡ true → (k : ℕ) → k < S.count → φ k ≡ 2 → ⊥

    clear_board : Clear → (b : ℕ) → BoardFree S φ c b
    clear_board h b e k l t p = h e k l p

    pub deliver_some : Clear → (c.to_deliver ≡ alone → Single S φ) → (m : ℕ) → m < S.count → φ m ≡ 1
        → (f : ℕ) × (allowed S c (view S φ) (deliver f) ≡ true)
    deliver_some h single m l p =
        let r = deliverable c.to_deliver single m l p in
        (r.0, deliver_on S φ c C r.0 (record { inside = r.1; under_way = r.2; free = clear_board h (S.target r.0); rule = r.3 }))

    -- the events before a least undone one are done
    least_ready : (p : Event → Bool) (y : Event) → done_at φ y ≡ false → LeastEvent p y
        → ((z : Event) → S.before z y ≡ true → done_at φ z ≡ false → p z ≡ true) → Ready S C φ y
    least_ready p y u L back =
        record {
          undone = u;
          earlier = λ z b e. ⊎_elim (λ d. d) (λ (f : done_at φ z ≡ false). absurd (L.least z b (back z b f))) (which (done_at φ z));
        }

    -- a least undone event of those that pass a test, closed downwards: a send that may go, or the receive of a message
    -- under way or held
    pub least_moves : (p : Event → Bool) (y : Event) → done_at φ y ≡ false → LeastEvent p y
        → ((z : Event) → S.before z y ≡ true → done_at φ z ≡ false → p z ≡ true) → Clear → (Quiet S φ ⊎ (c.to_send ≡ ToSend.always))
        → ((g : ℕ) × (y ≡ send_of g) × (allowed S c (view S φ) (send g) ≡ true))
        ⊎ ((g : ℕ) × (y ≡ receive_of g) × (g < S.count) × ((φ g ≡ 1) ⊎ (allowed S c (view S φ) (consume g) ≡ true)))
    unfolding message_of
    least_moves p (send_of g) u L back h q =
        inl (g, refl, send_on S φ c C g L.inside (least_ready p (send_of g) u L back) (clear_board h (S.source g)) q)
    least_moves p (receive_of g) u L back h q =
        let low : φ g < 3 = leb-false 3 (φ g) u in
        let sent : 1 ≤ φ g = leb-true 1 (φ g) (least_ready' (which (leb 1 (φ g)))) in
        inr (
          g,
          refl,
          L.inside,
          ⊎_elim (λ (e : φ g ≡ 1). inl e) (λ (n : φ g ≡ 1 → ⊥).
              inr (consume_on S φ c C g (record { inside = L.inside; held = omega arith; ready = least_ready p (receive_of g) u L back })))
              (equal_or_not (φ g) 1),
        )
      where
        own : S.before (send_of g) (receive_of g) ≡ true
        own = C.own g L.inside

        least_ready' : (leb 1 (φ g) ≡ true) ⊎ (leb 1 (φ g) ≡ false) → leb 1 (φ g) ≡ true
        least_ready' (inl t) = t
        least_ready' (inr f) = absurd (L.least (send_of g) own (back (send_of g) own f))

    module _ (r : RaceRule) (U : Suited S C c r) where
      pub single_alone : c.to_deliver ≡ alone → Single S φ
      single_alone e = (subst (λ (s : ToSend). SendInv S φ s) (U.ring e) I.sends).1

      -- an event not done is not at or before one that is
      pub undone_above : (y x : Event) → done_at φ y ≡ false → done_at φ x ≡ true → at_or_before S y x ≡ false
      undone_above y x u d =
          ⊎_elim
          (λ (t : at_or_before S y x ≡ true).
          ⊎_elim
          (λ (e : y ≡ x). not_both (done_at φ x) d (subst (λ (z : Event). done_at φ z ≡ false) e u))
          (λ (b : S.before y x ≡ true). not_both (done_at φ y) (I.closed y x b d) u)
          (at_or_before_cases S y x t))
          (λ f. f)
          (which (at_or_before S y x))

      -- what a held message waits for races with it
      waits_outside : (q : RaceRule) → (q ≡ never → ⊥) → (c.eager ≡ true)
          → (q ≡ by_origin → (e g : ℕ) → φ e ≡ 2 → S.target g ≡ S.target e → S.before (send_of g) (send_of e) ≡ true → φ g ≡ 1 → ⊥)
          → (e : ℕ) → φ e ≡ 2 → (y : Event) → Waits S C φ (receive_of e) y → not_at_or_before S q e y ≡ true
      unfolding not_at_or_before origin board_of
      waits_outside never n v settled e p y W = absurd (n refl)
      waits_outside by_event n v settled e p y W =
          not_is_true (at_or_before S y (send_of e)) (undone_above y (send_of e) W.undone (le-leb 1 (φ e) (omega arith)))
      waits_outside by_origin n v settled e p (send_of g) W =
          not_is_true (at_or_before S (send_of g) (send_of e)) (undone_above (send_of g) (send_of e) W.undone (le-leb 1 (φ e) (omega arith)))
      waits_outside by_origin n v settled e p (receive_of g) W =
          ⊎_elim
          (λ (t : at_or_before S (send_of g) (send_of e) ≡ true).
          ⊎_elim
          (λ (i : send_of g ≡ send_of e). let k : g ≡ e = cc in absurd (other k))
          (λ (b : S.before (send_of g) (send_of e) ≡ true).
          let sent : 1 ≤ φ g = leb-true 1 (φ g) (I.closed (send_of g) (send_of e) b (le-leb 1 (φ e) (omega arith))) in
          let low : φ g < 3 = leb-false 3 (φ g) W.undone in
          let passed : φ g ≡ 1 → ⊥ = settled refl e g p W.on_board b in
          absurd (other (I.one_held v g e (omega arith) p W.on_board)))
          (at_or_before_cases S (send_of g) (send_of e) t))
          (λ f. not_is_true (at_or_before S (send_of g) (send_of e)) f)
          (which (at_or_before S (send_of g) (send_of e)))
        where
          other : g ≡ e → ⊥
          other k = C.irreflexive (receive_of e) (subst (λ (i : ℕ). S.before (receive_of i) (receive_of e) ≡ true) k W.is_before)

      waits_races : (c.eager ≡ true) → (e : ℕ) → φ e ≡ 2 → (y : Event) → Waits S C φ (receive_of e) y → is_race S r e y ≡ true
      unfolding is_race board_of
      waits_races v e p y W =
          rw (
            eq-eqb (board S y) (S.target e) W.on_board,
            W.is_before,
            waits_outside r (U.eager v) v (λ o. U.settled o φ I) e p y W,
          )

      -- what a held message does on an eager channel: it may be consumed, or it races
      pub held_moves : (c.eager ≡ true) → (e : ℕ) → e < S.count → φ e ≡ 2
          → (allowed S c (view S φ) (consume e) ≡ true) ⊎ ((y : Event) × Waits S C φ (receive_of e) y × (is_race S r e y ≡ true))
      held_moves v e l p =
          ⊎_elim
          (λ (t : ready S (view S φ) (receive_of e) ≡ true). inl (consume_on S φ c C e (record { inside = l; held = p; ready = ready_use S C φ (receive_of e) t })))
          (λ (f : ready S (view S φ) (receive_of e) ≡ false).
          let w = ready_not S C φ (receive_of e) (lt-leb 3 (φ e) (omega arith)) f in
          inr (w.0, w.1, waits_races v e p w.0 w.1))
          (which (ready S (view S φ) (receive_of e)))

      -- with clear buffers a step is allowed, unless all is done
      clear_moves : Clear → finished S (view S φ) ≡ false → (t : Step) × (allowed S c (view S φ) t ≡ true)
      clear_moves h f =
          ⊎_elim
          (λ (w : (k : ℕ) × (k < S.count) × (φ k ≡ 1)).
          let d = deliver_some h single_alone w.0 w.1 w.2 in
          (deliver d.0, d.1))
          (λ (q : Quiet S φ).
          let u = finished_not S φ f in
          let y = least_event (λ z. not (done_at φ z)) u.0 u.1 (not_is_true (done_at φ u.0) u.2) in
          ⊎_elim
          (λ s. (send s.0, s.2))
          (λ s. ⊎_elim (λ (e : φ s.0 ≡ 1). absurd (q s.0 s.2 e)) (λ a. (consume s.0, a)) s.3)
          (least_moves (λ z. not (done_at φ z)) y.0 (not-true (done_at φ y.0) y.1.passes) y.1
          (λ z b n. not_is_true (done_at φ z) n) h (inl q)))
          (in_phase S.count 1 φ)

      -- no race: some step is allowed, unless all is done
      pub progress : ((e : ℕ) (x : Event) → e < S.count → is_race S r e x ≡ true → ⊥) → finished S (view S φ) ≡ false
          → (t : Step) × (allowed S c (view S φ) t ≡ true)
      progress none f =
          ⊎_elim
          (λ (v : c.eager ≡ true).
          ⊎_elim
          (λ (w : (k : ℕ) × (k < S.count) × (φ k ≡ 2)).
          ⊎_elim
          (λ a. (consume w.0, a))
          (λ (s : (y : Event) × Waits S C φ (receive_of w.0) y × (is_race S r w.0 y ≡ true)). absurd (none w.0 s.0 w.1 s.2))
          (held_moves v w.0 w.1 w.2))
          (λ (h : (k : ℕ) → k < S.count → φ k ≡ 2 → ⊥). clear_moves (λ e. h) f)
          (in_phase S.count 2 φ))
          (λ (l : c.eager ≡ false). clear_moves (λ e. not_both c.eager e l) f)
          (which c.eager)

-- at the start of a scenario with messages the least event is a send, and it may go
pub start_moves : (S : Scenario) (C : Causal S) (c : Channel) → 0 < S.count → (t : Step) × (allowed S c (view S (λ m. 0)) t ≡ true)
unfolding message_of
start_moves S C c l =
    let first = least_event S C (λ y. true) (send_of 0) l refl in
    ⊎_elim (λ s. (send s.0, s.2)) (λ s. ⊎_elim (λ (e : 0 ≡ 1). absurd (omega (arith, e))) (λ a. (consume s.0, a)) s.3)
    (least_moves S C c (λ m. 0) (inv_start S C c) (λ y. true) first.0 (undone first.0) first.1 (λ z b u. refl) (λ e k h p. omega (arith, p)) (inl (λ f h p. omega (arith, p))))
  where
    undone : (y : Event) → done_at (λ m. 0) y ≡ false
    undone (send_of m) = refl
    undone (receive_of m) = refl
