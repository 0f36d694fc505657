-- What holds of every state that an allowed order reaches, by rule and not by code: shown at the start and for one message
-- moved one phase on. Assumes nothing.
use Prim.Native.Nat.{ℕ, suc, ◌<◌, ◌≤◌}
use native.Mathlib.Omega.{arith}
use mathlib.Core.Path.{◌≡◌, refl, sym, ◌∙◌, ap, subst}
use mathlib.Core.Logic.{◌⊎◌, inl, inr, ⊎_elim}
use mathlib.Core.Bool.{true, false}
use borrow.Author.Tests.{leb-true, leb-false, le-leb}
use Rattle.model.specs.Order.{Event, send_of, receive_of, Scenario, board, at_or_before}
use Rattle.model.specs.Channel.{Channel, ToSend, ToDeliver, no_earlier_under_way, channel_empty, in_order, alone}
use Rattle.model.specs.Run.{Step, send, deliver, consume}
use Rattle.model.specs.Schedule.{kind_of, message_of_step}
use Rattle.model.proofs.Bounded.{which, not_both}
use Rattle.model.proofs.Events.{at_or_before_cases}
use Rattle.model.proofs.Causal.{Causal}
use Rattle.model.proofs.Phases.{equal_or_not, done_at, bump, bump_other, bump_cases}
use Rattle.model.proofs.Rules.{Ready, SendRule, DeliverRule, MaySend, MayDeliver, MayConsume, May}

module _ (S : Scenario) where
  module _ (φ : ℕ → ℕ) where
    -- a message sent has no message under way whose send is before its own
    abbrev pub Passed : Type 0
    Passed = (e g : ℕ) → 1 ≤ φ e → S.before (send_of g) (send_of e) ≡ true → φ g ≡ 1 → ⊥

    -- at most one message is under way
    abbrev pub Single : Type 0
    Single = (k m : ℕ) → φ k ≡ 1 → φ m ≡ 1 → k ≡ m

    -- a message delivered has none under way to its board whose send is before its own
    abbrev pub Delivered : Type 0
    Delivered =
        (e g : ℕ) → 2 ≤ φ e → S.target g ≡ S.target e → S.before (send_of g) (send_of e) ≡ true → φ g ≡ 1 → ⊥

    abbrev pub SendInv : ToSend → Type 0
    SendInv ToSend.always = Unit {0}
    SendInv no_earlier_under_way = Passed
    SendInv channel_empty = Passed × Single

    abbrev pub DeliverInv : ToDeliver → Type 0
    DeliverInv ToDeliver.always = Unit {0}
    DeliverInv in_order = Delivered
    DeliverInv alone = Unit {0}

  module _ (C : Causal S) (c : Channel) where
    pub record Inv (φ : ℕ → ℕ) : Type 0 where
      pub most : (m : ℕ) → φ m ≤ 3
      pub inside : (m : ℕ) → 1 ≤ φ m → m < S.count
      -- the events done are closed downwards
      pub closed : (x y : Event) → S.before x y ≡ true → done_at φ y ≡ true → done_at φ x ≡ true
      -- an eager board's buffer holds at most one message
      pub one_held : c.eager ≡ true → (k m : ℕ) → φ k ≡ 2 → φ m ≡ 2 → S.target k ≡ S.target m → k ≡ m
      pub sends : SendInv φ c.to_send
      pub delivers : DeliverInv φ c.to_deliver

    -- message m may move one phase on, by the rule of the phase that it is in
    pub record Moves (φ : ℕ → ℕ) (m : ℕ) : Type 0 where
      pub inside : m < S.count
      pub phase : φ m ≤ 2
      pub sent : φ m ≡ 0 → MaySend S φ c C m
      pub delivered : φ m ≡ 1 → MayDeliver S φ c C m
      pub consumed : φ m ≡ 2 → MayConsume S φ c C m

    unsent : (φ : ℕ → ℕ) (m : ℕ) → MaySend S φ c C m → φ m ≡ 0
    unsent φ m h = let l : φ m < 1 = leb-false 1 (φ m) h.ready.undone in omega arith

    pub may_phase : (φ : ℕ → ℕ) (t : Step) → May S φ c C t → φ (message_of_step t) ≡ kind_of t
    may_phase φ (send m) h = unsent φ m h
    may_phase φ (deliver m) h = h.under_way
    may_phase φ (consume m) h = h.held

    pub moves : (φ : ℕ → ℕ) (t : Step) → May S φ c C t → Moves φ (message_of_step t)
    moves φ (send m) h =
        let p = unsent φ m h in
        record { inside = h.inside; phase = omega arith; sent = λ e. h; delivered = λ e. absurd (omega arith); consumed = λ e. absurd (omega arith) }
    moves φ (deliver m) h =
        let p = h.under_way in
        record { inside = h.inside; phase = omega arith; sent = λ e. absurd (omega arith); delivered = λ e. h; consumed = λ e. absurd (omega arith) }
    moves φ (consume m) h =
        let p = h.held in
        record { inside = h.inside; phase = omega arith; sent = λ e. absurd (omega arith); delivered = λ e. absurd (omega arith); consumed = λ e. h }

    pub inv_start : Inv (λ m. 0)
    inv_start =
        record {
          most = λ m. omega arith;
          inside = λ m l. absurd (omega arith);
          closed = λ x y b d. absurd (none y d);
          one_held = λ e k m p q r. absurd (omega arith);
          sends = sends₀ c.to_send;
          delivers = delivers₀ c.to_deliver;
        }
      where
        none : (y : Event) → done_at (λ m. 0) y ≡ true → ⊥
        none (send_of m) d = not_both false d refl
        none (receive_of m) d = not_both false d refl

        sends₀ : (r : ToSend) → SendInv (λ m. 0) r
        sends₀ ToSend.always = tt
        sends₀ no_earlier_under_way = λ e g l b p. omega arith
        sends₀ channel_empty = (λ e g l b p. omega arith, λ k m p q. absurd (omega arith))

        delivers₀ : (r : ToDeliver) → DeliverInv (λ m. 0) r
        delivers₀ ToDeliver.always = tt
        delivers₀ in_order = λ e g l u b p. omega arith
        delivers₀ alone = tt

    -- One message more: m moves from a state that the invariants hold of.
    module _ (φ : ℕ → ℕ) (I : Inv φ) (m : ℕ) (M : Moves φ m) where
      -- phases only grow
      grows : (j k : ℕ) → j ≤ φ k → j ≤ bump φ m k
      grows j k l = ⊎_elim (λ e. omega (arith, ap φ e.0, e.1)) (λ e. omega (arith, e.1)) (bump_cases φ m k)

      -- what is done stays done
      done_stays : (x : Event) → done_at φ x ≡ true → done_at (bump φ m) x ≡ true
      done_stays (send_of k) d = le-leb 1 (bump φ m k) (grows 1 k (leb-true 1 (φ k) d))
      done_stays (receive_of k) d = le-leb 3 (bump φ m k) (grows 3 k (leb-true 3 (φ k) d))

      -- an event newly done is the send of m, or its receive
      pub newly_is : (y : Event) → done_at φ y ≡ false → done_at (bump φ m) y ≡ true
          → ((y ≡ send_of m) × (φ m ≡ 0)) ⊎ ((y ≡ receive_of m) × (φ m ≡ 2))
      newly_is (send_of k) u d =
          let low : φ k < 1 = leb-false 1 (φ k) u in
          let high : 1 ≤ bump φ m k = leb-true 1 (bump φ m k) d in
          ⊎_elim
          (λ (e : (k ≡ m) × (bump φ m k ≡ suc (φ m))). inl (ap send_of e.0, omega (arith, ap φ e.0)))
          (λ (e : (k ≡ m → ⊥) × (bump φ m k ≡ φ k)). absurd (omega (arith, e.1)))
          (bump_cases φ m k)
      newly_is (receive_of k) u d =
          let low : φ k < 3 = leb-false 3 (φ k) u in
          let high : 3 ≤ bump φ m k = leb-true 3 (bump φ m k) d in
          ⊎_elim
          (λ (e : (k ≡ m) × (bump φ m k ≡ suc (φ m))). inr (ap receive_of e.0, omega (arith, ap φ e.0, e.1)))
          (λ (e : (k ≡ m → ⊥) × (bump φ m k ≡ φ k)). absurd (omega (arith, e.1)))
          (bump_cases φ m k)

      -- it was ready, and a receive newly done had its send done
      newly : (y : Event) → done_at φ y ≡ false → done_at (bump φ m) y ≡ true
          → Ready S C φ y × ((k : ℕ) → y ≡ receive_of k → done_at φ (send_of k) ≡ true)
      newly y u d =
          ⊎_elim
          (λ (e : (y ≡ send_of m) × (φ m ≡ 0)).
          let at : y ≡ send_of m = e.0 in (
            subst (λ (z : Event). Ready S C φ z) (sym at) (M.sent e.1).ready,
            λ k i. (let z : ◌≡◌ {A = ℕ} 0 1 = cc in absurd (omega arith)),
          ))
          (λ (e : (y ≡ receive_of m) × (φ m ≡ 2)).
          let at : y ≡ receive_of m = e.0 in
          let p : φ m ≡ 2 = e.1 in (
            subst (λ (z : Event). Ready S C φ z) (sym at) (M.consumed p).ready,
            λ k i. (let z : m ≡ k = cc in le-leb 1 (φ k) (omega (arith, ap φ z))),
          ))
          (newly_is y u d)

      done_below : (x y : Event) → at_or_before S x y ≡ true → done_at φ y ≡ true → done_at φ x ≡ true
      done_below x y h d =
          ⊎_elim (λ e. subst (λ (z : Event). done_at φ z ≡ true) (sym e) d) (λ b. I.closed x y b d) (at_or_before_cases S x y h)

      closed_bump : (x y : Event) → S.before x y ≡ true → done_at (bump φ m) y ≡ true → done_at (bump φ m) x ≡ true
      closed_bump x y b d =
          ⊎_elim
          (λ (o : done_at φ y ≡ true). done_stays x (I.closed x y b o))
          (λ (u : done_at φ y ≡ false).
          let n = newly y u d in
          done_stays x
          (⊎_elim
          (λ (l : (z : Event) × (at_or_before S x z ≡ true) × (S.before z y ≡ true) × (board S z ≡ board S y)). done_below x l.0 l.1 (n.0.earlier l.0 l.2 l.3))
          (λ (l : (k : ℕ) × (y ≡ receive_of k) × (at_or_before S x (send_of k) ≡ true)). done_below x (send_of l.0) l.2 (n.1 l.0 l.1))
          (C.last_link x y b)))
          (which (done_at φ y))

      -- a message sent, and one before it that is not: the first would not have been ready
      sent_before : (e g : ℕ) → 1 ≤ φ e → S.before (send_of g) (send_of e) ≡ true → 1 ≤ φ g
      sent_before e g l b = leb-true 1 (φ g) (I.closed (send_of g) (send_of e) b (le-leb 1 (φ e) l))

      differ : (e g : ℕ) → S.before (send_of g) (send_of e) ≡ true → e ≡ g → ⊥
      differ e g b i = C.irreflexive (send_of g) (subst (λ (q : ℕ). S.before (send_of g) (send_of q) ≡ true) i b)

      -- the two invariants that speak of a message e and an earlier g under way go alike: g was under way before, and e moves
      -- to the phase in question, or was there
      late : (j : ℕ) → (e g : ℕ) → 1 ≤ j → j ≤ bump φ m e → S.before (send_of g) (send_of e) ≡ true → bump φ m g ≡ 1
          → (φ g ≡ 1) × ((j ≤ φ e) ⊎ ((e ≡ m) × (suc (φ m) ≡ j)))
      late j e g o l b p =
          ⊎_elim
          (λ (i : (g ≡ m) × (bump φ m g ≡ suc (φ m))).
          let k : (e ≡ m) → ⊥ = λ q. differ e g b (q ∙ sym i.0) in
          let h : bump φ m e ≡ φ e = bump_other φ m e k in
          absurd (omega (arith, sent_before e g (omega arith) b, ap φ i.0, i.1)))
          (λ (i : (g ≡ m → ⊥) × (bump φ m g ≡ φ g)). (omega (arith, i.1), where_e))
          (bump_cases φ m g)
        where
          where_e : (j ≤ φ e) ⊎ ((e ≡ m) × (suc (φ m) ≡ j))
          where_e =
              ⊎_elim
              (λ (i : (e ≡ m) × (bump φ m e ≡ suc (φ m))).
              ⊎_elim (λ (q : suc (φ m) ≡ j). inr (i.0, q)) (λ q. inl (omega (arith, ap φ i.0, i.1))) (equal_or_not (suc (φ m)) j))
              (λ (i : (e ≡ m → ⊥) × (bump φ m e ≡ φ e)). inl (omega (arith, i.1)))
              (bump_cases φ m e)

      -- a message that becomes under way, or held, is the one that moved; any other was so before
      arrives : (j k : ℕ) → bump φ m k ≡ j → ((k ≡ m) × (suc (φ m) ≡ j)) ⊎ (φ k ≡ j)
      arrives j k p =
          ⊎_elim (λ i. inl (i.0, sym i.1 ∙ p)) (λ i. inr (sym i.1 ∙ p)) (bump_cases φ m k)

      passed_bump : Passed φ → (MaySend S φ c C m → (g : ℕ) → g < S.count → φ g ≡ 1 → S.before (send_of g) (receive_of m) ≡ true → ⊥)
          → Passed (bump φ m)
      passed_bump old rule e g l b p =
          let q = late 1 e g (omega arith) l b p in
          ⊎_elim
          (λ (u : 1 ≤ φ e). old e g u b q.0)
          (λ (u : (e ≡ m) × (suc (φ m) ≡ 1)).
          let b' : S.before (send_of g) (send_of m) ≡ true = subst (λ (k : ℕ). S.before (send_of g) (send_of k) ≡ true) u.0 b in
          rule (M.sent (omega (arith, u.1))) g (I.inside g (omega (arith, q.0))) q.0
          (C.trans (send_of g) (send_of m) (receive_of m) b' (C.own m M.inside)))
          q.1

      single_bump : Single φ → (MaySend S φ c C m → (f : ℕ) → f < S.count → φ f ≡ 1 → ⊥) → Single (bump φ m)
      single_bump old rule k l p q =
          ⊎_elim
          (λ (i : (k ≡ m) × (suc (φ m) ≡ 1)).
          ⊎_elim
          (λ (j : (l ≡ m) × (suc (φ m) ≡ 1)). i.0 ∙ sym j.0)
          (λ (j : φ l ≡ 1). absurd (rule (M.sent (omega (arith, i.1))) l (I.inside l (omega arith)) j))
          (arrives 1 l q))
          (λ (i : φ k ≡ 1).
          ⊎_elim
          (λ (j : (l ≡ m) × (suc (φ m) ≡ 1)). absurd (rule (M.sent (omega (arith, j.1))) k (I.inside k (omega arith)) i))
          (λ (j : φ l ≡ 1). old k l i j)
          (arrives 1 l q))
          (arrives 1 k p)

      sends_bump : (r : ToSend) → SendInv φ r → (MaySend S φ c C m → SendRule S φ r m) → SendInv (bump φ m) r
      sends_bump ToSend.always old rule = tt
      sends_bump no_earlier_under_way old rule = passed_bump old (λ h g l p b. rule h g l p b)
      sends_bump channel_empty old rule =
          (passed_bump old.0 (λ h g l p b. rule h g l p), single_bump old.1 (λ h f l p. rule h f l p))

      delivers_bump : (r : ToDeliver) → DeliverInv φ r → (MayDeliver S φ c C m → DeliverRule S φ r m) → DeliverInv (bump φ m) r
      delivers_bump ToDeliver.always old rule = tt
      delivers_bump alone old rule = tt
      delivers_bump in_order old rule = λ e g l t b p.
          let q = late 2 e g (omega arith) l b p in
          ⊎_elim
          (λ (u : 2 ≤ φ e). old e g u t b q.0)
          (λ (u : (e ≡ m) × (suc (φ m) ≡ 2)).
          let i : e ≡ m = u.0 in
          rule (M.delivered (omega (arith, u.1))) g (I.inside g (omega (arith, q.0)))
          (λ (k : g ≡ m). differ e g b (i ∙ sym k)) q.0 (t ∙ ap S.target i)
          (subst (λ (k : ℕ). S.before (send_of g) (send_of k) ≡ true) i b))
          q.1

      one_held_bump : c.eager ≡ true → (k l : ℕ) → bump φ m k ≡ 2 → bump φ m l ≡ 2 → S.target k ≡ S.target l → k ≡ l
      one_held_bump e k l p q t =
          ⊎_elim
          (λ (i : (k ≡ m) × (suc (φ m) ≡ 2)).
          ⊎_elim
          (λ (j : (l ≡ m) × (suc (φ m) ≡ 2)). i.0 ∙ sym j.0)
          (λ (j : φ l ≡ 2). absurd ((M.delivered (omega (arith, i.1))).free e l (I.inside l (omega arith)) (sym t ∙ ap S.target i.0) j))
          (arrives 2 l q))
          (λ (i : φ k ≡ 2).
          ⊎_elim
          (λ (j : (l ≡ m) × (suc (φ m) ≡ 2)). absurd ((M.delivered (omega (arith, j.1))).free e k (I.inside k (omega arith)) (t ∙ ap S.target j.0) i))
          (λ (j : φ l ≡ 2). I.one_held e k l i j t)
          (arrives 2 l q))
          (arrives 2 k p)

      pub inv_bump : Inv (bump φ m)
      inv_bump =
          record {
            most = λ k. ⊎_elim (λ i. omega (arith, i.1, M.phase)) (λ i. omega (arith, i.1, I.most k)) (bump_cases φ m k);
            inside = λ k l.
                ⊎_elim
                (λ (i : (k ≡ m) × (bump φ m k ≡ suc (φ m))). subst (λ (q : ℕ). q < S.count) (sym i.0) M.inside)
                (λ (i : (k ≡ m → ⊥) × (bump φ m k ≡ φ k)). I.inside k (omega (arith, i.1)))
                (bump_cases φ m k);
            closed = closed_bump;
            one_held = one_held_bump;
            sends = sends_bump c.to_send I.sends (λ h. h.rule);
            delivers = delivers_bump c.to_deliver I.delivers (λ h. h.rule);
          }
