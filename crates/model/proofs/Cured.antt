-- The cured order of request (i): the test is exactly the relation; it is a strict order inside the old one; what stands directly before
-- an event is on its board or is its message's send, so the rows written make up the order; and it is the loosest that is free.
-- Assumes nothing.
use Prim.Native.Nat.{ℕ, zero, suc, ◌+◌, ◌*◌, ◌<◌, ◌≤◌}
use native.Mathlib.Decide.{ℕ_discrete}
use native.Mathlib.Omega.{arith}
use mathlib.Core.Path.{◌≡◌, refl, sym, ◌∙◌, ap, subst, subst⁻¹}
use mathlib.Core.Logic.{◌⊎◌, inl, inr, ⊎_elim, ◌↔◌}
use mathlib.Core.Bool.{Bool, true, false, not, cond, ◌&&◌}
use lib.Dec.{eqb, ltb}
use borrow.Author.Tests.{eqb-true, eq-eqb, ltb-true, lt-ltb, not-true}
use Rattle.model.specs.Bounded.{any}
use Rattle.model.specs.Order.{Event, send_of, receive_of, number, event, message_of, is_own, Scenario, board, at_or_before}
use Rattle.model.specs.Cure.{is_send, Cured, own, kept, link, cured_before, is_between, is_written}
use Rattle.model.proofs.Bounded.{and_left, and_right, and_both, which, not_both, not_is_true, any_from, any_some}
use Rattle.model.proofs.Events.{event_number, own_parts, own_both, no_own_send, below_number, at_or_before_cases, at_or_before_same, at_or_before_before}
use Rattle.model.proofs.Least.{least_below}
use Rattle.model.proofs.Causal.{Causal}

-- how many numbers below n pass the test
unfoldable counted : ℕ → (ℕ → Bool) → ℕ
counted zero p = 0
counted (suc n) p = counted n p + cond (p n) 1 0

counted_most : (n : ℕ) (p q : ℕ → Bool) → ((k : ℕ) → p k ≡ true → q k ≡ true) → counted n p ≤ counted n q
unfolding counted
counted_most zero p q f = omega arith
counted_most (suc n) p q f = go (p n) (q n) (f n) (counted_most n p q f)
  where
    go : (a b : Bool) → (a ≡ true → b ≡ true) → counted n p ≤ counted n q → counted n p + cond a 1 0 ≤ counted n q + cond b 1 0
    go true true g h = omega arith
    go true false g h = not_both false (g refl) refl
    go false true g h = omega arith
    go false false g h = omega arith

-- and fewer pass one that follows from another and fails where that one passes
counted_less : (n : ℕ) (p q : ℕ → Bool) → ((k : ℕ) → p k ≡ true → q k ≡ true) → (j : ℕ) → j < n → p j ≡ false → q j ≡ true → counted n p < counted n q
unfolding counted
counted_less zero p q f j l a b = absurd (omega arith)
counted_less (suc n) p q f j l a b = go (ℕ_discrete j n) (λ h. counted_less n p q f j h a b)
  where
    there : (c d : Bool) → (c ≡ true → d ≡ true) → counted n p < counted n q → counted n p + cond c 1 0 < counted n q + cond d 1 0
    there true true g h = omega arith
    there true false g h = not_both false (g refl) refl
    there false true g h = omega arith
    there false false g h = omega arith

    here : (c d : Bool) → c ≡ false → d ≡ true → counted n p ≤ counted n q → counted n p + cond c 1 0 < counted n q + cond d 1 0
    here true d e g h = not_both true refl e
    here false true e g h = omega arith
    here false false e g h = not_both false g refl

    go : Dec (j ≡ n) → (j < n → counted n p < counted n q) → counted n p + cond (p n) 1 0 < counted n q + cond (q n) 1 0
    go (yes e) deep = here (p n) (q n) (ap p (sym e) ∙ a) (ap q (sym e) ∙ b) (counted_most n p q f)
    go (no d) deep = there (p n) (q n) (f n) (deep (omega arith))

module _ (S : Scenario) (C : Causal S) where
  -- The two cases of the test.
  pub to_send_holds : (x : Event) (m : ℕ) → S.before x (send_of m) ≡ true → cured_before S x (send_of m) ≡ true
  unfolding cured_before
  to_send_holds x m h = h

  pub from_send : (x : Event) (m : ℕ) → cured_before S x (send_of m) ≡ true → S.before x (send_of m) ≡ true
  unfolding cured_before
  from_send x m h = h

  pub to_receive : (x : Event) (m : ℕ) → m < S.count → at_or_before S x (send_of m) ≡ true → cured_before S x (receive_of m) ≡ true
  unfolding cured_before
  to_receive x m l h = and_both (ltb m S.count) (at_or_before S x (send_of m)) (lt-ltb m S.count l) h

  pub from_receive : (x : Event) (m : ℕ) → cured_before S x (receive_of m) ≡ true → (m < S.count) × (at_or_before S x (send_of m) ≡ true)
  unfolding cured_before
  from_receive x m h =
      (ltb-true m S.count (and_left (ltb m S.count) (at_or_before S x (send_of m)) h), and_right (ltb m S.count) (at_or_before S x (send_of m)) h)

  -- It lies inside the old order, is transitive, and has no circle.
  pub cured_old : (x y : Event) → cured_before S x y ≡ true → S.before x y ≡ true
  cured_old x (send_of m) h = from_send x m h
  cured_old x (receive_of m) h =
      let p = from_receive x m h in
      let b = C.own m p.0 in
      ⊎_elim
      (λ e. subst⁻¹ (λ (z : Event). S.before z (receive_of m) ≡ true) e b)
      (λ q. C.trans x (send_of m) (receive_of m) q b)
      (at_or_before_cases S x (send_of m) p.1)

  pub cured_trans : (x y z : Event) → cured_before S x y ≡ true → cured_before S y z ≡ true → cured_before S x z ≡ true
  cured_trans x y (send_of m) p q = to_send_holds x m (C.trans x y (send_of m) (cured_old x y p) (from_send y m q))
  cured_trans x y (receive_of m) p q =
      let r = from_receive y m q in
      to_receive x m r.0
      (at_or_before_before S x (send_of m)
      (⊎_elim
      (λ e. subst (λ (z : Event). S.before x z ≡ true) e (cured_old x y p))
      (λ b. C.trans x y (send_of m) (cured_old x y p) b)
      (at_or_before_cases S y (send_of m) r.1)))

  pub cured_irreflexive : (x : Event) → cured_before S x x ≡ true → ⊥
  cured_irreflexive x h = C.irreflexive x (cured_old x x h)

  pub cured_own : (x y : Event) → is_own S.count x y ≡ true → cured_before S x y ≡ true
  cured_own x y h = let p = own_parts S.count x y h in go p.0 p.1 p.2 p.3
    where
      go : (m : ℕ) → x ≡ send_of m → y ≡ receive_of m → m < S.count → cured_before S x y ≡ true
      go m a b l = rw (a, b) (to_receive (send_of m) m l (at_or_before_same S (send_of m) (send_of m) refl))

  -- So it is exactly the relation.
  cured_relation : (x y : Event) → cured_before S x y ≡ true → Cured S x y
  unfolding is_send
  cured_relation x (send_of m) h = kept refl (from_send x m h)
  cured_relation x (receive_of m) h =
      let p = from_receive x m h in
      let last : Cured S (send_of m) (receive_of m) = own (own_both S.count m p.0) in
      ⊎_elim
      (λ e. subst⁻¹ (λ (z : Event). Cured S z (receive_of m)) e last)
      (λ b. link (kept refl b) last)
      (at_or_before_cases S x (send_of m) p.1)

  kept_cured : (x y : Event) → is_send y ≡ true → S.before x y ≡ true → cured_before S x y ≡ true
  unfolding is_send
  kept_cured x (send_of m) t h = to_send_holds x m h
  kept_cured x (receive_of m) t h = not_both false t refl

  relation_cured : {x y : Event} → Cured S x y → cured_before S x y ≡ true
  relation_cured (own {x = x} {y = y} h) = cured_own x y h
  relation_cured (kept {x = x} {y = y} t h) = kept_cured x y t h
  relation_cured (link {x = x} {y = y} {z = z} p q) = cured_trans x y z (relation_cured p) (relation_cured q)

  pub cured_exact : (x y : Event) → (cured_before S x y ≡ true) ↔ Cured S x y
  cured_exact x y = (cured_relation x y, λ p. relation_cured p)

  pub cured_inside : (x y : Event) → cured_before S x y ≡ true → (message_of x < S.count) × (message_of y < S.count)
  cured_inside x y h = C.inside x y (cured_old x y h)

  -- What stands between two events.
  between_from : (x y z : Event) → cured_before S x z ≡ true → cured_before S z y ≡ true → any (2 * S.count) (is_between S x y) ≡ true
  unfolding is_between
  between_from x y z p q =
      any_from (2 * S.count) (is_between S x y) (number z) ((below_number z S.count).0 (cured_inside x z p).1)
      (rw (event_number z) (and_both (cured_before S x z) (cured_before S z y) p q))

  between_parts : (x y : Event) (k : ℕ) → is_between S x y k ≡ true → (cured_before S x (event k) ≡ true) × (cured_before S (event k) y ≡ true)
  unfolding is_between
  between_parts x y k h =
      (and_left (cured_before S x (event k)) (cured_before S (event k) y) h, and_right (cured_before S x (event k)) (cured_before S (event k) y) h)

  between_to : (x y : Event) (k : ℕ) → cured_before S x (event k) ≡ true → cured_before S (event k) y ≡ true → is_between S x y k ≡ true
  unfolding is_between
  between_to x y k p q = and_both (cured_before S x (event k)) (cured_before S (event k) y) p q

  -- an event that stands between has fewer between it and either
  fewer_before : (x y : Event) (k : ℕ) → k < 2 * S.count → is_between S x y k ≡ true
      → counted (2 * S.count) (is_between S x (event k)) < counted (2 * S.count) (is_between S x y)
  fewer_before x y k l t =
      counted_less (2 * S.count) (is_between S x (event k)) (is_between S x y)
      (λ j i.
      let p = between_parts x (event k) j i in
      between_to x y j p.0 (cured_trans (event j) (event k) y p.1 (between_parts x y k t).1))
      k l
      (fails (is_between S x (event k) k) (λ i. cured_irreflexive (event k) (between_parts x (event k) k i).1))
      t
    where
      fails : (b : Bool) → (b ≡ true → ⊥) → b ≡ false
      fails true f = absurd (f refl)
      fails false f = refl

  fewer_behind : (x y : Event) (k : ℕ) → k < 2 * S.count → is_between S x y k ≡ true
      → counted (2 * S.count) (is_between S (event k) y) < counted (2 * S.count) (is_between S x y)
  fewer_behind x y k l t =
      counted_less (2 * S.count) (is_between S (event k) y) (is_between S x y)
      (λ j i.
      let p = between_parts (event k) y j i in
      between_to x y j (cured_trans x (event k) (event j) (between_parts x y k t).0 p.0) p.1)
      k l
      (fails (is_between S (event k) y k) (λ i. cured_irreflexive (event k) (between_parts (event k) y k i).0))
      t
    where
      fails : (b : Bool) → (b ≡ true → ⊥) → b ≡ false
      fails true f = absurd (f refl)
      fails false f = refl

  -- What stands directly before a send is on its board: of the events of that board that x is at or before, and that are before the send,
  -- a least one is x; else it, or its own send, would stand between.
  module _ (x : Event) (m : ℕ) (h : S.before x (send_of m) ≡ true) (alone : any (2 * S.count) (is_between S x (send_of m)) ≡ false) where
    abbrev on_way : ℕ → Bool
    on_way k = at_or_before S x (event k) && S.before (event k) (send_of m) && eqb (board S (event k)) (board S (send_of m))

    on_way_holds : (z : Event) → at_or_before S x z ≡ true → S.before z (send_of m) ≡ true → board S z ≡ board S (send_of m) → on_way (number z) ≡ true
    on_way_holds z p q e =
        rw (event_number z)
        (and_both (at_or_before S x z && S.before z (send_of m)) (eqb (board S z) (board S (send_of m)))
        (and_both (at_or_before S x z) (S.before z (send_of m)) p q) (eq-eqb (board S z) (board S (send_of m)) e))

    not_between : (z : Event) → cured_before S x z ≡ true → S.before z (send_of m) ≡ true → ⊥
    not_between z p q = not_both (any (2 * S.count) (is_between S x (send_of m))) (between_from x (send_of m) z p (to_send_holds z m q)) alone

    least_is : (z : Event) → S.before x z ≡ true → S.before z (send_of m) ≡ true → board S z ≡ board S (send_of m)
        → ((w : Event) → S.before w z ≡ true → at_or_before S x w ≡ true → board S w ≡ board S (send_of m) → ⊥) → ⊥
    unfolding message_of
    least_is (send_of k) p q e least = not_between (send_of k) (to_send_holds x k p) q
    least_is (receive_of k) p q e least =
        ⊎_elim
        (λ l. least l.0 l.2 l.1 (l.3 ∙ e))
        (λ l.
        let same : k ≡ l.0 = cc l.1 in
        let at : at_or_before S x (send_of k) ≡ true = rw same l.2 in
        not_between (receive_of k) (to_receive x k (C.inside (receive_of k) (send_of m) q).0 at) q)
        (C.last_link x (receive_of k) p)

    pub on_its_board : board S x ≡ board S (send_of m)
    on_its_board =
        ⊎_elim
        (λ l.
        let k = least_below on_way (λ i j. S.before (event i) (event j)) (λ i j k p q. C.trans (event i) (event j) (event k) p q)
        (λ i p. C.irreflexive (event i) p) (2 * S.count) (number l.0)
        ((below_number l.0 S.count).0 (C.inside l.0 (send_of m) l.2).0) (on_way_holds l.0 l.1 l.2 l.3) in
        found (event k.0) k.1.passes (λ w b a e.
        k.1.least (number w) ((below_number w S.count).0 (C.inside w (event k.0) b).0)
        (on_way_holds w a (C.trans w (event k.0) (send_of m) b (and_right (at_or_before S x (event k.0)) (S.before (event k.0) (send_of m)) (and_left _ _ k.1.passes))) e)
        (rw (event_number w) b)))
        (λ l. let z : ◌≡◌ {A = ℕ} 0 1 = cc l.1 in absurd (omega arith))
        (C.last_link x (send_of m) h)
      where
        found : (z : Event) → (at_or_before S x z && S.before z (send_of m) && eqb (board S z) (board S (send_of m))) ≡ true
            → ((w : Event) → S.before w z ≡ true → at_or_before S x w ≡ true → board S w ≡ board S (send_of m) → ⊥)
            → board S x ≡ board S (send_of m)
        found z t least =
            let ab = and_left (at_or_before S x z && S.before z (send_of m)) (eqb (board S z) (board S (send_of m))) t in
            let e = eqb-true (board S z) (board S (send_of m)) (and_right (at_or_before S x z && S.before z (send_of m)) (eqb (board S z) (board S (send_of m))) t) in
            let a = and_left (at_or_before S x z) (S.before z (send_of m)) ab in
            let q = and_right (at_or_before S x z) (S.before z (send_of m)) ab in
            ⊎_elim (λ i. ap (board S) i ∙ e) (λ p. absurd (least_is z p q e least)) (at_or_before_cases S x z a)

  -- What stands directly before a receive is its own send.
  direct_receive : (x : Event) (m : ℕ) → cured_before S x (receive_of m) ≡ true → any (2 * S.count) (is_between S x (receive_of m)) ≡ false
      → is_own S.count x (receive_of m) ≡ true
  direct_receive x m h alone =
      let p = from_receive x m h in
      ⊎_elim
      (λ e. rw e (own_both S.count m p.0))
      (λ b.
      not_both (any (2 * S.count) (is_between S x (receive_of m)))
      (between_from x (receive_of m) (send_of m) (to_send_holds x m b) (cured_own (send_of m) (receive_of m) (own_both S.count m p.0)))
      alone)
      (at_or_before_cases S x (send_of m) p.1)

  -- No row ends in a receive.
  pub written_to_send : (x : Event) (m : ℕ) → is_written S x (receive_of m) ≡ false
  unfolding is_written
  written_to_send x m =
      let y = receive_of m in
      let a = eqb (board S x) (board S y) in
      let b = cured_before S x y in
      let c = not (any (2 * S.count) (is_between S x y)) in
      let d = not (is_own S.count x y) in
      ⊎_elim
      (λ (t : (a && b && c && d) ≡ true).
      let abc = and_left (a && b && c) d t in
      let alone = not-true (any (2 * S.count) (is_between S x y)) (and_right (a && b) c abc) in
      let own = direct_receive x m (and_right a b (and_left (a && b) c abc)) alone in
      not_both (is_own S.count x y) own (not-true (is_own S.count x y) (and_right (a && b && c) d t)))
      (λ f. f)
      (which (a && b && c && d))

  -- What stands directly before an event is written as a row, or is its own send.
  pub direct_cases : (x y : Event) → cured_before S x y ≡ true → any (2 * S.count) (is_between S x y) ≡ false
      → (is_written S x y ≡ true) ⊎ (is_own S.count x y ≡ true)
  unfolding is_written
  direct_cases x (send_of m) h alone =
      inl
      (and_both _ _
      (and_both _ _
      (and_both (eqb (board S x) (board S (send_of m))) (cured_before S x (send_of m)) (eq-eqb _ _ (on_its_board x m (from_send x m h) alone)) h)
      (not_is_true (any (2 * S.count) (is_between S x (send_of m))) alone))
      (not_is_true (is_own S.count x (send_of m)) (no_own_send S.count x m)))
  direct_cases x (receive_of m) h alone = inr (direct_receive x m h alone)

  -- So whatever is transitive and holds the rows written and each send before its receive holds the cured order.
  module _ (Q : Event → Event → Type 0) (written : (x y : Event) → is_written S x y ≡ true → Q x y)
      (owned : (x y : Event) → is_own S.count x y ≡ true → Q x y) (linked : (x y z : Event) → Q x y → Q y z → Q x z) where
    chained : (fuel : ℕ) (x y : Event) → cured_before S x y ≡ true → counted (2 * S.count) (is_between S x y) < fuel → Q x y
    chained zero x y h l = absurd (omega arith)
    chained (suc fuel) x y h l =
        ⊎_elim
        (λ t.
        let s = any_some (2 * S.count) (is_between S x y) t in
        let p = between_parts x y s.0 s.2 in
        linked x (event s.0) y
        (chained fuel x (event s.0) p.0 (omega (arith, fewer_before x y s.0 s.1 s.2)))
        (chained fuel (event s.0) y p.1 (omega (arith, fewer_behind x y s.0 s.1 s.2))))
        (λ f. ⊎_elim (written x y) (owned x y) (direct_cases x y h f))
        (which (any (2 * S.count) (is_between S x y)))

    pub chain : (x y : Event) → cured_before S x y ≡ true → Q x y
    chain x y h = chained (suc (counted (2 * S.count) (is_between S x y))) x y h (omega arith)
