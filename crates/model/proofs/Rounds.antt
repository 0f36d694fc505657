-- An exchange that is repeated: two rounds decide all. No order leads back from a later round; inside one round the order is that of one round; and
-- from one round to the next it crosses on one board. Assumes nothing.
use Prim.Native.Nat.{ℕ, zero, suc, ◌+◌, ◌*◌, ◌/◌, ◌%◌, ◌<◌, ◌≤◌}
use native.Mathlib.Nat.{mod-lt, div-add-mod', div-lt_iff_lt-mul, mul-le-mul_right, not-suc-le-zero, suc-mul, zero-mul, zero-add, mod-eq_of_lt}
use native.Mathlib.Omega.{arith}
use mathlib.Core.Path.{◌≡◌, refl, sym, ◌∙◌, ap, ap₂, subst, subst⁻¹}
use mathlib.Core.Logic.{◌⊎◌, inl, inr, ⊎_elim, ◌↔◌}
use mathlib.Core.Bool.{Bool, true, false, cond, ◌&&◌}
use borrow.Author.Tests.{not-true, eqb-true, ltb-true, eq-eqb, lt-ltb, leb-true, leb-false}
use lib.Arith.{digits_div, digits_mod}
use lib.Dec.{eqb, ltb, leb}
use Rattle.model.specs.Order.{Event, send_of, receive_of, message_of, Exchange, board_of, is_event, is_own, is_earlier, Before, row, own, earlier, link, Scenario, scenario_of, board, at_or_before}
use Rattle.model.specs.Race.{RaceRule, by_event, by_origin, never, origin, not_at_or_before, is_race}
use Rattle.model.specs.Rounds.{highest, round_of, in_round, blocks_of, stands_for, rounds}
use Rattle.model.proofs.Bounded.{and_left, and_right, which, not_both, apart}
use Rattle.model.proofs.Events.{own_parts, own_both, at_or_before_cases, at_or_before_same, at_or_before_before}
use Rattle.model.proofs.Order.{board_in, BothInside, RowsInside, RowsOnOneBoard, earlier_parts, before_inside, before_exact}
use Rattle.model.proofs.PointThree.{race_parts}

highest_at : (n : ℕ) (f : ℕ → ℕ) (k : ℕ) → k < n → f k ≤ highest n f
unfolding highest
highest_at zero f k l = absurd (not-suc-le-zero l)
highest_at (suc n) f k l =
    ⊎_elim (λ (e : k ≡ n). subst⁻¹ (λ (j : ℕ). f j ≤ highest (suc n) f) e (last (leb (f n) (highest n f)) refl))
    (⊎_elim (λ (h : k < n). first (leb (f n) (highest n f)) refl (highest_at n f k h)) (λ (h : n < k). absurd (omega arith))) (apart k n)
  where
    last : (b : Bool) → leb (f n) (highest n f) ≡ b → f n ≤ cond b (highest n f) (f n)
    last true e = leb-true (f n) (highest n f) e
    last false e = omega arith

    first : (b : Bool) → leb (f n) (highest n f) ≡ b → f k ≤ highest n f → f k ≤ cond b (highest n f) (f n)
    first true e h = h
    first false e h = let g = leb-false (f n) (highest n f) e in omega arith

-- two events of one board, in an earlier and a later block
pub is_earlier_holds : (E : Exchange) (x y : Event) → message_of x < E.count → message_of y < E.count → board_in E x ≡ board_in E y
    → E.block (message_of x) < E.block (message_of y) → is_earlier E x y ≡ true
unfolding is_earlier is_event
is_earlier_holds E x y a b c d =
    rw (lt-ltb (message_of x) E.count a, lt-ltb (message_of y) E.count b, eq-eqb (board_in E x) (board_in E y) c, lt-ltb (E.block (message_of x)) (E.block (message_of y)) d)

module _ (E : Exchange) (inside : RowsInside E) where
  abbrev n : ℕ
  n = E.count

  before_both : {x y : Event} → Before E x y → BothInside E x y
  before_both {x} {y} p = before_inside E x y ((before_exact E inside x y).1 p)

  -- an event of one round in round r, and back
  unfoldable pub at : ℕ → Event → Event
  at r (send_of m) = send_of (r * n + m)
  at r (receive_of m) = receive_of (r * n + m)

  pub at_message : (r : ℕ) (x : Event) → message_of (at r x) ≡ r * n + message_of x
  unfolding at message_of
  at_message r (send_of m) = refl
  at_message r (receive_of m) = refl

  pub at_round : (r : ℕ) (x : Event) → message_of x < n → round_of E (at r x) ≡ r
  unfolding round_of
  at_round r x l = ap (λ (m : ℕ). m / n) (at_message r x) ∙ digits_div r l

  pub at_in : (r : ℕ) (x : Event) → message_of x < n → in_round E (at r x) ≡ x
  unfolding at in_round message_of
  at_in r (send_of m) l = ap send_of (digits_mod r l)
  at_in r (receive_of m) l = ap receive_of (digits_mod r l)

  pub in_at : (x : Event) → at (round_of E x) (in_round E x) ≡ x
  unfolding at round_of in_round message_of
  in_at (send_of m) = ap send_of (div-add-mod' m n)
  in_at (receive_of m) = ap receive_of (div-add-mod' m n)

  in_message : (x : Event) → message_of (in_round E x) ≡ message_of x % n
  unfolding in_round message_of
  in_message (send_of m) = refl
  in_message (receive_of m) = refl

  module _ (k : ℕ) where
    abbrev R : Exchange
    R = rounds E k

    -- there is a message, and so one round has one
    some_message : {m : ℕ} → m < k * n → 0 < n
    some_message {m} l = go n refl
      where
        go : (c : ℕ) → n ≡ c → 0 < c
        go zero e = let z : k * n ≡ 0 = ap (λ (j : ℕ). k * j) e ∙ omega arith in absurd (omega arith)
        go (suc c) e = omega arith

    stands_for_holds : (m : ℕ) → m < k * n → stands_for E k m ≡ m % n
    unfolding stands_for
    stands_for_holds m l = rw (lt-ltb m (k * n) l)

    in_board : (x : Event) → message_of x < k * n → board_in R x ≡ board_in E (in_round E x)
    unfolding rounds in_round board_of message_of
    in_board (send_of m) l = ap E.source (stands_for_holds m l)
    in_board (receive_of m) l = ap E.target (stands_for_holds m l)

    pub in_inside : (x : Event) → message_of x < k * n → message_of (in_round E x) < n
    in_inside x l = subst⁻¹ (λ (m : ℕ). m < n) (in_message x) (mod-lt (message_of x) (some_message l))

    pub in_block : (x : Event) → R.block (message_of x) ≡ round_of E x * blocks_of E + E.block (message_of (in_round E x))
    unfolding rounds round_of
    in_block x = ap (λ (m : ℕ). message_of x / n * blocks_of E + E.block m) (sym (in_message x))

    pub few_blocks : (x : Event) → message_of x < k * n → E.block (message_of (in_round E x)) < blocks_of E
    unfolding blocks_of
    few_blocks x l = let h = highest_at n E.block (message_of (in_round E x)) (in_inside x l) in omega arith

    -- a P row of k rounds
    pub record RowOf (x y : Event) : Type 0 where
      pub first : message_of x < k * n
      pub same_round : round_of E x ≡ round_of E y
      pub ordered : E.ordered (in_round E x) (in_round E y) ≡ true

    pub row_of : (x y : Event) → R.ordered x y ≡ true → RowOf x y
    unfolding rounds
    row_of x y h =
        let a = ltb (message_of x) (k * n) in
        let b = eqb (round_of E x) (round_of E y) in
        let c = E.ordered (in_round E x) (in_round E y) in
        record {
          first = ltb-true (message_of x) (k * n) (and_left a b (and_left (a && b) c h));
          same_round = eqb-true (round_of E x) (round_of E y) (and_right a b (and_left (a && b) c h));
          ordered = and_right (a && b) c h;
        }

    both_in : (x y : Event) → R.ordered x y ≡ true → (message_of x < k * n) × (message_of y < k * n)
    unfolding round_of
    both_in x y h =
        let r = row_of x y h in
        let pos = some_message r.first in
        let below : message_of x / n < k = (div-lt_iff_lt-mul pos).1 r.first in
        (r.first, (div-lt_iff_lt-mul pos).0 (subst (λ (j : ℕ). j < k) r.same_round below))

    pub rows_inside : RowsInside R
    unfolding rounds
    rows_inside x y h = both_in x y h

    pub rows_on_one_board : RowsOnOneBoard E → RowsOnOneBoard R
    rows_on_one_board one x y h =
        let b = both_in x y h in
        in_board x b.0 ∙ one (in_round E x) (in_round E y) (row_of x y h).ordered ∙ sym (in_board y b.1)

    -- (1) no order leads back from a later round
    own_round : (x y : Event) → is_own (k * n) x y ≡ true → round_of E x ≡ round_of E y
    unfolding round_of message_of
    own_round x y h = let p = own_parts (k * n) x y h in ap (round_of E) p.1 ∙ sym (ap (round_of E) p.2)

    round_le : {x y : Event} → Before R x y → round_of E x ≤ round_of E y
    unfolding rounds
    round_le (row {x = x} {y = y} h) = let r = (row_of x y h).same_round in omega arith
    round_le (own {x = x} {y = y} h) = let r = own_round x y h in omega arith
    round_le (earlier {x = x} {y = y} h) =
        let p = earlier_parts R x y h in
        let less : round_of E x * blocks_of E + E.block (message_of (in_round E x)) < round_of E y * blocks_of E + E.block (message_of (in_round E y))
        = subst (λ (a : ℕ). a < round_of E y * blocks_of E + E.block (message_of (in_round E y))) (in_block x)
        (subst (λ (b : ℕ). R.block (message_of x) < b) (in_block y) p.later_block) in
        ⊎_elim (λ (e : round_of E x ≡ round_of E y). omega arith)
        (⊎_elim (λ (l : round_of E x < round_of E y). omega arith)
        (λ (l : round_of E y < round_of E x).
        let g : suc (round_of E y) * blocks_of E ≤ round_of E x * blocks_of E = mul-le-mul_right (blocks_of E) l in
        let f : suc (round_of E y) * blocks_of E ≡ round_of E y * blocks_of E + blocks_of E = suc-mul (round_of E y) (blocks_of E) in
        let few = few_blocks y p.inside.1 in absurd (omega arith)))
        (apart (round_of E x) (round_of E y))
    round_le (link p q) = let a = round_le p in let b = round_le q in omega arith

    -- (2) inside one round it is the order of one round
    own_in : (x y : Event) → is_own (k * n) x y ≡ true → is_own n (in_round E x) (in_round E y) ≡ true
    unfolding in_round
    own_in x y h =
        let p = own_parts (k * n) x y h in
        let m = p.0 in
        subst⁻¹ (λ (a : Event). is_own n (in_round E a) (in_round E y) ≡ true) p.1
        (subst⁻¹ (λ (b : Event). is_own n (send_of (m % n)) (in_round E b) ≡ true) p.2 (own_both n (m % n) (mod-lt m (some_message p.3))))

    pub round_same : {x y : Event} → Before R x y → round_of E x ≡ round_of E y → Before E (in_round E x) (in_round E y)
    unfolding rounds
    round_same (row {x = x} {y = y} h) e = row (row_of x y h).ordered
    round_same (own {x = x} {y = y} h) e = own (own_in x y h)
    round_same (earlier {x = x} {y = y} h) e =
        let p = earlier_parts R x y h in
        let less : round_of E x * blocks_of E + E.block (message_of (in_round E x)) < round_of E x * blocks_of E + E.block (message_of (in_round E y))
        = subst (λ (a : ℕ). a < round_of E x * blocks_of E + E.block (message_of (in_round E y))) (in_block x)
        (subst (λ (b : ℕ). R.block (message_of x) < b) (in_block y ∙ ap (λ (r : ℕ). r * blocks_of E + E.block (message_of (in_round E y))) (sym e)) p.later_block) in
        earlier (is_earlier_holds E (in_round E x) (in_round E y) (in_inside x p.inside.0) (in_inside y p.inside.1)
        (sym (in_board x p.inside.0) ∙ p.one_board ∙ in_board y p.inside.1) (omega arith))
    round_same (link p q) e =
        let a = round_le p in
        let b = round_le q in
        link (round_same p (omega arith)) (round_same q (omega arith))

    -- and back, in every round
    at_inside : (r : ℕ) (x : Event) → r < k → message_of x < n → message_of (at r x) < k * n
    at_inside r x l m =
        let g : suc r * n ≤ k * n = mul-le-mul_right n l in
        let f : suc r * n ≡ r * n + n = suc-mul r n in
        let e = at_message r x in
        omega arith

    pub lift_row : (r : ℕ) (x y : Event) → r < k → BothInside E x y → E.ordered x y ≡ true → R.ordered (at r x) (at r y) ≡ true
    unfolding rounds
    lift_row r x y l b h =
        rw (lt-ltb (message_of (at r x)) (k * n) (at_inside r x l b.0), at_round r x b.0, at_round r y b.1, eq-eqb r r refl, at_in r x b.0, at_in r y b.1) h

    lift_own : (r : ℕ) (x y : Event) → r < k → is_own n x y ≡ true → is_own (k * n) (at r x) (at r y) ≡ true
    unfolding at message_of
    lift_own r x y l h =
        let p = own_parts n x y h in
        let m = p.0 in
        let low : r * n + m < k * n = at_inside r (send_of m) l p.3 in
        subst⁻¹ (λ (a : Event). is_own (k * n) (at r a) (at r y) ≡ true) p.1
        (subst⁻¹ (λ (b : Event). is_own (k * n) (send_of (r * n + m)) (at r b) ≡ true) p.2 (own_both (k * n) (r * n + m) low))

    at_board : (r : ℕ) (x : Event) → r < k → message_of x < n → board_in R (at r x) ≡ board_in E x
    at_board r x m l = in_board (at r x) (at_inside r x m l) ∙ ap (board_in E) (at_in r x l)

    at_block : (r : ℕ) (x : Event) → message_of x < n → R.block (message_of (at r x)) ≡ r * blocks_of E + E.block (message_of x)
    at_block r x l =
        in_block (at r x) ∙ ap₂ (λ (q : ℕ) (y : Event). q * blocks_of E + E.block (message_of y)) (at_round r x l) (at_in r x l)

    lift_earlier : (r : ℕ) (x y : Event) → r < k → is_earlier E x y ≡ true → is_earlier R (at r x) (at r y) ≡ true
    unfolding rounds
    lift_earlier r x y l h =
        let p = earlier_parts E x y h in
        let a = at_block r x p.inside.0 in
        let b = at_block r y p.inside.1 in
        let c = p.later_block in
        is_earlier_holds R (at r x) (at r y) (at_inside r x l p.inside.0) (at_inside r y l p.inside.1)
        (at_board r x l p.inside.0 ∙ p.one_board ∙ sym (at_board r y l p.inside.1)) (omega arith)

    pub lift : (r : ℕ) → r < k → {x y : Event} → Before E x y → Before R (at r x) (at r y)
    unfolding rounds
    lift r l (row {x = x} {y = y} h) = row (lift_row r x y l (inside x y h) h)
    lift r l (own {x = x} {y = y} h) = own (lift_own r x y l h)
    lift r l (earlier {x = x} {y = y} h) = earlier (lift_earlier r x y l h)
    lift r l (link p q) = link (lift r l p) (lift r l q)

    -- (3) from an earlier round to a later one: on one board, whatever rounds lie between
    pub crosses : (r s : ℕ) → r < s → s < k → (u v : Event) → message_of u < n → message_of v < n → board_in E u ≡ board_in E v → Before R (at r u) (at s v)
    unfolding rounds
    crosses r s l m u v a b c =
        let first = at_block r u a in
        let later = at_block s v b in
        let g : suc r * blocks_of E ≤ s * blocks_of E = mul-le-mul_right (blocks_of E) l in
        let f : suc r * blocks_of E ≡ r * blocks_of E + blocks_of E = suc-mul r (blocks_of E) in
        let few : E.block (message_of u) < blocks_of E
        = subst (λ (x : Event). E.block (message_of x) < blocks_of E) (at_in r u a) (few_blocks (at r u) (at_inside r u (omega arith) a)) in
        earlier (is_earlier_holds R (at r u) (at s v) (at_inside r u (omega arith) a) (at_inside s v m b) (at_board r u (omega arith) a ∙ c ∙ sym (at_board s v m b)) (omega arith))

  -- x is y, or before it, in one round
  abbrev AtOrBefore : Event → Event → Type 0
  AtOrBefore x y = (x ≡ y) ⊎ Before E x y

  at_or_before_link : {x y z : Event} → Before E x y → AtOrBefore y z → AtOrBefore x z
  at_or_before_link {x} {y} {z} p = ⊎_elim (λ e. inr (subst (Before E x) e p)) (λ q. inr (link p q))

  at_or_before_then : {x y z : Event} → AtOrBefore x y → Before E y z → AtOrBefore x z
  at_or_before_then {x} {y} {z} p q = ⊎_elim (λ e. inr (subst⁻¹ (λ w. Before E w z) e q)) (λ b. inr (link b q)) p

  -- where it crosses: an event at or after x, and on its board one at or before y
  record Crossing (x y : Event) : Type 0 where
    from : Event
    to : Event
    from_inside : message_of from < n
    to_inside : message_of to < n
    one_board : board_in E from ≡ board_in E to
    first : AtOrBefore x from
    last : AtOrBefore to y

  -- and from one round to the next there is no other way
  crossing : (k : ℕ) {x y : Event} → Before (rounds E k) x y → round_of E y ≡ suc (round_of E x) → Crossing (in_round E x) (in_round E y)
  unfolding rounds
  crossing k (row {x = x} {y = y} h) e = let r = (row_of k x y h).same_round in absurd (omega arith)
  crossing k (own {x = x} {y = y} h) e = let r = own_round k x y h in absurd (omega arith)
  crossing k (earlier {x = x} {y = y} h) e =
      let p = earlier_parts (rounds E k) x y h in
      record {
        from = in_round E x;
        to = in_round E y;
        from_inside = in_inside k x p.inside.0;
        to_inside = in_inside k y p.inside.1;
        one_board = sym (in_board k x p.inside.0) ∙ p.one_board ∙ in_board k y p.inside.1;
        first = inl refl;
        last = inl refl;
      }
  crossing k (link {x = x} {y = z} {z = y} p q) e =
      let a = round_le k p in
      let b = round_le k q in
      ⊎_elim
      (λ (i : round_of E x ≡ round_of E z). let c = crossing k q (e ∙ ap suc i) in
      record {
        from = c.from;
        to = c.to;
        from_inside = c.from_inside;
        to_inside = c.to_inside;
        one_board = c.one_board;
        first = at_or_before_link (round_same k p i) c.first;
        last = c.last;
      })
      (⊎_elim
      (λ (i : round_of E x < round_of E z). let j : round_of E z ≡ round_of E y = omega arith in let c = crossing k p (j ∙ e) in
      record {
        from = c.from;
        to = c.to;
        from_inside = c.from_inside;
        to_inside = c.to_inside;
        one_board = c.one_board;
        first = c.first;
        last = at_or_before_then c.last (round_same k q j);
      })
      (λ (i : round_of E z < round_of E x). absurd (omega arith)))
      (apart (round_of E x) (round_of E z))

  -- An event of k rounds is at or before another, and so their counterparts in two rounds: in the first round both, or in the first and the second.
  AtOr : ℕ → Event → Event → Type 0
  AtOr k x y = (x ≡ y) ⊎ Before (rounds E k) x y

  -- in one round at or before, so in round r of k
  lifted : (k r : ℕ) → r < k → {x y : Event} → (x ≡ y) ⊎ Before E x y → AtOr k (at r x) (at r y)
  unfolding AtOr
  lifted k r l = ⊎_elim (λ e. inl (ap (at r) e)) (λ p. inr (lift k r l p))

  pub round_below : (k : ℕ) (x : Event) → message_of x < k * n → round_of E x < k
  unfolding round_of
  round_below k x l = (div-lt_iff_lt-mul (some_message k l)).1 l

  module _ (k : ℕ) (w s : Event) (w_in : message_of w < k * n) (s_in : message_of s < k * n) where
    same_transfer : round_of E w ≡ round_of E s → AtOr 2 (at 0 (in_round E w)) (at 0 (in_round E s)) → AtOr k w s
    unfolding AtOr
    same_transfer e =
        let w0 = in_round E w in
        let s0 = in_round E s in
        let wl = in_inside k w w_in in
        let sl = in_inside k s s_in in
        let there : AtOr k (at (round_of E w) w0) (at (round_of E w) s0) → AtOr k w s
        = λ h. subst (λ (a : Event). AtOr k a s) (in_at w) (subst (λ (b : Event). AtOr k (at (round_of E w) w0) b) (ap (λ (r : ℕ). at r s0) e ∙ in_at s) h) in
        λ h. there (lifted k (round_of E w) (round_below k w w_in)
        (⊎_elim
        (λ (i : at 0 w0 ≡ at 0 s0). inl (sym (at_in 0 w0 wl) ∙ ap (in_round E) i ∙ at_in 0 s0 sl))
        (λ p. inr (subst (λ (a : Event). Before E a s0) (at_in 0 w0 wl)
        (subst (λ (b : Event). Before E (in_round E (at 0 w0)) b) (at_in 0 s0 sl) (round_same 2 p (at_round 0 w0 wl ∙ sym (at_round 0 s0 sl))))))
        h))

    later_transfer : round_of E w < round_of E s → AtOr 2 (at 0 (in_round E w)) (at 1 (in_round E s)) → AtOr k w s
    unfolding AtOr
    later_transfer l =
        let w0 = in_round E w in
        let s0 = in_round E s in
        let wl = in_inside k w w_in in
        let sl = in_inside k s s_in in
        let first = at_round 0 w0 wl in
        let second = at_round 1 s0 sl in
        let below = round_below k s s_in in
        ⊎_elim
        (λ (i : at 0 w0 ≡ at 1 s0). let z : ◌≡◌ {A = ℕ} 0 1 = sym first ∙ ap (round_of E) i ∙ second in absurd (omega arith))
        (λ p.
        let c = crossing 2 p (second ∙ ap suc (sym first)) in
        let over = crosses k (round_of E w) (round_of E s) l below c.from c.to c.from_inside c.to_inside c.one_board in
        let from : AtOr k (at (round_of E w) w0) (at (round_of E w) c.from) = lifted k (round_of E w) (omega arith) (subst (λ (a : Event). (a ≡ c.from) ⊎ Before E a c.from) (at_in 0 w0 wl) c.first) in
        let to : AtOr k (at (round_of E s) c.to) (at (round_of E s) s0) = lifted k (round_of E s) below (subst (λ (b : Event). (c.to ≡ b) ⊎ Before E c.to b) (at_in 1 s0 sl) c.last) in
        let most : Before (rounds E k) (at (round_of E w) w0) (at (round_of E s) c.to)
        = ⊎_elim (λ i. subst⁻¹ (λ (a : Event). Before (rounds E k) a (at (round_of E s) c.to)) i over) (λ q. link q over) from in
        let all : Before (rounds E k) (at (round_of E w) w0) (at (round_of E s) s0)
        = ⊎_elim (λ i. subst (Before (rounds E k) (at (round_of E w) w0)) i most) (λ q. link most q) to in
        inr (subst (λ (a : Event). Before (rounds E k) a s) (in_at w) (subst (Before (rounds E k) (at (round_of E w) w0)) (in_at s) all)))

-- A race, over any scenario: what the rule looks at is not at or before e's send.
looks : RaceRule → Event → Event
looks by_event x = x
looks by_origin x = origin x
looks never x = x

record Races (T : Scenario) (r : RaceRule) (e : ℕ) (x : Event) : Type 0 where
  on_board : board T x ≡ T.target e
  before : T.before x (receive_of e) ≡ true
  eager : r ≡ never → ⊥
  apart_from : at_or_before T (looks r x) (send_of e) ≡ true → ⊥

races_of : (T : Scenario) (r : RaceRule) (e : ℕ) (x : Event) → is_race T r e x ≡ true → Races T r e x
unfolding not_at_or_before looks
races_of T by_event e x h =
    let p = race_parts T by_event e x h in
    record { on_board = p.0; before = p.1; eager = λ i. (let z : ◌≡◌ {A = ℕ} 0 1 = cc in omega arith); apart_from = λ t. not_both (at_or_before T x (send_of e)) t (not-true (at_or_before T x (send_of e)) p.2) }
races_of T by_origin e x h =
    let p = race_parts T by_origin e x h in
    record { on_board = p.0; before = p.1; eager = λ i. (let z : ◌≡◌ {A = ℕ} 0 1 = cc in omega arith); apart_from = λ t. not_both (at_or_before T (origin x) (send_of e)) t (not-true (at_or_before T (origin x) (send_of e)) p.2) }
races_of T never e x h = not_both false (race_parts T never e x h).2 refl

races_from : (T : Scenario) (r : RaceRule) (e : ℕ) (x : Event) → Races T r e x → is_race T r e x ≡ true
unfolding is_race not_at_or_before looks
races_from T by_event e x c =
    let f : at_or_before T x (send_of e) ≡ false = ⊎_elim (λ t. absurd (c.apart_from t)) (λ g. g) (which (at_or_before T x (send_of e))) in
    rw (eq-eqb (board T x) (T.target e) c.on_board, c.before, f, not_at_or_before)
races_from T by_origin e x c =
    let f : at_or_before T (origin x) (send_of e) ≡ false = ⊎_elim (λ t. absurd (c.apart_from t)) (λ g. g) (which (at_or_before T (origin x) (send_of e))) in
    rw (eq-eqb (board T x) (T.target e) c.on_board, c.before, f, not_at_or_before)
races_from T never e x c = absurd (c.eager refl)

module _ (E : Exchange) (inside : RowsInside E) where
  looks_at : (r : RaceRule) (q : ℕ) (x : Event) → looks r (at E inside q x) ≡ at E inside q (looks r x)
  unfolding looks at origin
  looks_at by_event q x = refl
  looks_at by_origin q (send_of m) = refl
  looks_at by_origin q (receive_of m) = refl
  looks_at never q x = refl

  looks_in : (r : RaceRule) (x : Event) → in_round E (looks r x) ≡ looks r (in_round E x)
  unfolding looks in_round origin
  looks_in by_event x = refl
  looks_in by_origin (send_of m) = refl
  looks_in by_origin (receive_of m) = refl
  looks_in never x = refl

  looks_message : (r : RaceRule) (x : Event) → message_of (looks r x) ≡ message_of x
  unfolding looks origin message_of
  looks_message by_event x = refl
  looks_message by_origin (send_of m) = refl
  looks_message by_origin (receive_of m) = refl
  looks_message never x = refl

  looks_round : (r : RaceRule) (x : Event) → round_of E (looks r x) ≡ round_of E x
  unfolding round_of
  looks_round r x = ap (λ (m : ℕ). m / E.count) (looks_message r x)

  abbrev S : ℕ → Scenario
  S k = scenario_of (rounds E k)

  pub before_in : (k : ℕ) (x y : Event) → ((S k).before x y ≡ true) ↔ Before (rounds E k) x y
  before_in k = before_exact (rounds E k) (rows_inside E inside k)

  at_or_in : (k : ℕ) (x y : Event) → (at_or_before (S k) x y ≡ true) ↔ AtOr E inside k x y
  unfolding AtOr
  at_or_in k x y = (
    (λ h. ⊎_elim (λ e. inl e) (λ b. inr ((before_in k x y).0 b)) (at_or_before_cases (S k) x y h)),
    ⊎_elim (λ e. at_or_before_same (S k) x y e) (λ p. at_or_before_before (S k) x y ((before_in k x y).1 p)),
  )

  -- Every race of k rounds has one of two rounds beside it, at the same message and event of one round.
  module _ (k : ℕ) (r : RaceRule) (e : ℕ) (x : Event) (h : is_race (S k) r e x ≡ true) where
    abbrev x0 : Event
    x0 = in_round E x

    abbrev e0 : ℕ
    e0 = e % E.count

    race : Races (S k) r e x
    race = races_of (S k) r e x h

    both : BothInside (rounds E k) x (receive_of e)
    both = before_inside (rounds E k) x (receive_of e) race.before

    x_in : message_of x < k * E.count
    unfolding rounds
    x_in = both.0

    e_in : e < k * E.count
    unfolding rounds message_of
    e_in = both.1

    some : 0 < E.count
    some = some_message E inside k e_in

    low : message_of x0 < E.count
    low = in_inside E inside k x x_in

    low_e : e0 < E.count
    low_e = mod-lt e some

    p : Before (rounds E k) x (receive_of e)
    p = (before_in k x (receive_of e)).0 race.before

    two_in : (s : ℕ) → s < 2 → s * E.count + e0 < 2 * E.count
    two_in s l =
        let g : suc s * E.count ≤ 2 * E.count = mul-le-mul_right E.count l in
        let f : suc s * E.count ≡ s * E.count + E.count = suc-mul s E.count in
        let d = low_e in
        omega arith

    -- on the receiving board, in every round
    onto : board_in (rounds E k) x ≡ E.target e0
    unfolding scenario_of rounds board_of
    onto = race.on_board ∙ ap E.target (stands_for_holds E inside k e e_in)

    board_at : (s : ℕ) → s < 2 → board (S 2) (at E inside 0 x0) ≡ (S 2).target (s * E.count + e0)
    unfolding scenario_of rounds board_of
    board_at s l =
        at_board E inside 2 0 x0 (omega arith) low ∙ sym (in_board E inside k x x_in) ∙ onto
        ∙ ap E.target (sym (stands_for_holds E inside 2 (s * E.count + e0) (two_in s l) ∙ digits_mod s low_e))

    looks_low : message_of (looks r x) < k * E.count
    looks_low = subst⁻¹ (λ (m : ℕ). m < k * E.count) (looks_message r x) x_in

    -- what the rule looks at, in round q of two
    looked_at : (q : ℕ) → looks r (at E inside q x0) ≡ at E inside q (in_round E (looks r x))
    looked_at q = looks_at r q x0 ∙ ap (at E inside q) (sym (looks_in r x))

    same_round_holds : round_of E x ≡ round_of E (receive_of e) → is_race (S 2) r (0 * E.count + e0) (at E inside 0 x0) ≡ true
    unfolding at in_round message_of round_of
    same_round_holds i =
        races_from (S 2) r (0 * E.count + e0) (at E inside 0 x0)
        (record {
          on_board = board_at 0 (omega arith);
          before = (before_in 2 (at E inside 0 x0) (receive_of (0 * E.count + e0))).1 (lift E inside 2 0 (omega arith) (round_same E inside k p i));
          eager = race.eager;
          apart_from = λ t.
              let s : AtOr E inside 2 (looks r (at E inside 0 x0)) (send_of (0 * E.count + e0)) = (at_or_in 2 (looks r (at E inside 0 x0)) (send_of (0 * E.count + e0))).0 t in
              race.apart_from ((at_or_in k (looks r x) (send_of e)).1
              (same_transfer E inside k (looks r x) (send_of e) looks_low e_in (looks_round r x ∙ i)
              (subst (λ (a : Event). AtOr E inside 2 a (send_of (0 * E.count + e0))) (looked_at 0) s)));
        })

    later_round : round_of E x < round_of E (receive_of e) → is_race (S 2) r (1 * E.count + e0) (at E inside 0 x0) ≡ true
    unfolding at in_round message_of round_of board_of
    later_round l =
        races_from (S 2) r (1 * E.count + e0) (at E inside 0 x0)
        (record {
          on_board = board_at 1 (omega arith);
          before = (before_in 2 (at E inside 0 x0) (receive_of (1 * E.count + e0))).1
              (crosses E inside 2 0 1 (omega arith) (omega arith) x0 (receive_of e0) low low_e (sym (in_board E inside k x x_in) ∙ onto));
          eager = race.eager;
          apart_from = λ t.
              let s : AtOr E inside 2 (looks r (at E inside 0 x0)) (send_of (1 * E.count + e0)) = (at_or_in 2 (looks r (at E inside 0 x0)) (send_of (1 * E.count + e0))).0 t in
              let before-round : round_of E (looks r x) < round_of E (send_of e) = subst⁻¹ (λ (q : ℕ). q < round_of E (send_of e)) (looks_round r x) l in
              race.apart_from ((at_or_in k (looks r x) (send_of e)).1
              (later_transfer E inside k (looks r x) (send_of e) looks_low e_in before-round
              (subst (λ (a : Event). AtOr E inside 2 a (send_of (1 * E.count + e0))) (looked_at 0) s)));
        })

    pub two_rounds_race : (f : ℕ) × (y : Event) × (f < 2 * E.count) × (is_race (S 2) r f y ≡ true)
    two_rounds_race =
        ⊎_elim
        (λ (i : round_of E x ≡ round_of E (receive_of e)). (0 * E.count + e0, at E inside 0 x0, two_in 0 (omega arith), same_round_holds i))
        (⊎_elim
        (λ (l : round_of E x < round_of E (receive_of e)). (1 * E.count + e0, at E inside 0 x0, two_in 1 (omega arith), later_round l))
        (λ (l : round_of E (receive_of e) < round_of E x). let le = round_le E inside k p in absurd (omega arith)))
        (apart (round_of E x) (round_of E (receive_of e)))

  -- A race of one round is one of two, at the same message and event; and one of k rounds that stays in one round is one of one round.
  pub zero_at : (x : Event) → at E inside 0 x ≡ x
  unfolding at
  zero_at (send_of m) = ap send_of (rw (zero-mul, zero-add))
  zero_at (receive_of m) = ap receive_of (rw (zero-mul, zero-add))

  at_or_one : (x y : Event) → (at_or_before (scenario_of E) x y ≡ true) ↔ ((x ≡ y) ⊎ Before E x y)
  at_or_one x y = (
    (λ h. ⊎_elim (λ e. inl e) (λ b. inr ((before_exact E inside x y).0 b)) (at_or_before_cases (scenario_of E) x y h)),
    ⊎_elim (λ e. at_or_before_same (scenario_of E) x y e) (λ p. at_or_before_before (scenario_of E) x y ((before_exact E inside x y).1 p)),
  )

  -- in the first round at or before is what it is in one round
  first_falls : (k : ℕ) (x y : Event) → message_of x < E.count → message_of y < E.count → AtOr E inside k x y → (x ≡ y) ⊎ Before E x y
  unfolding AtOr
  first_falls k x y a b =
      ⊎_elim (λ e. inl e)
      (λ p.
      let ex = zero_at x in
      let ey = zero_at y in
      let rx : round_of E x ≡ 0 = ap (round_of E) (sym ex) ∙ at_round E inside 0 x a in
      let ry : round_of E y ≡ 0 = ap (round_of E) (sym ey) ∙ at_round E inside 0 y b in
      let ix : in_round E x ≡ x = ap (in_round E) (sym ex) ∙ at_in E inside 0 x a in
      let iy : in_round E y ≡ y = ap (in_round E) (sym ey) ∙ at_in E inside 0 y b in
      inr (subst (λ (u : Event). Before E u y) ix (subst (λ (v : Event). Before E (in_round E x) v) iy (round_same E inside k p (rx ∙ sym ry)))))

  pub one_round_races : (r : RaceRule) (e : ℕ) (x : Event) → is_race (scenario_of E) r e x ≡ true → is_race (S 2) r e x ≡ true
  unfolding scenario_of rounds board_of message_of
  one_round_races r e x h =
      let c = races_of (scenario_of E) r e x h in
      let b = before_inside E x (receive_of e) c.before in
      let look = subst⁻¹ (λ (m : ℕ). m < E.count) (looks_message r x) b.0 in
      let p : Before (rounds E 2) x (receive_of e)
      = subst (λ (u : Event). Before (rounds E 2) u (receive_of e)) (zero_at x)
      (subst (λ (v : Event). Before (rounds E 2) (at E inside 0 x) v) (zero_at (receive_of e)) (lift E inside 2 0 (omega arith) ((before_exact E inside x (receive_of e)).0 c.before))) in
      races_from (S 2) r e x
      (record {
        on_board = ap (board_in (rounds E 2)) (sym (zero_at x)) ∙ at_board E inside 2 0 x (omega arith) b.0 ∙ c.on_board
            ∙ ap E.target (sym (stands_for_holds E inside 2 e (omega (arith, b.1)) ∙ mod-eq_of_lt b.1));
        before = (before_in 2 x (receive_of e)).1 p;
        eager = c.eager;
        apart_from = λ t. c.apart_from ((at_or_one (looks r x) (send_of e)).1 (first_falls 2 (looks r x) (send_of e) look b.1 ((at_or_in 2 (looks r x) (send_of e)).0 t)));
      })

  -- a race of k rounds that stays in one round
  pub race_falls : (k : ℕ) (r : RaceRule) (e : ℕ) (x : Event) → is_race (S k) r e x ≡ true → round_of E x ≡ round_of E (receive_of e)
      → is_race (scenario_of E) r (e % E.count) (in_round E x) ≡ true
  unfolding scenario_of board_of round_of in_round message_of AtOr
  race_falls k r e x h i =
      let c = race k r e x h in
      let q = round_of E x in
      let back : (y : Event) → AtOr E inside k (at E inside q (in_round E y)) (at E inside q (send_of (e % E.count))) → q ≡ round_of E y → AtOr E inside k y (send_of e)
      = λ y a j. subst (λ (u : Event). AtOr E inside k u (send_of e)) (ap (λ (z : ℕ). at E inside z (in_round E y)) j ∙ in_at E inside y)
      (subst (λ (v : Event). AtOr E inside k (at E inside q (in_round E y)) v) (ap (λ (z : ℕ). at E inside z (send_of (e % E.count))) i ∙ in_at E inside (send_of e)) a) in
      races_from (scenario_of E) r (e % E.count) (in_round E x)
      (record {
        on_board = sym (in_board E inside k x (x_in k r e x h)) ∙ onto k r e x h;
        before = (before_exact E inside (in_round E x) (receive_of (e % E.count))).1 (round_same E inside k (p k r e x h) i);
        eager = c.eager;
        apart_from = λ t.
            c.apart_from ((at_or_in k (looks r x) (send_of e)).1
            (back (looks r x)
            (subst (λ (u : Event). AtOr E inside k (at E inside q u) (at E inside q (send_of (e % E.count)))) (sym (looks_in r x))
            (lifted E inside k q (round_below E inside k x (x_in k r e x h)) ((at_or_one (looks r (in_round E x)) (send_of (e % E.count))).0 t)))
            (sym (looks_round r x))));
      })
