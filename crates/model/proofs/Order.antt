-- The test "before" is exactly the relation "before" of specs/Order, and how a chain of it ends. Assumes nothing.
use Prim.Native.Nat.{ℕ, ◌*◌, ◌<◌}
use mathlib.Core.Path.{◌≡◌, refl, subst, subst₂}
use mathlib.Core.Logic.{◌⊎◌, inl, inr, ⊎_elim, ◌↔◌}
use mathlib.Core.Bool.{Bool, true, ◌&&◌, ◌||◌}
use lib.Dec.{eqb, ltb}
use borrow.Author.Tests.{eqb-true, ltb-true}
use Rattle.model.specs.Order.{Event, send_of, receive_of, number, event, message_of, Exchange, board_of, is_event, is_own, is_earlier, Before, row, own, earlier, link, direct, before_table, scenario_of, at_or_before}
use Rattle.model.proofs.Bounded.{and_left, and_right, or_cases, or_left, or_right}
use Rattle.model.proofs.Events.{event_number, own_parts, own_both, below_number, at_or_before_cases, at_or_before_same, at_or_before_before}
use Rattle.model.proofs.Closure.{linked_below, closure_holds, closure_transitive, closure_least}
use Rattle.model.proofs.Causal.{LastLink, Causal}

module _ (E : Exchange) where
  -- the board of an event
  abbrev pub board_in : Event → ℕ
  board_in x = board_of E.source E.target x

  -- both events of a pair are the exchange's, and the two events of every P row are
  abbrev pub BothInside : Event → Event → Type 0
  BothInside x y = (message_of x < E.count) × (message_of y < E.count)

  abbrev pub RowsInside : Type 0
  RowsInside = (x y : Event) → E.ordered x y ≡ true → BothInside x y

  -- What the three sources say.
  direct_cases : (x y : Event) → direct E x y ≡ true → (E.ordered x y ≡ true) ⊎ (is_own E.count x y ≡ true) ⊎ (is_earlier E x y ≡ true)
  unfolding direct
  direct_cases x y h =
      ⊎_elim
      (λ p. ⊎_elim (λ o. inl o) (λ o. inr (inl o)) (or_cases (E.ordered x y) (is_own E.count x y) p))
      (λ e. inr (inr e))
      (or_cases (E.ordered x y || is_own E.count x y) (is_earlier E x y) h)

  own_inside : (x y : Event) → is_own E.count x y ≡ true → BothInside x y
  unfolding message_of
  own_inside x y h = let p = own_parts E.count x y h in (rw p.1 p.3, rw p.2 p.3)

  pub record EarlierBlock (x y : Event) : Type 0 where
    pub inside : BothInside x y
    pub one_board : board_in x ≡ board_in y
    pub later_block : E.block (message_of x) < E.block (message_of y)

  pub earlier_parts : (x y : Event) → is_earlier E x y ≡ true → EarlierBlock x y
  unfolding is_earlier is_event
  earlier_parts x y h =
      let a = ltb (message_of x) E.count in
      let b = ltb (message_of y) E.count in
      let c = eqb (board_in x) (board_in y) in
      let d = ltb (E.block (message_of x)) (E.block (message_of y)) in
      let abc = and_left (a && b && c) d h in
      let ab = and_left (a && b) c abc in
      record {
        inside = (ltb-true (message_of x) E.count (and_left a b ab), ltb-true (message_of y) E.count (and_right a b ab));
        one_board = eqb-true (board_in x) (board_in y) (and_right (a && b) c abc);
        later_block = ltb-true (E.block (message_of x)) (E.block (message_of y)) (and_right (a && b && c) d h);
      }

  -- The computed test, from the closure of the sources over the event numbers.
  abbrev events_direct : ℕ → ℕ → Bool
  events_direct x y = direct E (event x) (event y)

  pub before_inside : (x y : Event) → (scenario_of E).before x y ≡ true → BothInside x y
  unfolding scenario_of before_table
  before_inside x y h =
      let t = linked_below (2 * E.count) events_direct (2 * E.count) (number x) (number y) h in
      ((below_number x E.count).1 t.0, (below_number y E.count).1 t.1)

  before_direct : (x y : Event) → BothInside x y → direct E x y ≡ true → (scenario_of E).before x y ≡ true
  unfolding scenario_of before_table
  before_direct x y b h =
      closure_holds (2 * E.count) events_direct (number x) (number y)
      ((below_number x E.count).0 b.0)
      ((below_number y E.count).0 b.1)
      (rw (event_number x, event_number y) h)

  -- It holds the three sources and is transitive.
  pub before_row : RowsInside → (x y : Event) → E.ordered x y ≡ true → (scenario_of E).before x y ≡ true
  unfolding direct
  before_row inside x y h =
      before_direct x y (inside x y h)
      (or_left (E.ordered x y || is_own E.count x y) (is_earlier E x y) (or_left (E.ordered x y) (is_own E.count x y) h))

  pub before_own : (x y : Event) → is_own E.count x y ≡ true → (scenario_of E).before x y ≡ true
  unfolding direct
  before_own x y h =
      before_direct x y (own_inside x y h)
      (or_left (E.ordered x y || is_own E.count x y) (is_earlier E x y) (or_right (E.ordered x y) (is_own E.count x y) h))

  pub before_earlier : (x y : Event) → is_earlier E x y ≡ true → (scenario_of E).before x y ≡ true
  unfolding direct
  before_earlier x y h =
      before_direct x y (earlier_parts x y h).inside (or_right (E.ordered x y || is_own E.count x y) (is_earlier E x y) h)

  pub before_transitive : (x y z : Event) → (scenario_of E).before x y ≡ true → (scenario_of E).before y z ≡ true → (scenario_of E).before x z ≡ true
  unfolding scenario_of before_table
  before_transitive x y z p q = closure_transitive (2 * E.count) events_direct (number x) (number y) (number z) p q

  -- It lies inside every transitive relation that holds the three sources.
  pub before_least : (Q : Event → Event → Type 0)
      → ((x y : Event) → E.ordered x y ≡ true → Q x y)
      → ((x y : Event) → is_own E.count x y ≡ true → Q x y)
      → ((x y : Event) → is_earlier E x y ≡ true → Q x y)
      → ((x y z : Event) → Q x y → Q y z → Q x z)
      → (x y : Event) → (scenario_of E).before x y ≡ true → Q x y
  unfolding scenario_of before_table
  before_least Q rows owns earliers transitive x y h =
      subst₂ (λ (a b : Event). Q a b) (event_number x) (event_number y)
      (closure_least (2 * E.count) events_direct (λ a b. Q (event a) (event b)) (λ a b p q d. source (event a) (event b) d)
      (λ a b c p q. transitive (event a) (event b) (event c) p q) (number x) (number y) h)
    where
      source : (a b : Event) → direct E a b ≡ true → Q a b
      source a b d = ⊎_elim (rows a b) (⊎_elim (owns a b) (earliers a b)) (direct_cases a b d)

  -- So the test is exactly the relation.
  before_relation : (x y : Event) → (scenario_of E).before x y ≡ true → Before E x y
  before_relation = before_least (Before E) (λ x y h. row h) (λ x y h. own h) (λ x y h. earlier h) (λ x y z p q. link p q)

  relation_before : RowsInside → {x y : Event} → Before E x y → (scenario_of E).before x y ≡ true
  relation_before inside (row {x = x} {y = y} h) = before_row inside x y h
  relation_before inside (own {x = x} {y = y} h) = before_own x y h
  relation_before inside (earlier {x = x} {y = y} h) = before_earlier x y h
  relation_before inside (link {x = x} {y = y} {z = z} p q) =
      before_transitive x y z (relation_before inside p) (relation_before inside q)

  pub before_exact : RowsInside → (x y : Event) → (scenario_of E).before x y ≡ true ↔ Before E x y
  before_exact inside x y = (before_relation x y, λ p. relation_before inside p)

  -- the two events of every P row are on one board
  abbrev pub RowsOnOneBoard : Type 0
  RowsOnOneBoard = (x y : Event) → E.ordered x y ≡ true → board_in x ≡ board_in y

  -- what is before an event that is at or before another is before that other
  before_at_or_before : (x y z : Event) → (scenario_of E).before x y ≡ true → at_or_before (scenario_of E) y z ≡ true → (scenario_of E).before x z ≡ true
  before_at_or_before x y z p q =
      ⊎_elim
      (λ e. subst (λ (w : Event). (scenario_of E).before x w ≡ true) e p)
      (λ b. before_transitive x y z p b)
      (at_or_before_cases (scenario_of E) y z q)

  -- a link on one board is its own last link
  on_one_board : (x y : Event) → (scenario_of E).before x y ≡ true
      → board_in x ≡ board_in y
      → LastLink (scenario_of E) x y
  unfolding scenario_of
  on_one_board x y b e = inl (x, at_or_before_same (scenario_of E) x x refl, b, e)

  -- the last link of a chain, by induction on the relation
  relation_last : RowsInside → RowsOnOneBoard → {x y : Event} → Before E x y → LastLink (scenario_of E) x y
  relation_last inside one_board (row {x = x} {y = y} h) = on_one_board x y (before_row inside x y h) (one_board x y h)
  relation_last inside one_board (own {x = x} {y = y} h) =
      let p = own_parts E.count x y h in inr (p.0, p.2, at_or_before_same (scenario_of E) x (send_of p.0) p.1)
  relation_last inside one_board (earlier {x = x} {y = y} h) =
      on_one_board x y (before_earlier x y h) (earlier_parts x y h).one_board
  relation_last inside one_board (link {x = x} {y = y} {z = z} p q) = carried (relation_before inside p) (relation_last inside one_board q)
    where
      carried : (scenario_of E).before x y ≡ true → LastLink (scenario_of E) y z → LastLink (scenario_of E) x z
      carried b (inl l) =
          inl (l.0, at_or_before_before (scenario_of E) x l.0 (before_at_or_before x y l.0 b l.1), l.2, l.3)
      carried b (inr l) =
          inr (l.0, l.1, at_or_before_before (scenario_of E) x (send_of l.0) (before_at_or_before x y (send_of l.0) b l.2))

  -- all that the theorem uses of "before", where no event is before itself
  pub causal : RowsInside → RowsOnOneBoard → ((x : Event) → Before E x x → ⊥) → Causal (scenario_of E)
  unfolding scenario_of
  causal inside one_board no_circle =
      record {
        inside = before_inside;
        own = λ m h. before_own (send_of m) (receive_of m) (own_both E.count m h);
        trans = before_transitive;
        irreflexive = λ x b. no_circle x (before_relation x x b);
        last_link = λ x y h. relation_last inside one_board (before_relation x y h);
      }
