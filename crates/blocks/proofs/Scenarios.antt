-- The scenario that the store holds is the model's: the rows hold exactly "before".
-- Assumes nothing.
use Prim.Native.Nat.{ℕ, ◌+◌, ◌*◌, ◌/◌, ◌%◌, ◌<◌}
use native.Mathlib.Omega.{arith}
use mathlib.Core.Path.{◌≡◌, refl, sym, ◌∙◌, ap, subst₂, fun_ext}
use mathlib.Core.Bool.{Bool, true, false, cond, ◌&&◌}
use mathlib.Core.List.{List, []}
use lib.Dec.{eqb, ltb}
use lib.ListN.{get_or}
use borrow.Author.Tests.{lt-ltb, ltb-true, eq-eqb}
use Rattle.model.specs.Refusal.{Out, ok, and_then}
use Rattle.model.specs.Rows.{Row}
use Rattle.model.specs.Expansion.{Walk, Progress, expand}
use Rattle.model.specs.Order.{Event, send_of, receive_of, number, event, message_of, is_event, is_own, is_earlier, Scenario, Met, exchange_of, scenario_of}
use Rattle.model.proofs.Bounded.{and_left, and_right, and_both}
use Rattle.model.proofs.Events.{event_number, number_event, own_parts, below_number, below_event}
use Rattle.model.proofs.Order.{board_in, EarlierBlock, earlier_parts, before_row, before_own, before_earlier, before_transitive, before_least}
use Rattle.model.proofs.Standing.{Fits}
use Rattle.model.proofs.Walked.{Sound}
use Rattle.model.proofs.Accepted.{board_at, rows_inside}
use Rattle.relation.specs.Width.{width}
use Rattle.relation.specs.Rows.{holds}
use Rattle.relation.specs.Scenario.{scenario_in}
use Rattle.relation.proofs.Tests.{both_ways}
use Rattle.blocks.specs.Store.{Store, store_ops, concluded, counted_with}
use Rattle.blocks.proofs.Sim.{Orders, Sim, Begins, in_row}
use Rattle.blocks.proofs.Together.{met, Match, going, stopped, expand_match}

-- the message of an event number
message_half : (k : ℕ) → message_of (event k) ≡ k / 2
unfolding event message_of
message_half k = go (eqb (k % 2) 0)
  where
    go : (b : Bool) → message_of (cond b (send_of (k / 2)) (receive_of (k / 2))) ≡ k / 2
    go true = refl
    go false = refl

half_number : (x : Event) → number x / 2 ≡ message_of x
unfolding number message_of
half_number (send_of m) = omega arith
half_number (receive_of m) = omega arith

module _ (w : Walk) (m : Met) (t : Store) (h : Sound (met w m)) (r : Sim w m t) where
  abbrev S : Scenario
  S = scenario_of (exchange_of (met w m))

  -- "before", by event number, holds the sources and is transitive
  abbrev numbered : ℕ → ℕ → Bool
  numbered a b = S.before (event a) (event b)

  own_before : (k : ℕ) → k < w.count → numbered (2 * k) (2 * k + 1) ≡ true
  unfolding number is_own exchange_of scenario_of
  own_before k l =
      rw (event_number (send_of k), event_number (receive_of k))
      (before_own (exchange_of (met w m)) (send_of k) (receive_of k) (and_both (eqb k k) (ltb k w.count) (eq-eqb k k refl) (lt-ltb k w.count l)))

  earlier_before : (x y : ℕ) → x < 2 * w.count → y < 2 * w.count → get_or m.events x 0 ≡ get_or m.events y 0
      → get_or m.blocks (x / 2) 0 < get_or m.blocks (y / 2) 0
      → numbered x y ≡ true
  unfolding is_earlier is_event exchange_of
  earlier_before x y lx ly e l =
      let E = exchange_of (met w m) in
      let a = ltb (message_of (event x)) w.count in
      let b = ltb (message_of (event y)) w.count in
      let c = eqb (board_in E (event x)) (board_in E (event y)) in
      let d = ltb (get_or m.blocks (message_of (event x)) 0) (get_or m.blocks (message_of (event y)) 0) in
      let one : board_in E (event x) ≡ board_in E (event y) =
      board_at (met w m) (event x) ∙ ap (λ (k : ℕ). get_or m.events k 0) (number_event x) ∙ e
      ∙ sym (board_at (met w m) (event y) ∙ ap (λ (k : ℕ). get_or m.events k 0) (number_event y)) in
      before_earlier E (event x) (event y)
      (and_both (a && b && c) d
      (and_both (a && b) c
      (and_both a b
      (lt-ltb (message_of (event x)) w.count (below_event x w.count lx))
      (lt-ltb (message_of (event y)) w.count (below_event y w.count ly)))
      (eq-eqb (board_in E (event x)) (board_in E (event y)) one))
      (lt-ltb (get_or m.blocks (message_of (event x)) 0) (get_or m.blocks (message_of (event y)) 0) (rw (message_half x, message_half y) l)))

  before_orders : Orders w.count m.events m.blocks m.orders numbered
  unfolding exchange_of
  before_orders =
      record {
        rows = λ x y l. before_row (exchange_of (met w m)) (rows_inside (met w m) h) (event x) (event y) (rw (number_event x, number_event y) l);
        owns = own_before;
        earliers = earlier_before;
        closed = λ x y z lx ly lz p q. before_transitive (exchange_of (met w m)) (event x) (event y) (event z) p q;
      }

  -- two events of the scenario, the one in the other's row
  Held : Event → Event → Type 0
  Held x y = (message_of x < w.count) × (message_of y < w.count) × (in_row t (number x) (number y) ≡ true)

  held_before : (x y : Event) → Held x y → S.before x y ≡ true
  unfolding Held
  held_before x y p =
      subst₂ (λ (u v : Event). S.before u v ≡ true) (event_number x) (event_number y)
      (r.least numbered before_orders (number x) (number y) ((below_number x w.count).0 p.0) ((below_number y w.count).0 p.1) p.2)

  held_row : (x y : Event) → (exchange_of (met w m)).ordered x y ≡ true → Held x y
  unfolding Held exchange_of
  held_row x y l = let p = rows_inside (met w m) h x y l in (p.0, p.1, r.ordered.rows (number x) (number y) l)

  held_own : (x y : Event) → is_own (exchange_of (met w m)).count x y ≡ true → Held x y
  unfolding Held exchange_of number message_of
  held_own x y l =
      let p = own_parts (exchange_of (met w m)).count x y l in
      subst₂ Held (sym p.1) (sym p.2) (p.3, p.3, r.ordered.owns p.0 p.3)

  held_earlier : (x y : Event) → is_earlier (exchange_of (met w m)) x y ≡ true → Held x y
  unfolding Held exchange_of
  held_earlier x y l =
      let p : EarlierBlock (exchange_of (met w m)) x y = earlier_parts (exchange_of (met w m)) x y l in (
        p.inside.0,
        p.inside.1,
        r.ordered.earliers (number x) (number y) ((below_number x w.count).0 p.inside.0) ((below_number y w.count).0 p.inside.1)
            (sym (board_at (met w m) x) ∙ p.one_board ∙ board_at (met w m) y) (rw (half_number x, half_number y) p.later_block),
      )

  held_through : (x y z : Event) → Held x y → Held y z → Held x z
  unfolding Held
  held_through x y z p q = (
    p.0,
    q.1,
    r.ordered.closed (number x) (number y) (number z) ((below_number x w.count).0 p.0) ((below_number y w.count).0 p.1) ((below_number z w.count).0 q.1) p.2 q.2,
  )

  before_held : (x y : Event) → S.before x y ≡ true → Held x y
  before_held = before_least (exchange_of (met w m)) Held held_row held_own held_earlier held_through

  -- so the test is the same
  abbrev S' : Scenario
  S' = scenario_in w.count t.events t.words

  before_same : (x y : Event) → S'.before x y ≡ S.before x y
  unfolding Held
  before_same x y =
      let a = ltb (message_of x) w.count in
      let b = ltb (message_of y) w.count in
      let i = holds width t.words (number y) (number x) in
      both_ways (a && b && i) (S.before x y)
      (λ p. held_before x y (
        ltb-true (message_of x) w.count (and_left a b (and_left (a && b) i p)),
        ltb-true (message_of y) w.count (and_right a b (and_left (a && b) i p)),
        and_right (a && b) i p,
      ))
      (λ p. let q = before_held x y p in
      and_both (a && b) i (and_both a b (lt-ltb (message_of x) w.count q.0) (lt-ltb (message_of y) w.count q.1)) q.2)

  pub scenario_same : S' ≡ S
  unfolding scenario_of exchange_of
  scenario_same = λ i. record {
    count = w.count;
    source = fun_ext (λ k. r.same_boards (2 * k)) i;
    target = fun_ext (λ k. r.same_boards (2 * k + 1)) i;
    before = fun_ext (λ x. fun_ext (λ y. before_same x y)) i;
  }

match_concluded : {o : Out (Progress Met)} {o' : Out (Progress Store)} → Match o o'
    → and_then o' concluded ≡ and_then o (λ s. ok (scenario_of (exchange_of s), s.walk.choices))
unfolding and_then
match_concluded (going {w = w} {m = m} {t = t} h r) = rw (scenario_same w m t h r)
match_concluded stopped = refl

-- The rows of a sheet file that fits, walked with the store, give the scenario or the refusal of the paper.
pub expanded_same : (options : List Bool) (file : List Row) → Fits [] file → (t : Store) → Begins t
    → and_then (expand store_ops options file t) concluded ≡ counted_with options file
unfolding counted_with
expanded_same options file fits t z = match_concluded (expand_match options file fits t z)
