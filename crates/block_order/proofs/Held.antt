-- The words hold the open block's order behind every row, as long as the block has no circle. Assumes nothing.
use Prim.Native.Nat.{ℕ, ◌+◌, ◌*◌, ◌/◌, ◌%◌, ◌<◌, ◌≤◌}
use native.Mathlib.Decide.{ℕ_discrete, dec_le}
use native.Mathlib.Nat.{mul-le-mul_right}
use native.Mathlib.Omega.{arith}
use mathlib.Core.Path.{◌≡◌, refl, sym, ◌∙◌, ap, subst}
use mathlib.Core.Logic.{◌⊎◌, inl, inr, ⊎_elim}
use mathlib.Core.Bool.{Bool, true, false, ◌&&◌, ◌||◌, and-false, and-eq-true_iff}
use mathlib.Core.List.{List, [], ◌∷◌}
use lib.Dec.{eqb}
use lib.ListN.{length}
use borrow.Author.Tests.{eqb-true, eq-eqb, ne_eqb}
use Rattle.model.specs.Limits.{messages_most}
use Rattle.model.specs.Closure.{reads}
use Rattle.model.specs.Place.{BlockBefore, given, through, block_table, block_circle}
use Rattle.model.proofs.Bounded.{or_cases, or_left, or_right, both_ways}
use Rattle.model.proofs.Lists.{replicate_at}
use Rattle.model.proofs.Block.{Inside, inside_more, listed_first, block_before, NoCircle, before_below, before_transitive, block_exact, before_more, more_split, circle_exactly, message_old, message_new, message_split}
use Rattle.relation.specs.Width.{width, word_bits}
use Rattle.relation.specs.Rows.{holds}
use Rattle.relation.specs.Order.{before, Transitive}
use Rattle.relation.proofs.Bits.{has_zero}
use Rattle.relation.proofs.Marked.{length_marked, holds_marked}
use Rattle.relation.proofs.Order.{Covers, linked}
use Rattle.joined_rows.specs.Joins.{copied_from}
use Rattle.closure.specs.Insertion.{inserted}
use Rattle.joined_rows.proofs.Joined.{length_copied_from, copied_row, copied_other}
use Rattle.closure.proofs.Inserted.{length_inserted, holds_inserted}
use Rattle.closure.proofs.Closed.{inserted_linked}
use Rattle.block_order.specs.Noted.{nothing, begun}

-- The words hold the order of a block of n events: event x is in row y exactly if it is before y.
pub record HoldsOrder (n : ℕ) (orders : List (ℕ × ℕ)) (words : List ℕ) : Type 0 where
  pub long : length words ≡ 2 * messages_most * width
  pub few : n ≤ 2 * messages_most
  pub held : (x y : ℕ) → x < word_bits * width → y < n → holds width words y x ≡ reads (block_table n orders) x y

-- a test that is true only where it is not is false
never : (b : Bool) → (b ≡ true → ⊥) → b ≡ false
never true h = absurd (h refl)
never false h = refl

-- what stands outside the block is before nothing
outside_first : (n : ℕ) (orders : List (ℕ × ℕ)) (a b : ℕ) → n ≤ a → block_before n orders a b ≡ false
outside_first n orders a b h = never (block_before n orders a b) (λ t. omega (arith, (before_below n orders a b t).0))

-- a block of no events, whatever the words hold
pub held_empty : (words : List ℕ) → length words ≡ 2 * messages_most * width → HoldsOrder 0 [] words
held_empty words long = record { long = long; few = omega arith; held = λ x y h l. absurd (omega arith) }

-- One P row more.
module _ (n x y : ℕ) (orders : List (ℕ × ℕ)) (inside : Inside n orders) (hx : x < n) (hy : y < n) where
  abbrev more : List (ℕ × ℕ)
  more = (x, y) ∷ orders

  exact : (a b : ℕ) → block_before n orders a b ≡ true → BlockBefore n orders a b
  exact a b = (block_exact n orders inside a b).0

  -- the block's order with the row is its order with one pair more
  more_linked : (a b : ℕ) → block_before n more a b ≡ linked (block_before n orders) x y a b
  more_linked a b = both_ways (block_before n more a b) (linked (block_before n orders) x y a b) to from
    where
      at_or_before : (p q r s : ℕ) → (p ≡ q) ⊎ BlockBefore n orders r s → eqb p q ≡ true ⊎ (block_before n orders r s ≡ true)
      at_or_before p q r s (inl e) = inl (eq-eqb p q e)
      at_or_before p q r s (inr h) = inr ((block_exact n orders inside r s).1 h)

      either : (s t : Bool) → (s ≡ true) ⊎ (t ≡ true) → (s || t) ≡ true
      either s t (inl h) = or_left s t h
      either s t (inr h) = or_right s t h

      turned : (y ≡ b) ⊎ BlockBefore n orders y b → (b ≡ y) ⊎ BlockBefore n orders y b
      turned (inl e) = inl (sym e)
      turned (inr h) = inr h

      to : block_before n more a b ≡ true → linked (block_before n orders) x y a b ≡ true
      to t =
          ⊎_elim
          (λ h. or_left (block_before n orders a b) _ ((block_exact n orders inside a b).1 h))
          (λ w. or_right (block_before n orders a b) _
          ((and-eq-true_iff (eqb a x || block_before n orders a x) (eqb b y || block_before n orders y b)).1 (
            either (eqb a x) (block_before n orders a x) (at_or_before a x a x w.0),
            either (eqb b y) (block_before n orders y b) (at_or_before b y y b (turned w.1)),
          )))
          (more_split n x y orders ((block_exact n more (inside_more n x y orders inside hx hy) a b).0 t))

      up : {p q : ℕ} → block_before n orders p q ≡ true → BlockBefore n more p q
      up {p} {q} t = before_more n x y orders (exact p q t)

      row : BlockBefore n more x y
      row = given (listed_first x y orders)

      begins : (eqb a x || block_before n orders a x) ≡ true → BlockBefore n more a y
      begins t =
          ⊎_elim (λ e. subst (λ (z : ℕ). BlockBefore n more z y) (sym (eqb-true a x e)) row) (λ h. through (up h) row)
          (or_cases (eqb a x) (block_before n orders a x) t)

      ends : (eqb b y || block_before n orders y b) ≡ true → BlockBefore n more a y → BlockBefore n more a b
      ends t p =
          ⊎_elim (λ e. subst (λ (z : ℕ). BlockBefore n more a z) (sym (eqb-true b y e)) p) (λ h. through p (up h))
          (or_cases (eqb b y) (block_before n orders y b) t)

      from : linked (block_before n orders) x y a b ≡ true → block_before n more a b ≡ true
      from t =
          (block_exact n more (inside_more n x y orders inside hx hy) a b).1
          (⊎_elim up
          (λ w. let both = (and-eq-true_iff (eqb a x || block_before n orders a x) (eqb b y || block_before n orders y b)).0 w in
          ends both.1 (begins both.0))
          (or_cases (block_before n orders a b) _ t))

  module _ (words : List ℕ) (h : HoldsOrder n orders words) where
    -- the events' bits are in a row
    columns : n ≤ word_bits * width
    columns = h.few

    held_at : (a b : ℕ) → a < n → b < n → before width words a b ≡ block_before n orders a b
    held_at a b ha hb = h.held a b (omega (arith, columns)) hb

    closed : Transitive n (before width words)
    closed a b c ha hb hc p q =
        held_at a c ha hc
        ∙ before_transitive n orders a b c (sym (held_at a b ha hb) ∙ p) (sym (held_at b c hb hc) ∙ q)

    room : n * width ≤ length words
    room = omega (arith, mul-le-mul_right width h.few, h.long)

    covers : Covers width words n y 0 n
    covers b hb out = absurd (out (omega arith) hb)

    same_linked : (a b : ℕ) → a < n → b < n → linked (before width words) x y a b ≡ linked (block_before n orders) x y a b
    same_linked a b ha hb = rw (held_at a b ha hb, held_at a x ha hx, held_at y b hy hb)

    inside_row : (a b : ℕ) → a < n → b < n → holds width (inserted width words x y 0 n) b a ≡ block_before n more a b
    inside_row a b ha hb =
        inserted_linked width n words x y 0 n columns hx hy room covers closed a b ha hb ∙ same_linked a b ha hb ∙ sym (more_linked a b)

    outside_row : (a b : ℕ) → n ≤ a → a < word_bits * width → b < n → holds width (inserted width words x y 0 n) b a ≡ block_before n more a b
    outside_row a b far ha hb =
        holds_inserted width words x y 0 n b a room (omega (arith, columns)) (omega (arith, columns)) ha
        ∙ rw (
          h.held a b ha hb,
          h.held a x ha hx,
          outside_first n orders a b far,
          outside_first n orders a x far,
          outside_first n more a b far,
          ne_eqb a x (λ e. omega arith),
        ) (simp and-false)

    -- The row makes a circle exactly if y is in row x; and the words with x put before y hold the order with the row.
    pub circle_held : (x ≡ y → ⊥) → NoCircle n orders → holds width words x y ≡ block_circle n more
    circle_held two none = held_at y x hy hx ∙ sym (circle_exactly n x y orders inside hx hy two none)

    pub held_order : HoldsOrder n more (inserted width words x y 0 n)
    held_order =
        record {
          long = length_inserted width words x y 0 n ∙ h.long;
          few = h.few;
          held = λ a b ha hb. go a b ha hb (dec_le n a);
        }
      where
        go : (a b : ℕ) → a < word_bits * width → b < n → Dec (n ≤ a) → holds width (inserted width words x y 0 n) b a ≡ block_before n more a b
        go a b ha hb (yes far) = outside_row a b far ha hb
        go a b ha hb (no near) = inside_row a b (omega arith) hb

-- One message more.
module _ (m : ℕ) (orders : List (ℕ × ℕ)) (inside : Inside (2 * m) orders) (words : List ℕ) (h : HoldsOrder (2 * m) orders words)
    (few : m < messages_most) where
  abbrev send : ℕ
  send = 2 * m

  abbrev receive : ℕ
  receive = 2 * m + 1

  abbrev sent : List ℕ
  sent = copied_from width words send (nothing width) 0

  abbrev received : List ℕ
  received = copied_from width sent receive (nothing width) 0

  long_sent : length sent ≡ 2 * messages_most * width
  long_sent = length_copied_from width words send (nothing width) 0 ∙ h.long

  long_received : length received ≡ 2 * messages_most * width
  long_received = length_copied_from width sent receive (nothing width) 0 ∙ long_sent

  row_room : (e : ℕ) → e < 2 * messages_most → e * width + width ≤ 2 * messages_most * width
  row_room e l = omega (arith, mul-le-mul_right width l)

  send_room : send * width + width ≤ length words
  send_room = omega (arith, row_room send (omega arith), h.long)

  receive_room : receive * width + width ≤ length sent
  receive_room = omega (arith, row_room receive (omega arith), long_sent)

  mark_room : receive * width + width ≤ length received
  mark_room = omega (arith, row_room receive (omega arith), long_received)

  empty_row : (a : ℕ) → holds width (nothing width) 0 a ≡ false
  unfolding holds
  empty_row a = rw (replicate_at {A = ℕ} width (0 * width + a / word_bits) 0) (has_zero (a % word_bits))

  -- behind the two copies: rows of other events as they were, and both of the message's rows empty
  copied : (a b : ℕ) → a < word_bits * width → b < 2 * m → holds width received b a ≡ block_before (2 * m) orders a b
  copied a b ha hb =
      copied_other width sent receive (nothing width) 0 b a receive_room ha (λ e. omega arith)
      ∙ copied_other width words send (nothing width) 0 b a send_room ha (λ e. omega arith)
      ∙ h.held a b ha hb

  copied_empty : (a b : ℕ) → a < word_bits * width → (b ≡ send) ⊎ (b ≡ receive) → holds width received b a ≡ false
  copied_empty a b ha (inl e) =
      copied_other width sent receive (nothing width) 0 b a receive_room ha (λ f. omega arith)
      ∙ copied_row width words send (nothing width) 0 b a send_room ha e
      ∙ empty_row a
  copied_empty a b ha (inr e) = copied_row width sent receive (nothing width) 0 b a receive_room ha e ∙ empty_row a

  inside_more_events : Inside (2 * m + 2) orders
  inside_more_events x y l = let p = inside x y l in (omega (arith, p.0), omega (arith, p.1))

  -- the block's order with the message is its order and the message's own pair
  own : (a b : ℕ) → block_before (2 * m + 2) orders a b ≡ (block_before (2 * m) orders a b || eqb b receive && eqb a send)
  own a b = both_ways _ _ to from
    where
      to : block_before (2 * m + 2) orders a b ≡ true → (block_before (2 * m) orders a b || eqb b receive && eqb a send) ≡ true
      to t =
          ⊎_elim
          (λ p. or_left (block_before (2 * m) orders a b) _ ((block_exact (2 * m) orders inside a b).1 p))
          (λ p. or_right (block_before (2 * m) orders a b) _ (rw (eq-eqb a send p.0, eq-eqb b receive p.1)))
          (message_split m orders inside ((block_exact (2 * m + 2) orders inside_more_events a b).0 t))

      from : (block_before (2 * m) orders a b || eqb b receive && eqb a send) ≡ true → block_before (2 * m + 2) orders a b ≡ true
      from t =
          (block_exact (2 * m + 2) orders inside_more_events a b).1
          (⊎_elim
          (λ p. message_old m orders inside ((block_exact (2 * m) orders inside a b).0 p))
          (λ p. let both = (and-eq-true_iff (eqb b receive) (eqb a send)).0 p in
          rw (eqb-true b receive both.0, eqb-true a send both.1) (message_new m orders inside))
          (or_cases (block_before (2 * m) orders a b) _ t))

  no_new : (a b : ℕ) → 2 * m ≤ b → block_before (2 * m) orders a b ≡ false
  no_new a b l = never (block_before (2 * m) orders a b) (λ t. omega (arith, (before_below (2 * m) orders a b t).1))

  -- the two rows made anew, and the send marked in the receive's, hold the order with the message
  pub held_message : HoldsOrder (2 * m + 2) orders (begun width words m)
  unfolding begun
  held_message =
      record {
        long = length_marked width received receive send ∙ long_received;
        few = omega arith;
        held = λ a b ha hb.
            holds_marked width received receive send b a mark_room (omega arith) ha
            ∙ ap (λ (t : Bool). t || eqb b receive && eqb a send) (rows a b ha hb (dec_le (2 * m) b))
            ∙ sym (own a b);
      }
    where
      rows : (a b : ℕ) → a < word_bits * width → b < 2 * m + 2 → Dec (2 * m ≤ b) → holds width received b a ≡ block_before (2 * m) orders a b
      rows a b ha hb (no near) = copied a b ha (omega arith)
      rows a b ha hb (yes far) = copied_empty a b ha (which_row (ℕ_discrete b send)) ∙ sym (no_new a b far)
        where
          which_row : Dec (b ≡ send) → (b ≡ send) ⊎ (b ≡ receive)
          which_row (yes e) = inl e
          which_row (no f) = inr (omega arith)
