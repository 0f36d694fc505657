-- Each row, in the model and in words: the words show a circle exactly where the model has one, and hold the order of the open block
-- behind the row. Assumes nothing.
use Prim.Native.Nat.{ℕ, ◌+◌, ◌*◌, ◌/◌, ◌<◌}
use native.Mathlib.Omega.{arith}
use mathlib.Core.Path.{◌≡◌, refl, sym, subst}
use mathlib.Core.Bool.{true, not, ◌&&◌}
use mathlib.Core.List.{List, [], ◌∷◌}
use mathlib.Core.Option.{some}
use borrow.Author.Tests.{ltb-true}
use lib.Dec.{ltb}
use lib.ListN.{length, length-append}
use Rattle.model.specs.Limits.{sheets, boards, messages_most}
use Rattle.model.specs.Bounded.{among}
use Rattle.model.specs.Rows.{Row, sheet, message, order, block, call, choice}
use Rattle.model.specs.Place.{Place, message_fits, order_fits, moved, circle_at}
use Rattle.model.proofs.Bounded.{and_right}
use Rattle.model.proofs.Standing.{cond_some}
use Rattle.model.proofs.Walked.{order_parts}
use Rattle.model.proofs.Block.{Inside}
use Rattle.model.proofs.Clean.{Ordered}
use Rattle.relation.specs.Width.{width}
use Rattle.block_order.specs.Noted.{begun, noted, circles}
use Rattle.block_order.proofs.Held.{HoldsOrder, held_empty, held_message, held_order, circle_held}

-- the words hold the order of the block that is open at a place
abbrev pub HeldAt : Place → List ℕ → Type 0
HeldAt p words = HoldsOrder (length p.events) p.orders words

module _ (p : Place) (words : List ℕ) (ordered : Ordered (length p.events) p.orders) (held : HeldAt p words) where
  -- the number of messages, and twice it
  half : length p.events / 2 ≡ ordered.messages
  half = omega (arith, ordered.two_each)

  twice : 2 * (length p.events / 2) ≡ length p.events
  twice = omega (arith, ordered.two_each)

  order_circle : (x y : ℕ) → order_fits p.events x y ≡ true
      → circle_at (order x y) (record { opened = p.opened; events = p.events; orders = (x, y) ∷ p.orders }) ≡ circles words (order x y)
  unfolding circle_at circles
  order_circle x y f =
      let o = order_parts p.events x y f in
      sym
      (circle_held (length p.events) x y p.orders ordered.inside o.first_there o.second_there words held o.differ
      ordered.no_circle)

  order_held : (x y : ℕ) → order_fits p.events x y ≡ true
      → HoldsOrder (length p.events) ((x, y) ∷ p.orders) (noted words (length p.events / 2) (order x y))
  unfolding noted
  order_held x y f =
      let o = order_parts p.events x y f in
      rw twice (held_order (length p.events) x y p.orders ordered.inside o.first_there o.second_there words held)

  message_held : (a b : ℕ) → message_fits p.events a b ≡ true
      → HoldsOrder (length p.events + 2) p.orders (noted words (length p.events / 2) (message a b))
  unfolding noted message_fits
  message_held a b f =
      let m = ordered.messages in
      let l : length p.events < 2 * messages_most = ltb-true (length p.events) (2 * messages_most) (and_right (ltb a boards && ltb b boards) (ltb (length p.events) (2 * messages_most)) f) in
      let inside : Inside (2 * m) p.orders = subst (λ (k : ℕ). Inside k p.orders) ordered.two_each ordered.inside in
      let held' : HoldsOrder (2 * m) p.orders words = subst (λ (k : ℕ). HoldsOrder k p.orders words) ordered.two_each held in
      rw half
      (subst (λ (k : ℕ). HoldsOrder (k + 2) p.orders (begun width words m)) (sym ordered.two_each)
      (held_message m p.orders inside words held' (omega (arith, ordered.two_each))))

  pub circle_same : (r : Row) (q : Place) → moved p r ≡ some q → circle_at r q ≡ circles words r
  unfolding moved circle_at circles
  circle_same (sheet n) q e = refl
  circle_same (message a b) q e = refl
  circle_same (order x y) q e =
      let t = cond_some (order_fits p.events x y) _ q e in
      subst (λ (z : Place). circle_at (order x y) z ≡ circles words (order x y)) t.1 (order_circle x y t.0)
  circle_same block q e = refl
  circle_same (call n) q e = refl
  circle_same (choice m n) q e = refl

  pub held_behind : (r : Row) (q : Place) → moved p r ≡ some q → HeldAt q (noted words (length p.events / 2) r)
  unfolding moved noted
  held_behind (sheet n) q e =
      subst (λ (z : Place). HeldAt z words) (cond_some (ltb n sheets && not (among n p.opened)) _ q e).1 (held_empty words held.long)
  held_behind (message a b) q e =
      let t = cond_some (message_fits p.events a b) _ q e in
      subst (λ (z : Place). HeldAt z (noted words (length p.events / 2) (message a b))) t.1
      (rw (length-append p.events (a ∷ b ∷ [])) (message_held a b t.0))
  held_behind (order x y) q e =
      let t = cond_some (order_fits p.events x y) _ q e in
      subst (λ (z : Place). HeldAt z (noted words (length p.events / 2) (order x y))) t.1 (order_held x y t.0)
  held_behind block q e = subst (λ (z : Place). HeldAt z words) (cond_some true _ q e).1 (held_empty words held.long)
  held_behind (call n) q e = subst (λ (z : Place). HeldAt z words) (cond_some (ltb n sheets) _ q e).1 (held_empty words held.long)
  held_behind (choice m n) q e =
      subst (λ (z : Place). HeldAt z words) (cond_some (ltb m sheets && ltb n sheets) _ q e).1 (held_empty words held.long)
