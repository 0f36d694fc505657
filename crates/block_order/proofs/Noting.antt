-- Each way through the code is a part of `begun`, `noted` and `circles`. Assumes nothing.
use Prim.Native.Nat.{ℕ, ◌+◌, ◌*◌, ◌<◌}
use Prim.Native.Char.{code}
use mathlib.Core.Path.{◌≡◌, refl, ◌∙◌, ap, subst}
use mathlib.Core.Bool.{Bool, true, false, cond}
use mathlib.Core.List.{List}
use borrow.Author.Tests.{ne_eqb}
use lib.Dec.{eqb}
use lib.ListN.{length}
use Rattle.model.specs.Limits.{messages_most}
use Rattle.model.specs.Rows.{sheet, order, block, call, choice}
use Rattle.relation.specs.Width.{width}
use Rattle.relation.specs.Rows.{holds, marked}
use Rattle.relation.proofs.Marked.{length_marked}
use Rattle.joined_rows.specs.Joins.{copied_from}
use Rattle.closure.specs.Insertion.{inserted}
use Rattle.joined_rows.proofs.Joined.{length_copied_from}
use Rattle.closure.proofs.Inserted.{length_inserted}
use Rattle.place.specs.Letters.{row_from}
use Rattle.place.proofs.Letters.{row_message, row_order}
use Rattle.block_order.specs.Noted.{nothing, begun, noted, circles, Within, NotedAs}

-- a message's rows, by the three calls that make them
pub begun_parts : (words sent received exit : List ℕ) (m : ℕ) → exit ≡ marked width received (2 * m + 1) (2 * m)
    → received ≡ copied_from width sent (2 * m + 1) (nothing width) 0 → sent ≡ copied_from width words (2 * m) (nothing width) 0
    → exit ≡ begun width words m
unfolding begun
begun_parts words sent received exit m e f g = rw (e, f, g)

begun_length : (words : List ℕ) (m : ℕ) → length (begun width words m) ≡ length words
unfolding begun
begun_length words m =
    let sent = copied_from width words (2 * m) (nothing width) 0 in
    length_marked width _ (2 * m + 1) (2 * m)
    ∙ length_copied_from width sent (2 * m + 1) (nothing width) 0
    ∙ length_copied_from width words (2 * m) (nothing width) 0

-- a P row, by the test for a circle
module _ (words : List ℕ) (m x y : ℕ) (t : Bool) (e : t ≡ holds width words x y) where
  pub order_circle : t ≡ true → NotedAs words m (order x y) words true
  unfolding circles
  order_circle f = record { found = rw (← e, f); left = refl; long = refl }

  pub order_more : (exit : List ℕ) → t ≡ false → exit ≡ inserted width words x y 0 (2 * m) → NotedAs words m (order x y) exit false
  unfolding circles noted
  order_more exit f g = record { found = rw (← e, f); left = g; long = ap length g ∙ length_inserted width words x y 0 (2 * m) }

-- a row by its letter
module _ (k a b m : ℕ) where
  pub within_message : Within m (row_from k a b) → k ≡ code "M" → m < messages_most
  within_message w e = subst (Within m) (row_message k a b e) w

  within_order : Within m (row_from k a b) → k ≡ code "P" → (a < 2 * m) × (b < 2 * m)
  within_order w e = subst (Within m) (row_order k a b e) w

  pub within_first : Within m (row_from k a b) → k ≡ code "P" → a < 2 * m
  within_first w e = (within_order w e).0

  pub within_second : Within m (row_from k a b) → k ≡ code "P" → b < 2 * m
  within_second w e = (within_order w e).1

  module _ (words : List ℕ) where
    pub noted_message : (exit : List ℕ) → k ≡ code "M" → exit ≡ begun width words m → NotedAs words m (row_from k a b) exit false
    unfolding noted circles
    noted_message exit e f = rw (row_message k a b e) (record { found = refl; left = f; long = ap length f ∙ begun_length words m })

    pub noted_order : (r : Bool) (exit : List ℕ) → k ≡ code "P" → NotedAs words m (order a b) exit r → NotedAs words m (row_from k a b) exit r
    noted_order r exit e f = rw (row_order k a b e) f

    pub noted_other : (k ≡ code "M" → ⊥) → (k ≡ code "P" → ⊥) → NotedAs words m (row_from k a b) words false
    unfolding noted circles row_from
    noted_other e f = rw (ne_eqb k (code "M") e, ne_eqb k (code "P") f) (go (eqb k (code "S")) (eqb k (code "C")) (eqb k (code "A")))
      where
        go : (s c d : Bool) → NotedAs words m (cond s (sheet a) (cond c (call a) (cond d (choice a b) block))) words false
        go true c d = record { found = refl; left = refl; long = refl }
        go false true d = record { found = refl; left = refl; long = refl }
        go false false true = record { found = refl; left = refl; long = refl }
        go false false false = record { found = refl; left = refl; long = refl }
