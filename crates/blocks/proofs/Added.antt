-- What `added` means: the send's row is its board's past; the receive's is its board's past, the send's row and the send; and every
-- other row is as it was. Assumes nothing.
use Prim.Native.Nat.{ℕ, ◌+◌, ◌*◌, ◌<◌, ◌≤◌}
use native.Mathlib.Nat.{mul-le-mul_right}
use native.Mathlib.Omega.{arith}
use mathlib.Core.Path.{◌≡◌, refl, ◌∙◌, ap}
use mathlib.Core.Bool.{Bool, ◌&&◌, ◌||◌, or-false}
use mathlib.Core.List.{List}
use lib.Dec.{eqb}
use lib.ListN.{length}
use borrow.Author.Tests.{eq-eqb, ne_eqb}
use Rattle.relation.specs.Width.{word_bits}
use Rattle.relation.specs.Rows.{holds}
use Rattle.relation.proofs.Marked.{length_marked, holds_marked}
use Rattle.joined_rows.specs.Joins.{joined, copied_from}
use Rattle.joined_rows.proofs.Joined.{length_joined, holds_joined, length_copied_from, copied_row, copied_other}
use Rattle.blocks.specs.Store.{begun, added}

module _ (W : ℕ) (words past : List ℕ) (m a b : ℕ) where
  length_begun : length (begun W words past m a b) ≡ length words
  unfolding begun
  length_begun = length_copied_from W _ _ _ _ ∙ length_copied_from W _ _ _ _

  pub length_added : length (added W words past m a b) ≡ length words
  unfolding added
  length_added = length_marked W _ _ _ ∙ length_joined W _ _ _ ∙ length_begun

  module _ (room : (2 * m + 1) * W + W ≤ length words) (x : ℕ) (hx : x < word_bits * W) where
    -- the two rows begun: each is its board's past
    begun_send : holds W (begun W words past m a b) (2 * m) x ≡ holds W past a x
    unfolding begun
    begun_send =
        let le : 2 * m ≤ 2 * m + 1 = omega arith in
        let d : 2 * m ≡ 2 * m + 1 → ⊥ = λ e. omega arith in
        copied_other W (copied_from W words (2 * m) past a) (2 * m + 1) past b (2 * m) x (omega (arith, length_copied_from W words (2 * m) past a)) hx d
        ∙ copied_row W words (2 * m) past a (2 * m) x (omega (arith, mul-le-mul_right W le)) hx refl

    begun_receive : holds W (begun W words past m a b) (2 * m + 1) x ≡ holds W past b x
    unfolding begun
    begun_receive =
        copied_row W (copied_from W words (2 * m) past a) (2 * m + 1) past b (2 * m + 1) x (omega (arith, length_copied_from W words (2 * m) past a)) hx refl

    begun_other : (y : ℕ) → (y ≡ 2 * m → ⊥) → (y ≡ 2 * m + 1 → ⊥) → holds W (begun W words past m a b) y x ≡ holds W words y x
    unfolding begun
    begun_other y s r =
        let le : 2 * m ≤ 2 * m + 1 = omega arith in
        copied_other W (copied_from W words (2 * m) past a) (2 * m + 1) past b y x (omega (arith, length_copied_from W words (2 * m) past a)) hx r
        ∙ copied_other W words (2 * m) past a y x (omega (arith, mul-le-mul_right W le)) hx s

    module _ (hm : 2 * m < word_bits * W) where
      holds_added : (y : ℕ) → holds W (added W words past m a b) y x
          ≡ ((holds W (begun W words past m a b) y x || eqb y (2 * m + 1) && holds W (begun W words past m a b) (2 * m) x)
          || eqb y (2 * m + 1) && eqb x (2 * m))
      unfolding added
      holds_added y =
          let l = begun W words past m a b in
          holds_marked W (joined W l (2 * m + 1) (2 * m)) (2 * m + 1) (2 * m) y x (omega (arith, length_joined W l (2 * m + 1) (2 * m), length_begun)) hm hx
          ∙ ap (λ (t : Bool). t || eqb y (2 * m + 1) && eqb x (2 * m))
          (holds_joined W l (2 * m + 1) (2 * m) y x (omega (arith, length_begun)) hx)

      -- a row that is not the receive's is as it was begun
      added_begun : (y : ℕ) → (y ≡ 2 * m + 1 → ⊥) → holds W (added W words past m a b) y x ≡ holds W (begun W words past m a b) y x
      added_begun y r = holds_added y ∙ rw (ne_eqb y (2 * m + 1) r, or-false, or-false)

      pub added_other : (y : ℕ) → (y ≡ 2 * m → ⊥) → (y ≡ 2 * m + 1 → ⊥) → holds W (added W words past m a b) y x ≡ holds W words y x
      added_other y s r = added_begun y r ∙ begun_other y s r

      pub added_send : holds W (added W words past m a b) (2 * m) x ≡ holds W past a x
      added_send = let d : 2 * m ≡ 2 * m + 1 → ⊥ = λ e. omega arith in added_begun (2 * m) d ∙ begun_send

      pub added_receive : holds W (added W words past m a b) (2 * m + 1) x ≡ ((holds W past b x || holds W past a x) || eqb x (2 * m))
      added_receive = holds_added (2 * m + 1) ∙ rw (begun_send, begun_receive, eq-eqb (2 * m + 1) (2 * m + 1) refl)
