-- What `joined`, `joined_from` and `copied_from` mean: row `to` has the other row's events, besides its own or alone, and no other row
-- is touched.
-- Assumes nothing.
use mathlib.Core.Path.{◌≡◌, refl, ◌∙◌}
use mathlib.Core.Bool.{Bool, ◌&&◌, ◌||◌, or-false}
use mathlib.Core.List.{List}
use Prim.Native.Nat.{ℕ, zero, suc, ◌+◌, ◌*◌, ◌/◌, ◌<◌, ◌≤◌}
use native.Mathlib.Decide.{ℕ_discrete}
use native.Mathlib.Numerals.{add-one}
use native.Mathlib.Omega.{arith}
use lib.Bits.{bit_or}
use lib.Dec.{eqb}
use lib.ListN.{length, get_or, set, length-set}
use lib.Seq.{get_or-set_same, get_or-set_other}
use borrow.Author.Tests.{eq-eqb, ne_eqb}
use Rattle.relation.specs.Width.{word_bits}
use Rattle.relation.specs.Rows.{has, holds, word_of}
use Rattle.relation.proofs.Bits.{has_or}
use Rattle.relation.proofs.Place.{column_lt, word_row}
use Rattle.joined_rows.specs.Joins.{merged, theirs, joined, joined_from, copied_from}

module _ (op : ℕ → ℕ → ℕ) (l : List ℕ) (a : ℕ) (other : List ℕ) (b : ℕ) where
  length_merged : (n : ℕ) → length (merged op n l a other b) ≡ length l
  unfolding merged
  length_merged zero = refl
  length_merged (suc n) = length-set (merged op n l a other b) _ _ ∙ length_merged n

  pub merged_outside : (n k : ℕ) → ((i : ℕ) → i < n → k ≡ a + i → ⊥) → get_or (merged op n l a other b) k 0 ≡ get_or l k 0
  unfolding merged
  merged_outside zero k out = refl
  merged_outside (suc n) k out =
      get_or-set_other (merged op n l a other b) (a + n) k _ 0 (out n (omega arith))
      ∙ merged_outside n k (λ i h. out i (omega arith))

  -- the word at a + i is made of what it was and of that at b + i
  abbrev Merged : ℕ → ℕ → Type 0
  Merged n i = get_or (merged op n l a other b) (a + i) 0 ≡ op (get_or l (a + i) 0) (get_or other (b + i) 0)

  merged_at : (n i : ℕ) → i < n → a + n ≤ length l → Merged n i
  unfolding merged
  merged_at zero i h room = absurd (omega arith)
  merged_at (suc n) i h room = go (ℕ_discrete i n) (λ h. merged_at n i h (omega arith))
    where
      go : Dec (i ≡ n) → (i < n → Merged n i) → Merged (suc n) i
      go (yes e) earlier = rw e (get_or-set_same (merged op n l a other b) (a + n) _ 0 (omega (arith, length_merged n)))
      go (no f) earlier =
          get_or-set_other (merged op n l a other b) (a + n) (a + i) _ 0 (λ e. f (omega arith)) ∙ earlier (omega arith)

  -- a turn of the loop: the next word is still as it was
  pub merged_more : (n : ℕ)
      → set (merged op n l a other b) (a + n) (op (get_or (merged op n l a other b) (a + n) 0) (get_or other (b + n) 0)) ≡ merged op (n + 1) l a other b
  unfolding merged
  merged_more n = rw (merged_outside n (a + n) (λ i h e. omega arith), add-one)

-- a row that is merged with one of other words: its own events are those of the row made, and no other row is touched
module _ (W : ℕ) (op : ℕ → ℕ → ℕ) (f : Bool → Bool → Bool) (bits : (u v k : ℕ) → has (op u v) k ≡ f (has u k) (has v k))
    (l : List ℕ) (to : ℕ) (other : List ℕ) (from b a : ℕ) (room : to * W + W ≤ length l) (ha : a < word_bits * W) where
  merged_row : b ≡ to → holds W (merged op W l (to * W) other (from * W)) b a ≡ f (holds W l b a) (holds W other from a)
  unfolding holds
  merged_row e = rw (e, merged_at op l (to * W) other (from * W) W (a / word_bits) (column_lt W a ha) room) (bits _ _ _)

  merged_other : (b ≡ to → ⊥) → holds W (merged op W l (to * W) other (from * W)) b a ≡ holds W l b a
  unfolding holds
  merged_other n =
      rw (merged_outside op l (to * W) other (from * W) W (word_of W b a) (λ i h e. n (word_row W b to (column_lt W a ha) h e)))

pub length_joined_from : (W : ℕ) (l : List ℕ) (to : ℕ) (other : List ℕ) (from : ℕ) → length (joined_from W l to other from) ≡ length l
unfolding joined_from
length_joined_from W l to other from = length_merged bit_or l (to * W) other (from * W) W

pub holds_joined_from : (W : ℕ) (l : List ℕ) (to : ℕ) (other : List ℕ) (from b a : ℕ) → to * W + W ≤ length l → a < word_bits * W
    → holds W (joined_from W l to other from) b a ≡ (holds W l b a || eqb b to && holds W other from a)
unfolding joined_from
holds_joined_from W l to other from b a room ha = go (ℕ_discrete b to)
  where
    go : Dec (b ≡ to) → holds W (joined_from W l to other from) b a ≡ (holds W l b a || eqb b to && holds W other from a)
    go (yes e) = rw (eq-eqb b to e) (merged_row W bit_or ◌||◌ has_or l to other from b a room ha e)
    go (no n) = rw (ne_eqb b to n, or-false) (merged_other W bit_or ◌||◌ has_or l to other from b a room ha n)

pub length_copied_from : (W : ℕ) (l : List ℕ) (to : ℕ) (other : List ℕ) (from : ℕ) → length (copied_from W l to other from) ≡ length l
unfolding copied_from
length_copied_from W l to other from = length_merged theirs l (to * W) other (from * W) W

module _ (W : ℕ) (l : List ℕ) (to : ℕ) (other : List ℕ) (from b a : ℕ) (room : to * W + W ≤ length l) (ha : a < word_bits * W) where
  pub copied_row : b ≡ to → holds W (copied_from W l to other from) b a ≡ holds W other from a
  unfolding copied_from
  copied_row = merged_row W theirs (λ own other. other) (λ u v k. refl) l to other from b a room ha

  pub copied_other : (b ≡ to → ⊥) → holds W (copied_from W l to other from) b a ≡ holds W l b a
  unfolding copied_from
  copied_other = merged_other W theirs (λ own other. other) (λ u v k. refl) l to other from b a room ha

-- the words of a row that is copied, and a word that is none of it
pub copied_at : (W : ℕ) (l : List ℕ) (to : ℕ) (other : List ℕ) (from i : ℕ) → i < W → to * W + W ≤ length l
    → get_or (copied_from W l to other from) (to * W + i) 0 ≡ get_or other (from * W + i) 0
unfolding copied_from
copied_at W l to other from i h room = merged_at theirs l (to * W) other (from * W) W i h room

pub copied_outside : (W : ℕ) (l : List ℕ) (to : ℕ) (other : List ℕ) (from k : ℕ) → ((i : ℕ) → i < W → k ≡ to * W + i → ⊥)
    → get_or (copied_from W l to other from) k 0 ≡ get_or l k 0
unfolding copied_from
copied_outside W l to other from k out = merged_outside theirs l (to * W) other (from * W) W k out

pub length_joined : (W : ℕ) (l : List ℕ) (to from : ℕ) → length (joined W l to from) ≡ length l
unfolding joined
length_joined W l to from = length_joined_from W l to l from

pub holds_joined : (W : ℕ) (l : List ℕ) (to from b a : ℕ) → to * W + W ≤ length l → a < word_bits * W
    → holds W (joined W l to from) b a ≡ (holds W l b a || eqb b to && holds W l from a)
unfolding joined
holds_joined W l to from = holds_joined_from W l to l from
