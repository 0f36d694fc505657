-- What the loop of a join or a copy keeps, turn by turn: the first n words of the row are merged with theirs.
-- Assumes nothing.
use mathlib.Core.Path.{◌≡◌, refl, ap, ◌∙◌}
use mathlib.Core.List.{List}
use Prim.Native.Nat.{ℕ, ◌+◌, ◌*◌, ◌<◌, ◌≤◌}
use native.Mathlib.Nat.{le_antisymm}
use native.Mathlib.Omega.{arith}
use lib.Bits.{bit_or}
use lib.ListN.{length, get_or, set, length-set}
use Rattle.relation.proofs.Place.{word_column}
use Rattle.joined_rows.specs.Joins.{merged}
use Rattle.joined_rows.proofs.Joined.{merged_outside, merged_more}

pub record Merging (op : ℕ → ℕ → ℕ) (W n : ℕ) (l : List ℕ) (a : ℕ) (other : List ℕ) (b : ℕ) (words : List ℕ) : Type 0 where
  pub exact : words ≡ merged op n l a other b
  pub long : length words ≡ length l
  pub most : n ≤ W

pub merging_start : (op : ℕ → ℕ → ℕ) (W : ℕ) (l : List ℕ) (a : ℕ) (other : List ℕ) (b : ℕ) → Merging op W 0 l a other b l
unfolding merged
merging_start op W l a other b = record { exact = refl; long = refl; most = omega arith }

module _ (op : ℕ → ℕ → ℕ) (W n : ℕ) (l : List ℕ) (a : ℕ) (other : List ℕ) (b : ℕ) (words : List ℕ) (j : Merging op W n l a other b words) (h : n < W)
  where
    pub merging_more : Merging op W (n + 1) l a other b (set words (a + n) (op (get_or words (a + n) 0) (get_or other (b + n) 0)))
    merging_more = record { exact = rw j.exact (merged_more op l a other b n); long = simp length-set j.long; most = omega arith }

pub merging_end : (op : ℕ → ℕ → ℕ) (W n : ℕ) (l : List ℕ) (a : ℕ) (other : List ℕ) (b : ℕ) (words : List ℕ) → Merging op W n l a other b words → W ≤ n
    → words ≡ merged op W l a other b
merging_end op W n l a other b words j h = j.exact ∙ ap (λ (m : ℕ). merged op m l a other b) (le_antisymm j.most h)

-- the word that a turn takes from row `from` of the same list is still as it was, `from` being `to` or not
pub merging_own : (W n : ℕ) (l : List ℕ) (to from : ℕ) (words : List ℕ) → Merging bit_or W n l (to * W) l (from * W) words → n < W
    → Merging bit_or W (n + 1) l (to * W) l (from * W)
    (set words (to * W + n) (bit_or (get_or words (to * W + n) 0) (get_or words (from * W + n) 0)))
merging_own W n l to from words j h = rw (reads) (merging_more bit_or W n l (to * W) l (from * W) words j h)
  where
    reads : get_or words (from * W + n) 0 ≡ get_or l (from * W + n) 0
    reads =
        rw j.exact
        (merged_outside bit_or l (to * W) l (from * W) n (from * W + n)
        (λ i g e. let same : n ≡ i = word_column W from to h (omega arith) e in omega arith))
