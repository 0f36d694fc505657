-- What the loop of a clear keeps, turn by turn: the first n words are zero.
-- Assumes nothing.
use mathlib.Core.Path.{◌≡◌, refl, ap, ◌∙◌}
use mathlib.Core.List.{List}
use Prim.Native.Nat.{ℕ, ◌+◌, ◌<◌, ◌≤◌}
use native.Mathlib.Nat.{le_antisymm}
use native.Mathlib.Omega.{arith}
use lib.ListN.{length, set, length-set}
use borrow.Author.Fill.{fill_none, fill_more}
use Rattle.relation.specs.Rows.{cleared}

pub record Clearing (count : ℕ) (l : List ℕ) (n : ℕ) (words : List ℕ) : Type 0 where
  pub exact : words ≡ cleared n l
  pub long : length words ≡ length l
  pub most : n ≤ count

pub clearing_start : (count : ℕ) (l : List ℕ) → Clearing count l 0 l
unfolding cleared
clearing_start count l = record { exact = fill_none l 0; long = refl; most = omega arith }

pub clearing_more : (count : ℕ) (l : List ℕ) (n : ℕ) (words : List ℕ) → Clearing count l n words → n < count → count ≤ length l
    → Clearing count l (n + 1) (set words n 0)
unfolding cleared
clearing_more count l n words j h room =
    record { exact = rw j.exact (fill_more n 0 l (omega arith)); long = simp length-set j.long; most = omega arith }

pub clearing_end : (count : ℕ) (l : List ℕ) (n : ℕ) (words : List ℕ) → Clearing count l n words → count ≤ n → words ≡ cleared count l
clearing_end count l n words j h = j.exact ∙ ap (λ (m : ℕ). cleared m l) (le_antisymm j.most h)
