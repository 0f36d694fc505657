-- The lowest event that races in some words of a row. Assumes nothing.
use mathlib.Core.Path.{◌≡◌, sym, ap}
use mathlib.Core.Bool.{Bool, true, false, ◌&&◌, and-false}
use mathlib.Core.List.{List}
use mathlib.Core.Option.{none, some}
use Prim.Native.Nat.{ℕ, ◌+◌, ◌*◌, ◌^◌, ◌<◌, ◌≤◌}
use native.Mathlib.Decide.{dec_lt}
use native.Mathlib.Omega.{arith}
use lib.Count.{count_trailing_zeros, trailing_le}
use lib.Dec.{leb}
use borrow.Author.Tests.{lt-ltb, le-ltb, le-leb, lt-leb}
use Rattle.model.specs.Race.{RaceRule}
use Rattle.model.specs.Bounded.{lowest}
use Rattle.model.proofs.Bounded.{and_both, lowest_hit, lowest_nowhere}
use Rattle.relation.specs.Width.{word_bits}
use Rattle.race.specs.Word.{RaceWord}
use Rattle.race.proofs.Search.{races_at, Between, between_finds}
use Rattle.share.specs.Search.{in_words}

module _ (count : ℕ) (boards words : List ℕ) (r : RaceRule) (e from : ℕ) where
  abbrev racing : ℕ → Bool
  racing = races_at count boards words r e from

  abbrev within : ℕ → ℕ → Bool
  within to x = in_words from to x && racing x

  pub finds : (w word to : ℕ) → Between count boards words r e from w → RaceWord count boards words r e w word → (word ≡ 0 → ⊥) → word < 2 ^ word_bits
      → w < to → some (word_bits * w + count_trailing_zeros word_bits word) ≡ lowest (2 * count) (within to)
  finds w word to s R z small h =
      let L = between_finds count boards words r e from w word s R z small in
      let x = word_bits * w + count_trailing_zeros word_bits word in
      let here : in_words from to x ≡ true = rw (le-leb (word_bits * from) x L.here.0, lt-ltb x (word_bits * to) (omega (arith, L.here.1))) in
      sym
      (lowest_hit (2 * count) x (within to)
      (lowest_nowhere x (within to) (λ y k. go x L.first y k (dec_lt y (word_bits * from))))
      (and_both (in_words from to x) (racing x) here L.is_racing)
      L.inside)
    where
      go : (x : ℕ) → ((y : ℕ) → word_bits * from ≤ y → y < x → racing y ≡ false) → (y : ℕ) → y < x → Dec (y < word_bits * from) → within to y ≡ false
      go x first y k (yes a) = rw (lt-leb (word_bits * from) y a)
      go x first y k (no a) = rw (first y (omega arith) k) (and-false (in_words from to y))

  pub ends : (w to : ℕ) → Between count boards words r e from w → to ≤ w → none ≡ lowest (2 * count) (within to)
  ends w to s h = sym (lowest_nowhere (2 * count) (within to) (λ x k. go x k (dec_lt x (word_bits * from)) (dec_lt x (word_bits * to))))
    where
      go : (x : ℕ) → x < 2 * count → Dec (x < word_bits * from) → Dec (x < word_bits * to) → within to x ≡ false
      go x k (yes a) d = rw (lt-leb (word_bits * from) x a)
      go x k (no a) (yes b) = rw (s.passed x (omega arith) (omega arith) k) (and-false (in_words from to x))
      go x k (no a) (no b) = rw (le-ltb x (word_bits * to) (omega arith)) (ap (λ t. t && racing x) (and-false (leb (word_bits * from) x)))
