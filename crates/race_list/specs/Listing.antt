-- Races put into an output pair by pair, as the loops do it. Assumes nothing.
use Rattle.std.specs.Prelude.{ℕ, zero, suc, ◌+◌, ◌*◌, ◌/◌, ◌≤◌, ◌≡◌, cond, List, [], ◌∷◌, ◌++◌, ltb, length, set, take, drop}
use Rattle.model.specs.Limits.{messages_most}
use Rattle.model.specs.Holdings.{races_told}
use Rattle.relation.specs.Width.{width, word_bits}
use Rattle.relation.specs.Rows.{has}
use Rattle.race_list.specs.declared.Told.{Told}

-- the events that a row has room for, and so the most races
abbrev pub row_bits : ℕ
row_bits = word_bits * width

abbrev pub races_most : ℕ
races_most = row_bits * messages_most

-- the set bits of a word below n, each as a race of e: bit k stands for event first + k
unfoldable pub bits_listed : ℕ → ℕ → ℕ → ℕ → List (ℕ × ℕ)
bits_listed word e first zero = []
bits_listed word e first (suc k) = bits_listed word e first k ++ cond (has word k) ((e, first + k) ∷ []) []

-- the race with number n at its place, if the output holds both its numbers
unfoldable pub with_race : List ℕ → ℕ → ℕ × ℕ → List ℕ
with_race output n race = cond (ltb (2 * n + 1) (length output)) (set (set output (2 * n) race.0) (2 * n + 1) race.1) output

-- races one after the other, from number n on
unfoldable pub with_races : List ℕ → ℕ → List (ℕ × ℕ) → List ℕ
with_races output n [] = output
with_races output n (race ∷ races) = with_races (with_race output n race) (suc n) races

-- races are added to n others: what is in the output then, and how many there are
pub record Adds (races : List (ℕ × ℕ)) (output : List ℕ) (n : ℕ) (exit : List ℕ) (m : ℕ) : Type 0 where
  pub pairs : exit ≡ with_races output n races
  pub next : m ≡ n + length races

-- how many races there are, how many of them stand in the output, and the output: as many whole pairs as it holds, and the rest as it was
pub record Tells (races : List (ℕ × ℕ)) (output exit : List ℕ) (r : Told) : Type 0 where
  pub all : r.all ≡ length races
  pub listed : r.listed ≡ length (take (length output / 2) races)
  pub left : exit ≡ races_told (take (length output / 2) races) ++ drop (2 * length (take (length output / 2) races)) output
  pub most : length races ≤ races_most
