-- The search for the lowest event that races with a message, by words. Assumes nothing.
use mathlib.Core.Path.{◌≡◌, sym}
use mathlib.Core.List.{List}
use mathlib.Core.Option.{none, some}
use Prim.Native.Nat.{ℕ, ◌+◌, ◌*◌, ◌^◌, ◌<◌, ◌≤◌}
use native.Mathlib.Omega.{arith}
use lib.Count.{count_trailing_zeros, count_leading_zeros, trailing_le, leading_le}
use Rattle.model.specs.Race.{RaceRule, lowest_event}
use Rattle.model.proofs.Bounded.{lowest_hit, lowest_nowhere}
use Rattle.relation.specs.Width.{width, word_bits}
use Rattle.relation.specs.Scenario.{scenario_in}
use Rattle.board.specs.Masks.{Standing}
use Rattle.race.specs.Word.{RaceWord}
use Rattle.race.proofs.Search.{races_at, Between, between_none, between_on, between_finds}

-- the zeros at either end of a word are at most its bits
pub zeros_few : (word : ℕ) → (count_trailing_zeros word_bits word ≤ word_bits) × (count_leading_zeros word_bits word ≤ word_bits)
zeros_few word = (trailing_le word_bits word, leading_le word_bits word)

-- the search for the lowest event that races with e
module _ (count : ℕ) (boards words : List ℕ) (r : RaceRule) (e : ℕ) where
  -- no event of the words passed races with e
  pub record Searched (w : ℕ) : Type 0 where
    pub passed : Between count boards words r e 0 w
    pub within : w ≤ width

  pub search_begins : Searched 0
  search_begins = record { passed = between_none count boards words r e 0; within = omega arith }

  module _ (w word : ℕ) (s : Searched w) (R : RaceWord count boards words r e w word) where
    pub search_goes_on : word ≡ 0 → w < width → Searched (w + 1)
    search_goes_on z h = record { passed = between_on count boards words r e 0 w word s.passed R z; within = omega arith }

    pub search_finds : (word ≡ 0 → ⊥) → word < 2 ^ word_bits → w < width
        → some (word_bits * w + count_trailing_zeros word_bits word) ≡ lowest_event (scenario_in count boards words) r e
    unfolding lowest_event
    search_finds z small h =
        let L = between_finds count boards words r e 0 w word s.passed R z small in
        let x = word_bits * w + count_trailing_zeros word_bits word in
        let test = races_at count boards words r e 0 in
        sym (lowest_hit (2 * count) x test (lowest_nowhere x test (λ y k. L.first y (omega arith) k)) L.is_racing L.inside)

  pub search_ends : (masks : List ℕ) (w : ℕ) → Standing count boards words masks → Searched w → width ≤ w → none ≡ lowest_event (scenario_in count boards words) r e
  unfolding lowest_event
  search_ends masks w S s h =
      sym (lowest_nowhere (2 * count) (races_at count boards words r e 0) (λ x k. s.passed.passed x (omega arith) (omega (arith, S.few)) k))
