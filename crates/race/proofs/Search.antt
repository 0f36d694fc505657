-- The search for the lowest event that races with a message, by the words of its races one after the other. Assumes nothing.
use mathlib.Core.Path.{◌≡◌, sym, ◌∙◌, ap, subst}
use mathlib.Core.Bool.{Bool, true, false, ◌&&◌}
use mathlib.Core.List.{List}
use Prim.Native.Nat.{ℕ, ◌+◌, ◌*◌, ◌-◌, ◌^◌, ◌<◌, ◌≤◌}
use native.Mathlib.Decide.{dec_lt}
use native.Mathlib.Omega.{arith}
use lib.Count.{count_trailing_zeros}
use lib.Dec.{ltb}
use borrow.Author.Tests.{lt-ltb, ltb-true}
use Rattle.model.specs.Order.{event}
use Rattle.model.specs.Race.{RaceRule, is_race}
use Rattle.model.proofs.Bounded.{and_left, and_right}
use Rattle.relation.specs.Width.{word_bits}
use Rattle.relation.specs.Rows.{has}
use Rattle.relation.specs.Scenario.{scenario_in}
use Rattle.relation.proofs.Bits.{has_zero}
use Rattle.relation.proofs.Words.{trailing_clear, trailing_set, trailing_below}
use Rattle.race.specs.Word.{RaceWord}

module _ (count : ℕ) (boards words : List ℕ) (r : RaceRule) (e from : ℕ) where
  abbrev pub races_at : ℕ → Bool
  races_at x = is_race (scenario_in count boards words) r e (event x)

  -- no event of the words from .. w - 1 races with e
  pub record Between (w : ℕ) : Type 0 where
    pub passed : (x : ℕ) → word_bits * from ≤ x → x < word_bits * w → x < 2 * count → races_at x ≡ false
    pub start : from ≤ w

  pub between_none : Between from
  between_none = record { passed = λ x g h k. absurd (omega arith); start = omega arith }

  -- event x races with e, and none of the words before it does
  pub record LowestFrom (w x : ℕ) : Type 0 where
    pub inside : x < 2 * count
    pub here : (word_bits * from ≤ x) × (x < word_bits * w + word_bits)
    pub is_racing : races_at x ≡ true
    pub first : (y : ℕ) → word_bits * from ≤ y → y < x → races_at y ≡ false

  module _ (w word : ℕ) (s : Between w) (R : RaceWord count boards words r e w word) where
    -- a bit that is not set is of no event that races
    not_here : (b : ℕ) → b < word_bits → word_bits * w + b < 2 * count → has word b ≡ false → races_at (word_bits * w + b) ≡ false
    not_here b h k f = sym (R b h ∙ rw (lt-ltb (word_bits * w + b) (2 * count) k)) ∙ f

    -- an event at or after the word's first is one of its bits
    at_bit : (x : ℕ) → word_bits * w ≤ x → x < word_bits * w + word_bits → x < 2 * count → has word (x - word_bits * w) ≡ false → races_at x ≡ false
    at_bit x g h k f =
        let at : word_bits * w + (x - word_bits * w) ≡ x = omega arith in
        subst (λ (y : ℕ). races_at y ≡ false) at (not_here (x - word_bits * w) (omega arith) (omega arith) f)

    pub between_on : word ≡ 0 → Between (w + 1)
    between_on z = record { passed = λ x g h k. go x g h k (dec_lt x (word_bits * w)); start = omega (arith, s.start) }
      where
        go : (x : ℕ) → word_bits * from ≤ x → x < word_bits * (w + 1) → x < 2 * count → Dec (x < word_bits * w) → races_at x ≡ false
        go x g h k (yes p) = s.passed x g p k
        go x g h k (no p) = at_bit x (omega arith) (omega arith) k (ap (λ (n : ℕ). has n (x - word_bits * w)) z ∙ has_zero (x - word_bits * w))

    pub between_finds : (word ≡ 0 → ⊥) → word < 2 ^ word_bits → LowestFrom w (word_bits * w + count_trailing_zeros word_bits word)
    between_finds some small =
        let b = count_trailing_zeros word_bits word in
        let low : b < word_bits = trailing_below word_bits word small some in
        let both : (ltb (word_bits * w + b) (2 * count) && races_at (word_bits * w + b)) ≡ true = sym (R b low) ∙ trailing_set word_bits word small some in
        let inside : word_bits * w + b < 2 * count = ltb-true _ _ (and_left (ltb (word_bits * w + b) (2 * count)) (races_at (word_bits * w + b)) both) in
        record {
          inside = inside;
          here = (omega (arith, s.start), omega arith);
          is_racing = and_right (ltb (word_bits * w + b) (2 * count)) (races_at (word_bits * w + b)) both;
          first = λ y g k. go b low inside y g k (λ i l. trailing_clear word_bits word i l) (dec_lt y (word_bits * w));
        }
      where
        go : (b : ℕ) → b < word_bits → word_bits * w + b < 2 * count → (y : ℕ) → word_bits * from ≤ y → y < word_bits * w + b
            → ((i : ℕ) → i < b → has word i ≡ false) → Dec (y < word_bits * w) → races_at y ≡ false
        go b low inside y g k clear (yes p) = s.passed y g p (omega arith)
        go b low inside y g k clear (no p) = at_bit y (omega arith) (omega arith) (omega arith) (clear (y - word_bits * w) (omega arith))
