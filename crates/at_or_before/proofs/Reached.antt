-- The test of two events, and the word of the events at or before a message's send, bit by bit. Assumes nothing.
use mathlib.Core.Path.{◌≡◌, refl, sym, ◌∙◌, ap}
use mathlib.Core.Bool.{Bool, true, false, ◌||◌}
use mathlib.Core.List.{List}
use Prim.Native.Nat.{ℕ, ◌+◌, ◌*◌, ◌/◌, ◌%◌, ◌^◌, ◌<◌}
use native.Mathlib.Omega.{arith}
use lib.Bits.{bit_or}
use lib.Dec.{eqb}
use lib.ListN.{get_or}
use borrow.Author.Tests.{ne_eqb}
use Rattle.model.specs.Order.{event, at_or_before}
use Rattle.model.proofs.Events.{number_event, at_or_before_same}
use Rattle.relation.specs.Width.{width, word_bits}
use Rattle.relation.specs.Rows.{holds}
use Rattle.relation.specs.Scenario.{scenario_in}
use Rattle.relation.proofs.Scenario.{before_at}
use Rattle.relation.proofs.Bits.{has_or, has_power, mask_power}
use Rattle.relation.proofs.Tests.{eqb_same}
use Rattle.relation.proofs.Words.{word_holds}
use Rattle.at_or_before.specs.Reached.{event_at, ReachedWord}

module _ (count : ℕ) (boards words : List ℕ) where
  pub at_or_before_at : (x y : ℕ) → x < 2 * count → y < 2 * count
      → at_or_before (scenario_in count boards words) (event x) (event y) ≡ (eqb x y || holds width words y x)
  unfolding at_or_before
  at_or_before_at x y l h = rw (before_at count boards words x y l h, number_event x, number_event y)

  -- What each return of the code is to show, from what led there.
  pub at_same : (x y : ℕ) → x ≡ y → true ≡ at_or_before (scenario_in count boards words) (event x) (event y)
  at_same x y e = sym (at_or_before_same (scenario_in count boards words) (event x) (event y) (ap event e))

  pub at_other : (x y : ℕ) (r : Bool) → (x ≡ y → ⊥) → r ≡ holds width words y x → (x < 2 * count) × (y < 2 * count)
      → r ≡ at_or_before (scenario_in count boards words) (event x) (event y)
  at_other x y r d h l = h ∙ sym (at_or_before_at x y l.0 l.1 ∙ rw (ne_eqb x y d))

-- the word of the events at or before e's send: where the send stands in another word, and in this one
module _ (words : List ℕ) (e w : ℕ) where
  pub reached_elsewhere : (w ≡ 2 * e / word_bits → ⊥) → ReachedWord words e w (get_or words (2 * e * width + w) 0)
  reached_elsewhere n b h =
      sym (rw (ne_eqb (event_at w b) (2 * e) (λ i. n (omega arith))) (word_holds width words (2 * e) w b h))

  pub reached_here : w ≡ 2 * e / word_bits
      → ReachedWord words e w (bit_or (get_or words (2 * e * width + w) 0) (1 * 2 ^ (2 * e % word_bits) % 2 ^ word_bits))
  reached_here at b h =
      rw (
        mask_power (2 * e),
        has_or,
        has_power,
        ← word_holds width words (2 * e) w b h,
        eqb_same b (2 * e % word_bits) (event_at w b) (2 * e) (λ i. omega arith) (λ i. omega arith),
      )
      (swaps (holds width words (2 * e) (event_at w b)) (eqb (event_at w b) (2 * e)))
    where
      swaps : (p q : Bool) → (p || q) ≡ (q || p)
      swaps true true = refl
      swaps true false = refl
      swaps false true = refl
      swaps false false = refl
