-- A test that some number passes has a least number in a strict order. Assumes nothing.
use Prim.Native.Nat.{ℕ, zero, suc, ◌<◌}
use native.Mathlib.Nat.{not-suc-le-zero, le_step, lt-suc_self, eq-or-lt_of_le, le_of_suc-le-suc}
use mathlib.Core.Path.{◌≡◌, sym, subst}
use mathlib.Core.Logic.{◌⊎◌, inl, inr, ⊎_elim}
use mathlib.Core.Bool.{Bool, true, false}
use Rattle.model.proofs.Bounded.{which, not_both}

-- k is below n, passes, and nothing below n that passes is before it
pub record IsLeast (n : ℕ) (p : ℕ → Bool) (R : ℕ → ℕ → Bool) (k : ℕ) : Type 0 where
  pub below : k < n
  pub passes : p k ≡ true
  pub least : (i : ℕ) → i < n → p i ≡ true → R i k ≡ true → ⊥

module _ (p : ℕ → Bool) (R : ℕ → ℕ → Bool)
    (transitive : (i j k : ℕ) → R i j ≡ true → R j k ≡ true → R i k ≡ true)
    (irreflexive : (i : ℕ) → R i i ≡ true → ⊥) where
  Outcome : ℕ → Type 0
  Outcome n = ((i : ℕ) → i < n → p i ≡ true → ⊥) ⊎ ((k : ℕ) × IsLeast n p R k)

  below_cases : (n : ℕ) (P : ℕ → Type 0) → P n → ((i : ℕ) → i < n → P i) → (i : ℕ) → i < suc n → P i
  below_cases n P top low i l =
      ⊎_elim (λ e. subst P (sym e) top) (λ h. low i h) (eq-or-lt_of_le (le_of_suc-le-suc l))

  -- n passes, and is in no order with itself: it is least, or the old least one still is
  with_top : (n : ℕ) → p n ≡ true → Outcome n → Outcome (suc n)
  unfolding Outcome
  with_top n t (inl none) =
      inr (
        n,
        record {
          below = lt-suc_self n;
          passes = t;
          least = below_cases n (λ i. p i ≡ true → R i n ≡ true → ⊥) (λ q r. irreflexive n r) (λ i l q r. none i l q);
        },
      )
  with_top n t (inr (k, h)) =
      ⊎_elim
      (λ (r : R n k ≡ true).
      inr (
        n,
        record {
          below = lt-suc_self n;
          passes = t;
          least = below_cases n (λ i. p i ≡ true → R i n ≡ true → ⊥) (λ q s. irreflexive n s) (λ i l q s. h.least i l q (transitive i n k s r));
        },
      ))
      (λ (r : R n k ≡ false).
      inr (
        k,
        record {
          below = le_step h.below;
          passes = h.passes;
          least = below_cases n (λ i. p i ≡ true → R i k ≡ true → ⊥) (λ q s. not_both (R n k) s r) (λ i l q s. h.least i l q s);
        },
      ))
      (which (R n k))

  without_top : (n : ℕ) → p n ≡ false → Outcome n → Outcome (suc n)
  unfolding Outcome
  without_top n f (inl none) = inl (below_cases n (λ i. p i ≡ true → ⊥) (λ t. not_both (p n) t f) none)
  without_top n f (inr (k, h)) =
      inr (
        k,
        record {
          below = le_step h.below;
          passes = h.passes;
          least = below_cases n (λ i. p i ≡ true → R i k ≡ true → ⊥) (λ t r. not_both (p n) t f) h.least;
        },
      )

  outcome : (n : ℕ) → Outcome n
  unfolding Outcome
  outcome zero = inl (λ i l t. absurd (not-suc-le-zero l))
  outcome (suc n) = ⊎_elim (λ t. with_top n t (outcome n)) (λ f. without_top n f (outcome n)) (which (p n))

  pub least_below : (n k : ℕ) → k < n → p k ≡ true → (j : ℕ) × IsLeast n p R j
  unfolding Outcome
  least_below n k l t = ⊎_elim (λ none. absurd (none k l t)) (λ h. h) (outcome n)
