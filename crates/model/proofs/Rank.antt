-- The rank of a state, the sum of its messages' phases: each step adds one, and it is three a message where all is consumed.
-- Assumes nothing.
use Prim.Native.Nat.{ℕ, zero, suc, ◌+◌, ◌*◌, ◌<◌, ◌≤◌}
use native.Mathlib.Nat.{not-suc-le-zero, le_step, lt-suc_self, eq-or-lt_of_le, le_of_suc-le-suc}
use native.Mathlib.Omega.{arith}
use mathlib.Core.Path.{◌≡◌, refl, sym, ap, subst}
use mathlib.Core.Logic.{⊎_elim}
use Rattle.model.proofs.Phases.{bump, bump_same, bump_other}

unfoldable pub rank : ℕ → (ℕ → ℕ) → ℕ
rank zero φ = 0
rank (suc n) φ = rank n φ + φ n

-- a message above the bound does not count
rank_above : (n : ℕ) (φ : ℕ → ℕ) (m : ℕ) → n ≤ m → rank n (bump φ m) ≡ rank n φ
unfolding rank
rank_above zero φ m h = refl
rank_above (suc n) φ m h = rw (rank_above n φ m (omega arith), bump_other φ m n (λ e. omega arith))

pub rank_bump : (n : ℕ) (φ : ℕ → ℕ) (m : ℕ) → m < n → rank n (bump φ m) ≡ suc (rank n φ)
unfolding rank
rank_bump zero φ m h = absurd (not-suc-le-zero h)
rank_bump (suc n) φ m h =
    ⊎_elim
    (λ (e : m ≡ n).
    let top : bump φ m n ≡ suc (φ n) = subst (λ (k : ℕ). bump φ k n ≡ suc (φ n)) (sym e) (bump_same φ n) in
    omega (arith, top, rank_above n φ m (omega arith)))
    (λ (l : m < n). omega (arith, bump_other φ m n (λ e. omega arith), rank_bump n φ m l))
    (eq-or-lt_of_le (le_of_suc-le-suc h))

pub rank_most : (n : ℕ) (φ : ℕ → ℕ) → ((m : ℕ) → φ m ≤ 3) → rank n φ ≤ 3 * n
unfolding rank
rank_most zero φ h = omega arith
rank_most (suc n) φ h = omega (arith, rank_most n φ h, h n)

-- a message not consumed keeps the rank below
pub rank_less : (n : ℕ) (φ : ℕ → ℕ) → ((m : ℕ) → φ m ≤ 3) → (k : ℕ) → k < n → φ k < 3 → rank n φ < 3 * n
unfolding rank
rank_less zero φ h k l u = absurd (not-suc-le-zero l)
rank_less (suc n) φ h k l u =
    ⊎_elim
    (λ (e : k ≡ n). omega (arith, rank_most n φ h, ap φ e))
    (λ (l' : k < n). omega (arith, rank_less n φ h k l' u, h n))
    (eq-or-lt_of_le (le_of_suc-le-suc l))

pub rank_full : (n : ℕ) (φ : ℕ → ℕ) → ((m : ℕ) → m < n → φ m ≡ 3) → rank n φ ≡ 3 * n
unfolding rank
rank_full zero φ h = refl
rank_full (suc n) φ h = omega (arith, rank_full n φ (λ m l. h m (le_step l)), h n (lt-suc_self n))

pub rank_zero : (n : ℕ) → rank n (λ m. 0) ≡ 0
unfolding rank
rank_zero zero = refl
rank_zero (suc n) = omega (arith, rank_zero n)
