-- The codes, one by one. Assumes nothing.
use mathlib.Core.Path.{◌≡◌, refl}
use mathlib.Core.Logic.{◌⊎◌, inl, inr}
use Prim.Native.Nat.{ℕ, zero, suc, ◌<◌}
use native.Mathlib.Omega.{arith}
use Rattle.model.specs.Limits.{channels}

pub each_code : (n : ℕ) → n < channels → (n ≡ 0) ⊎ ((n ≡ 1) ⊎ ((n ≡ 2) ⊎ ((n ≡ 3) ⊎ ((n ≡ 4) ⊎ (n ≡ 5)))))
each_code zero h = inl refl
each_code (suc zero) h = inr (inl refl)
each_code (suc (suc zero)) h = inr (inr (inl refl))
each_code (suc (suc (suc zero))) h = inr (inr (inr (inl refl)))
each_code (suc (suc (suc (suc zero)))) h = inr (inr (inr (inr (inl refl))))
each_code (suc (suc (suc (suc (suc zero))))) h = inr (inr (inr (inr (inr refl))))
each_code (suc (suc (suc (suc (suc (suc n)))))) h = absurd (omega arith)
