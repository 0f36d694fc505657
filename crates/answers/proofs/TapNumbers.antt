-- The numbers answered are small, and handing them on keeps the promise. Assumes nothing.
use mathlib.Core.Path.{◌≡◌, subst⁻¹}
use mathlib.Core.List.{List}
use Prim.Native.Nat.{ℕ}
use lib.ListN.{length}
use Rattle.model.specs.Taps.{TapNumbers, TapsChecked}
use Rattle.model.proofs.Taps.{taps_small}
use Rattle.answers.specs.Tapped.{Small}

-- the numbers answered are small, and handing them on keeps the promise
pub small_fitted : (text scratch scratch_exit first second output output_exit : List ℕ) (r : TapNumbers)
    → TapsChecked text scratch scratch_exit first second output output_exit r → Small r
small_fitted text scratch scratch_exit first second output output_exit r h =
    let s = taps_small text (length scratch) first second (length output) in
    subst⁻¹ Small h.answer (record { one = s.0; two = s.1 })

pub same_fitted : (text scratch scratch_exit first second output output_exit : List ℕ) (r q : TapNumbers)
    → TapsChecked text scratch scratch_exit first second output output_exit r → q ≡ r → TapsChecked text scratch scratch_exit first second output output_exit q
same_fitted text scratch scratch_exit first second output output_exit r q h i =
    subst⁻¹ (λ (n : TapNumbers). TapsChecked text scratch scratch_exit first second output output_exit n) i h
