-- The numbers answered are small, and handing them on keeps the promise. Assumes nothing.
use mathlib.Core.Path.{◌≡◌, subst⁻¹}
use mathlib.Core.List.{List}
use Prim.Native.Nat.{ℕ}
use lib.ListN.{length}
use Rattle.model.specs.Cure.{CureNumbers, CureChecked}
use Rattle.model.proofs.Cure.{cure_small}
use Rattle.answers.specs.Cures.{Small}

-- the numbers answered are small, and handing them on keeps the promise
pub small_cured : (text scratch scratch_exit output output_exit : List ℕ) (r : CureNumbers) → CureChecked text scratch scratch_exit output output_exit r → Small r
small_cured text scratch scratch_exit output output_exit r h =
    let s = cure_small text (length scratch) (length output) in
    subst⁻¹ Small h.answer (record { one = s.0; two = s.1 })

pub same_cured : (text scratch scratch_exit output output_exit : List ℕ) (r q : CureNumbers) → CureChecked text scratch scratch_exit output output_exit r
    → q ≡ r → CureChecked text scratch scratch_exit output output_exit q
same_cured text scratch scratch_exit output output_exit r q h i =
    subst⁻¹ (λ (n : CureNumbers). CureChecked text scratch scratch_exit output output_exit n) i h
