-- The numbers answered are small, and handing them on keeps the promise. Assumes nothing.
use mathlib.Core.Path.{◌≡◌, subst⁻¹}
use mathlib.Core.List.{List}
use Prim.Native.Nat.{ℕ}
use lib.ListN.{length}
use Rattle.model.specs.Answer.{Numbers}
use Rattle.model.specs.Verdict.{Checked}
use Rattle.answers.specs.Numbers.{Small}
use Rattle.answers.proofs.Small.{answer_small}

-- the numbers answered are small, and handing them on keeps the promise
pub small_checked : (text : List ℕ) (code : ℕ) (scratch scratch_exit trace trace_exit : List ℕ) (r : Numbers)
    → Checked text code scratch scratch_exit trace trace_exit r → Small r
small_checked text code scratch scratch_exit trace trace_exit r h =
    subst⁻¹ Small h.answer (answer_small text code (length scratch) (length trace))

pub same_numbers : (text : List ℕ) (code : ℕ) (scratch scratch_exit trace trace_exit : List ℕ) (r q : Numbers)
    → Checked text code scratch scratch_exit trace trace_exit r → q ≡ r → Checked text code scratch scratch_exit trace trace_exit q
same_numbers text code scratch scratch_exit trace trace_exit r q h i =
    subst⁻¹ (λ (n : Numbers). Checked text code scratch scratch_exit trace trace_exit n) i h
