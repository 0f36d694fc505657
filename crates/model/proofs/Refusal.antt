-- What hands on a value was not refused, and its parts were not. Assumes nothing.
use Prim.Native.Nat.{ℕ}
use native.Mathlib.Omega.{arith}
use mathlib.Core.Path.{◌≡◌, refl}
use mathlib.Core.Bool.{Bool, true, false, cond}
use Rattle.model.specs.Refusal.{Out, ok, refusal, and_then}

-- what was handed on is no refusal
pub not_refused : {A C : Type 0} {a : A} {number line : ℕ} → refusal number line ≡ ok a → C
not_refused e = let z : ◌≡◌ {A = ℕ} 0 1 = cc in absurd (omega arith)

-- two parts, one after the other, hand on a value where each does
pub and_then_ok : {A B : Type 0} (o : Out A) (f : A → Out B) (b : B) → and_then o f ≡ ok b → (a : A) × (o ≡ ok a) × (f a ≡ ok b)
unfolding and_then
and_then_ok (ok a) f b e = (a, refl, e)
and_then_ok (refusal number line) f b e = not_refused e

-- the same, where the second part is written out
pub passed : {A B : Type 0} (o : Out A) (f : A → Out B) (b : B)
    → elim o [ refusal number line ↦ refusal number line | ok a ↦ f a ] ≡ ok b
    → (a : A) × (o ≡ ok a) × (f a ≡ ok b)
passed (ok a) f b e = (a, refl, e)
passed (refusal number line) f b e = not_refused e

-- a value handed on only where a test passes, and only where it fails
pub cond_ok : {A : Type 0} (t : Bool) (o : Out A) (number line : ℕ) (a : A) → cond t o (refusal number line) ≡ ok a → (t ≡ true) × (o ≡ ok a)
cond_ok true o number line a e = (refl, e)
cond_ok false o number line a e = not_refused e

pub cond_refused : {A : Type 0} (t : Bool) (o : Out A) (number line : ℕ) (a : A) → cond t (refusal number line) o ≡ ok a → (t ≡ false) × (o ≡ ok a)
cond_refused true o number line a e = not_refused e
cond_refused false o number line a e = (refl, e)
