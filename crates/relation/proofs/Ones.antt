-- The set bits of a word, counted. Assumes nothing.
use mathlib.Core.Path.{◌≡◌, refl, sym, ◌∙◌, ap, ap₂, subst}
use mathlib.Core.Bool.{cond}
use Prim.Native.Nat.{ℕ, zero, suc, ◌+◌, ◌/◌, ◌%◌, ◌^◌, ◌<◌}
use native.Mathlib.Nat.{div-one, mod-lt}
use native.Mathlib.Omega.{arith}
use lib.Arith.{lt-one}
use lib.Count.{ones, ones_step}
use lib.Dec.{eqb}
use lib.Pow.{shr_lt}
use Rattle.model.specs.Bounded.{how_many}
use Rattle.model.proofs.Bounded.{many_same, many_front}
use Rattle.relation.specs.Rows.{has}
use Rattle.relation.proofs.Words.{shifted}

-- a digit is one exactly if it is set
pub digit : (d : ℕ) → d < 2 → d ≡ cond (eqb d 1) 1 0
digit zero l = refl
digit (suc zero) l = refl
digit (suc (suc d)) l = absurd (omega arith)

-- the set digits of a number, by their places
pub ones_bits : (k w : ℕ) → w < 2 ^ k → ones w ≡ how_many k (has w)
unfolding how_many ones has
ones_bits zero w l = ap ones (lt-one l)
ones_bits (suc k) w l =
    let e : suc k ≡ k + 1 = omega arith in
    let half : w / 2 < 2 ^ k = shr_lt k 1 (subst (λ (x : ℕ). w < 2 ^ x) e l) in
    let rest : ones (w / 2) ≡ how_many k (λ j. has w (suc j))
    = ones_bits k (w / 2) half ∙ many_same k (has (w / 2)) (λ j. has w (suc j)) (λ j m. let f : suc j ≡ 1 + j = omega arith in sym (ap (has w) f ∙ shifted w 1 j)) in
    let low : w % 2 ≡ cond (has w 0) 1 0 = rw div-one (digit (w % 2) (mod-lt w (omega arith))) in
    ones_step w ∙ ap₂ ◌+◌ low rest ∙ sym (many_front k (has w))
