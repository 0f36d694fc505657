-- The trace's bytes: two a step, and what they tell. Assumes nothing.
use Prim.Native.Nat.{ℕ, zero, suc, ◌+◌, ◌*◌, ◌<◌}
use native.Mathlib.Omega.{arith}
use mathlib.Core.Path.{◌≡◌, refl, sym, ◌∙◌, ap, subst₂}
use mathlib.Core.List.{List, [], ◌∷◌, ◌++◌}
use mathlib.Core.Option.{some}
use lib.ListN.{length, get_or, drop}
use lib.Seq.{drop-cons}
use Rattle.model.specs.Run.{Step, send, deliver, consume}
use Rattle.model.specs.Schedule.{kind_of, message_of_step, bytes_of, step_told}

pub bytes_length : (ts : List Step) → length (bytes_of ts) ≡ 2 * length ts
unfolding bytes_of
bytes_length [] = refl
bytes_length (t ∷ ts) = omega (arith, bytes_length ts)

-- the bytes of one step more
pub bytes_more : (ts : List Step) (t : Step) → bytes_of (ts ++ (t ∷ [])) ≡ bytes_of ts ++ (kind_of t ∷ message_of_step t ∷ [])
unfolding bytes_of
bytes_more [] t = refl
bytes_more (u ∷ ts) t = ap (λ l. kind_of u ∷ message_of_step u ∷ l) (bytes_more ts t)

-- a step's two bytes tell that step
pub told_back : (t : Step) → step_told (kind_of t) (message_of_step t) ≡ some t
told_back (send m) = refl
told_back (deliver m) = refl
told_back (consume m) = refl

-- and the bytes that tell a step are its own
pub told_is : (kind m : ℕ) (t : Step) → step_told kind m ≡ some t → (kind_of t ≡ kind) × (message_of_step t ≡ m)
told_is zero m t e = let i : send m ≡ t = cc in (ap kind_of (sym i), ap message_of_step (sym i))
told_is (suc zero) m t e = let i : deliver m ≡ t = cc in (ap kind_of (sym i), ap message_of_step (sym i))
told_is (suc (suc zero)) m t e = let i : consume m ≡ t = cc in (ap kind_of (sym i), ap message_of_step (sym i))
told_is (suc (suc (suc kind))) m t e = let z : ◌≡◌ {A = ℕ} 0 1 = cc in absurd (omega arith)

-- two bytes of a trace, and what is behind them
pub two_more : (l : List ℕ) (k : ℕ) → k + 1 < length l → drop k l ≡ get_or l k 0 ∷ get_or l (k + 1) 0 ∷ drop (k + 2) l
two_more l k h =
    let first : k < length l = omega arith in
    let second : suc k < length l = omega arith in
    let one : suc k ≡ k + 1 = omega arith in
    let two : suc (suc k) ≡ k + 2 = omega arith in
    drop-cons l k 0 first
    ∙ ap (λ t. get_or l k 0 ∷ t)
    (drop-cons l (suc k) 0 second ∙ subst₂ (λ (a b : ℕ). get_or l (suc k) 0 ∷ drop (suc (suc k)) l ≡ get_or l a 0 ∷ drop b l) one two refl)
