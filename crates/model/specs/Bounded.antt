-- Tests over the numbers below a bound, and over the members of a list. The other files speak through these.
-- Assumes nothing.
use Rattle.std.specs.Prelude.{ℕ, zero, suc, ◌+◌, Bool, true, false, not, cond, ◌&&◌, ◌||◌, List, [], ◌∷◌, eqb, ltb}
use Rattle.std.proofs.Math.Option.{Option, none, some}

-- every number below n passes the test
unfoldable pub every : ℕ → (ℕ → Bool) → Bool
every zero p = true
every (suc n) p = every n p && p n

-- some number below n passes the test
unfoldable pub any : ℕ → (ℕ → Bool) → Bool
any n p = not (every n (λ k. not (p k)))

-- how many numbers below n pass the test
unfoldable pub how_many : ℕ → (ℕ → Bool) → ℕ
how_many zero p = 0
how_many (suc n) p = how_many n p + cond (p n) 1 0

-- the lowest number below n that passes the test
unfoldable pub lowest : ℕ → (ℕ → Bool) → Option ℕ
lowest zero p = none
lowest (suc n) p = elim (lowest n p) [ none ↦ cond (p n) (some n) none | some k ↦ some k ]

-- n is a member of the list
unfoldable pub among : ℕ → List ℕ → Bool
among n [] = false
among n (k ∷ ks) = eqb n k || among n ks

-- the members are numbers below n, and none of them is there twice
unfoldable pub each_once : ℕ → List ℕ → Bool
each_once n [] = true
each_once n (k ∷ ks) = ltb k n && not (among k ks) && each_once n ks

-- two lists of numbers are the same
unfoldable pub same : List ℕ → List ℕ → Bool
same [] [] = true
same [] (b ∷ bs) = false
same (a ∷ as') [] = false
same (a ∷ as') (b ∷ bs) = eqb a b && same as' bs
