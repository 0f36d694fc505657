-- A relation on numbers: as a list of pairs, as a table, and the least transitive relation that holds it, computed.
-- Assumes nothing.
use Rattle.std.specs.Prelude.{ℕ, zero, suc, Bool, false, ◌&&◌, ◌||◌, List, [], ◌∷◌, eqb, get_or}

-- the pair is among those listed
unfoldable pub listed : ℕ → ℕ → List (ℕ × ℕ) → Bool
listed x y [] = false
listed x y (p ∷ ps) = (eqb x p.0 && eqb y p.1) || listed x y ps

-- f 0, f 1, .. , n of them
unfoldable pub cells : {A : Type 0} → ℕ → (ℕ → A) → List A
cells zero f = []
cells (suc n) f = f zero ∷ cells n (λ k. f (suc k))

-- a relation on the numbers below n, as a table, and its test
unfoldable pub tabled : ℕ → (ℕ → ℕ → Bool) → List (List Bool)
tabled n r = cells n (λ x. cells n (λ y. r x y))

unfoldable pub reads : List (List Bool) → ℕ → ℕ → Bool
reads t x y = get_or (get_or t x []) y false

-- the pairs of numbers below n that r links over numbers below k (Warshall)
unfoldable pub linked : ℕ → (ℕ → ℕ → Bool) → ℕ → List (List Bool)
linked n r zero = tabled n r
linked n r (suc k) = let t = linked n r k in tabled n (λ x y. reads t x y || reads t x k && reads t k y)
