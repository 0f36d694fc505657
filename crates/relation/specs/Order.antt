-- The rows as an order, and what it is to be transitive.
-- Assumes nothing.
use Rattle.std.specs.Prelude.{◌≡◌, Bool, true, List, ℕ, ◌<◌}
use Rattle.relation.specs.Rows.{holds}

-- Event a is before event b: it is in b's row.
abbrev pub before : ℕ → List ℕ → ℕ → ℕ → Bool
before W words a b = holds W words b a

-- Transitive on the first n events.
abbrev pub Transitive : ℕ → (ℕ → ℕ → Bool) → Type 0
Transitive n R = (a b c : ℕ) → a < n → b < n → c < n → R a b ≡ true → R b c ≡ true → R a c ≡ true
