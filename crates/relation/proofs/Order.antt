-- The order with one pair more, orders within each other, and the rows that such a pair can change.
-- Assumes nothing.
use mathlib.Core.Path.{◌≡◌}
use mathlib.Core.Bool.{Bool, true, false, ◌&&◌, ◌||◌}
use mathlib.Core.List.{List}
use Prim.Native.Nat.{ℕ, ◌<◌, ◌≤◌}
use lib.Dec.{eqb}
use Rattle.relation.specs.Rows.{holds}

-- Each pair of R, among the first n events, is one of S.
abbrev pub Within : ℕ → (ℕ → ℕ → Bool) → (ℕ → ℕ → Bool) → Type 0
Within n R S = (a b : ℕ) → a < n → b < n → R a b ≡ true → S a b ≡ true

-- R with x before y: all at or before x is before all at or behind y.
abbrev pub linked : (ℕ → ℕ → Bool) → ℕ → ℕ → ℕ → ℕ → Bool
linked R x y a b = R a b || (eqb a x || R a x) && (eqb b y || R y b)

-- Outside the rows from .. to - 1 no row, of the first n, is y's or holds y: inserting there loses nothing.
abbrev pub Covers : ℕ → List ℕ → ℕ → ℕ → ℕ → ℕ → Type 0
Covers W words n y from to =
    (b : ℕ) → b < n → (from ≤ b → b < to → ⊥) → (b ≡ y → ⊥) × (holds W words b y ≡ false)
