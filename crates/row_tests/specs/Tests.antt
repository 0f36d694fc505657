-- What the tests of whole words look for, among the first n events: every definition is over any width W.
-- Assumes nothing.
use Rattle.std.specs.Prelude.{Bool, not, ◌&&◌, List, ℕ}
use Rattle.model.specs.Bounded.{every}
use Rattle.relation.specs.Rows.{holds}

-- no event of row y that is in mask b passes the test
unfoldable pub none_of_row : ℕ → ℕ → List ℕ → ℕ → List ℕ → ℕ → (ℕ → Bool) → Bool
none_of_row n W words y masks b test = every n (λ k. not (holds W words y k && holds W masks b k && test k))

-- no event of mask b is in row y of those given
unfoldable pub none_in : ℕ → ℕ → List ℕ → ℕ → List ℕ → ℕ → Bool
none_in n W masks b given y = every n (λ k. not (holds W masks b k && holds W given y k))
