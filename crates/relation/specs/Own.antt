-- The search for an event that is in its own row. Assumes nothing.
use Rattle.std.specs.Prelude.{Bool, List, ℕ}
use Rattle.relation.specs.Rows.{holds}

-- event k is in its own row: it is before itself
abbrev pub is_own : ℕ → List ℕ → ℕ → Bool
is_own W words k = holds W words k k
