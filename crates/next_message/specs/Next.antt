-- The next message in a row, from one on. Assumes nothing.
use Rattle.std.specs.Prelude.{Bool, ◌&&◌, ◌||◌, List, ℕ, ◌+◌, ◌*◌, leb}
use Rattle.std.proofs.Math.Option.{none, some}
use Rattle.model.specs.Limits.{messages_most}
use Rattle.model.specs.Bounded.{lowest}
use Rattle.run.specs.State.{in_row}

-- message j is m or a later one, and has a bit in the row, its send's or its receive's
abbrev pub stands_from : List ℕ → ℕ → ℕ → Bool
stands_from row m j = leb m j && (in_row row (2 * j) || in_row row (2 * j + 1))

-- the lowest such message; where there is none, the most messages
unfoldable pub next_in : List ℕ → ℕ → ℕ
next_in row m = elim (lowest messages_most (stands_from row m)) [ none ↦ messages_most | some j ↦ j ]
