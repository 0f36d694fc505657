-- The events of a row that are in a mask and not done, over any width W. Assumes nothing.
use Rattle.std.specs.Prelude.{Bool, not, ◌&&◌, List, ℕ}
use Rattle.relation.specs.Rows.{holds}
use Rattle.run.specs.State.{in_row}

-- an event that is not done
abbrev pub undone : List ℕ → ℕ → Bool
undone done k = not (in_row done k)

-- an event of row y that is in mask b and not done
unfoldable pub left_of : ℕ → List ℕ → ℕ → List ℕ → ℕ → List ℕ → ℕ → Bool
left_of W words y masks b done k = holds W words y k && holds W masks b k && undone done k
