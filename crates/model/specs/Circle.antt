-- Request (b), circles in sheets that nobody calls: what refusal 11 means, in the request's words. Assumes nothing.
use Rattle.std.specs.Prelude.{ℕ, ◌≡◌, ◌↔◌, true, false, length}
use Rattle.std.proofs.Math.Option.{some}
use Rattle.model.specs.Rows.{Row}
use Rattle.model.specs.Place.{Place, outside, placed, BlockBefore, circle_at}

-- the places that the reading comes to: before the first row, and behind each row that gets neither refusal 6 nor 11
pub data Reached : Place → Type 0 where
  at_start : Reached outside
  behind_row : (p q : Place) (r : Row) → Reached p → placed p r ≡ some q → circle_at r q ≡ false → Reached q

-- an event of the open block is before itself
abbrev pub Circle : Place → Type 0
Circle p = (e : ℕ) × BlockBefore (length p.events) p.orders e e

-- Refusal 11 is for the row that first puts an event of its block before itself: ahead of it none is, and behind it one is.
abbrev pub FirstCircle : Type 0
FirstCircle = (p q : Place) (r : Row) → Reached p → placed p r ≡ some q → (Circle p → ⊥) × (circle_at r q ≡ true ↔ Circle q)
