-- The rows of one block: what they come to, and what each asks of the walk that comes to it.
-- Assumes nothing.
use Rattle.std.specs.Prelude.{ℕ, ◌+◌, ◌-◌, ◌*◌, ◌<◌, ◌≤◌, ◌≡◌, Bool, true, false, ◌&&◌, ◌||◌, List, [], ◌∷◌, eqb, ltb, length, get_or, Result, Ok, Err}
use Prim.Native.Char.{code}
use Rattle.model.specs.Limits.{boards, messages_most, rows_most}
use Rattle.model.specs.Refusal.{Out, ok, refusal, messages_refusal}
use Rattle.model.specs.Rows.{Row, sheet, message, order, block, call, choice}
use Rattle.model.specs.Place.{line_of}
use Rattle.model.specs.Expansion.{Progress, block_opened, message_met, order_met}
use Rattle.sheet.specs.Bridge.{rows_at}
use Rattle.blocks.specs.Store.{Store, store_ops}
use Rattle.blocks.specs.Room.{Room}
use Rattle.walk.specs.declared.Walk.{Walk}
use Rattle.walk.specs.declared.Walked.{Walked}
use Rattle.outcome.specs.declared.Refusal.{Refusal}
use Rattle.outcome.specs.Refusals.{refused_in}

-- a walk that has met nothing yet
abbrev pub fresh : Walk
fresh = record { calls = 0; choices = 0; first = 0; count = 0 }

-- a walk at the beginning of a block: none of the block's messages is met
abbrev pub opened : ℕ → ℕ → ℕ → Walk
opened calls choices met = record { calls = calls; choices = choices; first = met; count = met }

-- a walk, and what it has collected
abbrev pub state_of : Walk → Store → Progress Store
state_of w t = record { walk = record { calls = w.calls; choices = w.choices; first = w.first; count = w.count }; kept = t }

-- the rows from row i on, of the first so many
abbrev pub rows_from : List ℕ → List ℕ → List ℕ → ℕ → ℕ → List Row
rows_from kind one two count i = rows_at kind one two i (count - i)

-- row i is one of a block, M or P
unfoldable pub in_block : List ℕ → ℕ → ℕ → Bool
in_block kind count i = ltb i count && (eqb (get_or kind i 0) (code "M") || eqb (get_or kind i 0) (code "P"))

-- The M and P rows at the head are met, the first of all being row i, and the next block is open behind them: the row there, and the
-- walk. Refusal 10 at the first message too many.
unfoldable pub block_walked : List Row → ℕ → Progress Store → Out (ℕ × Progress Store)
block_walked [] i s = ok (i, block_opened store_ops s)
block_walked (sheet n ∷ rs) i s = ok (i, block_opened store_ops s)
block_walked (message a b ∷ rs) i s =
    elim (ltb s.walk.count messages_most) [
      | true ↦ block_walked rs (i + 1) (message_met store_ops a b s)
      | false ↦ refusal messages_refusal (line_of i)
    ]
block_walked (order x y ∷ rs) i s = block_walked rs (i + 1) (order_met store_ops x y s)
block_walked (block ∷ rs) i s = ok (i, block_opened store_ops s)
block_walked (call n ∷ rs) i s = ok (i, block_opened store_ops s)
block_walked (choice m n ∷ rs) i s = ok (i, block_opened store_ops s)

-- what a block leaves
abbrev pub walked_of : Result Walked Refusal → Store → Out (ℕ × Progress Store)
walked_of (Ok b) t = ok (b.row, state_of b.walk t)
walked_of (Err r) t = refused_in r

abbrev pub RoomLeft : Result Walked Refusal → Store → Type 0
RoomLeft (Ok b) t = Room b.walk.first b.walk.count t
RoomLeft (Err r) t = Unit {0}

pub record Leaves (r : Result Walked Refusal) (t : Store) (expected : Out (ℕ × Progress Store)) : Type 0 where
  pub exact : walked_of r t ≡ expected
  pub room : RoomLeft r t

-- so many rows stand in the three columns, and a row's line fits
pub record RowsFew (kind one two : List ℕ) (count : ℕ) : Type 0 where
  pub few : count ≤ rows_most
  pub kind_long : count ≤ length kind
  pub one_long : count ≤ length one
  pub two_long : count ≤ length two

-- a row of a block that has n events: its boards are boards, and its events are there
abbrev pub Stands : ℕ → Row → Type 0
Stands n (sheet k) = Unit {0}
Stands n (message a b) = (a < boards) × (b < boards)
Stands n (order x y) = (x < n) × (y < n)
Stands n block = Unit {0}
Stands n (call k) = Unit {0}
Stands n (choice j k) = Unit {0}

-- the events of the open block behind a row
abbrev pub open_behind : ℕ → Row → ℕ
open_behind n (sheet k) = 0
open_behind n (message a b) = n + 2
open_behind n (order x y) = n
open_behind n block = 0
open_behind n (call k) = 0
open_behind n (choice j k) = 0

abbrev pub AllStand : ℕ → List Row → Type 0
AllStand n [] = Unit {0}
AllStand n (r ∷ rs) = Stands n r × AllStand (open_behind n r) rs

-- a walk of the rows from row i on has room, and each of them stands
pub record Ready (kind one two : List ℕ) (count i first met : ℕ) (t : Store) : Type 0 where
  pub room : Room first met t
  pub stand : AllStand (2 * (met - first)) (rows_from kind one two count i)
