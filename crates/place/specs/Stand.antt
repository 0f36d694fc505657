-- The model's place as the code keeps it: the sheets opened are those with a start in the table.
-- Assumes nothing.
use Rattle.std.specs.Prelude as code
use Rattle.std.specs.Prelude.{ℕ, ◌+◌, ◌*◌, ◌≤◌, ◌≡◌, Bool, not, cond, ◌&&◌, ◌||◌, List, [], eqb, ltb, length, get_or, take, set, Some, None}
use Prim.Native.Char.{code}
use Rattle.std.proofs.Math.Option.{Option, none, some}
use Rattle.model.specs.Limits.{sheets, messages_most}
use Rattle.model.specs.Rows.{Row, sheet, message, order, block, call, choice}
use Rattle.model.specs.Place.{with_message, message_fits, order_fits, is_sheet}

-- Where the reader stands: the table of starts, and the board of each event of the open block.
pub record Stand : Type 0 where
  pub starts : List ℕ
  pub events : List ℕ

-- sheet n has a start
unfoldable pub is_open : List ℕ → ℕ → Bool
is_open starts n = not (eqb (get_or starts n 0) 0)

-- sheet n may be opened
unfoldable pub may_open : List ℕ → ℕ → Bool
may_open starts n = ltb n sheets && not (is_open starts n)

-- where the reader stands behind row i, if it has a place
unfoldable pub moved_to : ℕ → Stand → Row → Option Stand
moved_to i s (sheet n) = cond (may_open s.starts n) (some (record { starts = set s.starts n (i + 1); events = [] })) none
moved_to i s (message a b) =
    cond (message_fits s.events a b) (some (record { starts = s.starts; events = with_message s.events a b })) none
moved_to i s (order x y) = cond (order_fits s.events x y) (some s) none
moved_to i s block = some (record { starts = s.starts; events = [] })
moved_to i s (call n) = cond (ltb n sheets) (some (record { starts = s.starts; events = [] })) none
moved_to i s (choice m n) = cond (ltb m sheets && ltb n sheets) (some (record { starts = s.starts; events = [] })) none

-- the first row opens a sheet, so that every later row stands behind an S row
unfoldable pub stood_at : ℕ → Stand → Row → Option Stand
stood_at i s r = cond (is_sheet r || ltb 0 i) (moved_to i s r) none

-- the reader's table and boards, with so many messages in the open block
abbrev pub stand_of : List ℕ → List ℕ → ℕ → Stand
stand_of starts boards messages = record { starts = starts; events = take (2 * messages) boards }

-- where the reader stands behind a row, by the messages of the open block; nothing where a rule is broken
abbrev pub placed_as : code.Option ℕ → List ℕ → List ℕ → Option Stand
placed_as (Some m) starts boards = some (stand_of starts boards m)
placed_as None starts boards = none

abbrev pub FewMessages : code.Option ℕ → Type 0
FewMessages (Some m) = m ≤ messages_most
FewMessages None = Unit {0}

-- a kind that is not an S row's
abbrev pub OtherThanS : ℕ → Type 0
OtherThanS kind = kind ≡ code "S" → ⊥

-- a row that is no S row, in a block of m messages: whatever the table of starts holds, it stays as it is
pub record BlockAs (m : ℕ) (r : Row) (boards boards' : List ℕ) (p : code.Option ℕ) : Type 0 where
  pub stand : (starts : List ℕ) (i : ℕ) → placed_as p starts boards' ≡ moved_to i (stand_of starts boards m) r
  pub few : FewMessages p
  pub all_boards : length boards' ≡ 2 * messages_most

-- any row, as row `row`
pub record PlaceAs (row : ℕ) (s : Stand) (r : Row) (starts boards : List ℕ) (p : code.Option ℕ) : Type 0 where
  pub stand : placed_as p starts boards ≡ stood_at row s r
  pub few : FewMessages p
  pub all_starts : length starts ≡ sheets
  pub all_boards : length boards ≡ 2 * messages_most
