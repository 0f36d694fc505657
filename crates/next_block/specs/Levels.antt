-- The walk between two blocks, the open one being empty: what is left to walk from there on, and what each place asks.
-- Assumes nothing.
use Rattle.std.specs.Prelude.{ℕ, zero, suc, ◌+◌, ◌-◌, ◌*◌, ◌<◌, ◌≤◌, ◌≡◌, true, List, length, get_or, Result, Ok, Err}
use Prim.Native.Char.{code}
use Rattle.model.specs.Limits.{rows_most, levels, calls_most}
use Rattle.model.specs.Refusal.{Out, ok, and_then}
use Rattle.model.specs.Place.{line_of}
use Rattle.model.specs.Expansion.{Progress, start_of, block_opened, walk_rows, call_at}
use Rattle.sheet.specs.Bridge.{rows_of}
use Rattle.blocks.specs.Store.{Store, store_ops}
use Rattle.levels.specs.Options.{options_of, is_call, sheet_called}
use Rattle.walk.specs.Block.{rows_from, in_block, RowsFew, AllStand}
use Rattle.outcome.specs.declared.Refusal.{Refusal}
use Rattle.outcome.specs.Refusals.{refused_in}
use Rattle.next_block.specs.declared.Reached.{Reached}
use Rattle.next_block.specs.declared.Reached.TheVariants as reached

-- the first row from row i on that is no B row
pub record BehindBlocks (kind : List ℕ) (count i r : ℕ) : Type 0 where
  pub on : i ≤ r
  pub inside : r ≤ count
  pub blocks : (k : ℕ) → i ≤ k → k < r → get_or kind k 0 ≡ code "B"
  pub first : r < count → get_or kind r 0 ≡ code "B" → ⊥

-- how far it is to the end: a call is one more of those allowed, and else the walk goes back a level or on a row
abbrev pub rank : ℕ → ℕ → ℕ → ℕ → ℕ
rank count level i calls = (2 * (calls_most - calls) + level) * (rows_most + 1) + (count - i)

-- a walk in an empty block, and what it has collected
abbrev pub idle : ℕ → ℕ → ℕ → Store → Progress Store
idle calls choices met t = record { walk = record { calls = calls; choices = choices; first = met; count = met }; kept = t }

module _ (options : ℕ) (kind one two : List ℕ) (count : ℕ) where
  -- the rows from row i on, walked with so many levels left
  abbrev pub rows_walked : ℕ → ℕ → Progress Store → Out (Progress Store)
  rows_walked left i s =
      walk_rows store_ops (options_of options) (call_at store_ops (options_of options) left (rows_of kind one two count)) (rows_from kind one two count i) (line_of i) s

  -- what is left where the rows at a level have ended, the calls at these rows being open: at the end of sheet 0 the next block is opened
  unfoldable pub after : List ℕ → ℕ → Progress Store → Out (Progress Store)
  after from zero s = ok (block_opened store_ops s)
  after from (suc k) s = and_then (rows_walked (levels - k) (get_or from k 0 + 1) (block_opened store_ops s)) (after from k)

  -- what the whole comes to from a row at a level on
  abbrev pub rest : List ℕ → ℕ → ℕ → Progress Store → Out (Progress Store)
  rest from level i s = and_then (rows_walked (levels - level) i s) (after from level)

  -- the call at a row is open: the rows behind it stand
  pub record Behind (i : ℕ) : Type 0 where
    pub inside : i < count
    pub stand : AllStand 0 (rows_from kind one two count (i + 1))

  -- the rows are in the columns, each call's sheet is there and starts where the table says, and its rows stand
  pub record Sheets (start : List ℕ) : Type 0 where
    pub rows : RowsFew kind one two count
    pub known : (i choices : ℕ) → i < count → is_call (get_or kind i 0) ≡ true
        → sheet_called (get_or kind i 0) (get_or one i 0) (get_or two i 0) options choices < length start
    pub starts : (i choices : ℕ) → i < count → is_call (get_or kind i 0) ≡ true
        → get_or start (sheet_called (get_or kind i 0) (get_or one i 0) (get_or two i 0) options choices) 0
        ≡ start_of (sheet_called (get_or kind i 0) (get_or one i 0) (get_or two i 0) options choices) (rows_of kind one two count)
    pub stand : (n : ℕ) → AllStand 0 (rows_from kind one two count (start_of n (rows_of kind one two count)))

  pub record Between (from : List ℕ) (level i calls : ℕ) : Type 0 where
    pub deep : level ≤ levels
    pub long : length from ≡ levels
    pub few : calls ≤ calls_most
    pub stand : AllStand 0 (rows_from kind one two count i)
    pub behind : (k : ℕ) → k < level → Behind (get_or from k 0)

  -- where a block was reached
  pub record AtBlock (from : List ℕ) (level i calls most : ℕ) : Type 0 where
    pub between : Between from level i calls
    pub row : in_block kind count i ≡ true
    pub nearer : rank count level i calls ≤ most

  abbrev pub reached_rest : Result Reached Refusal → List ℕ → ℕ → Store → Out (Progress Store)
  reached_rest (Ok (reached.Block level i calls choices)) from met t = rest from level i (idle calls choices met t)
  reached_rest (Ok (reached.End calls choices)) from met t = ok (idle calls choices met t)
  reached_rest (Err r) from met t = refused_in r

  abbrev pub ReachedStands : Result Reached Refusal → List ℕ → ℕ → Type 0
  ReachedStands (Ok (reached.Block level i calls choices)) from most = AtBlock from level i calls most
  ReachedStands (Ok (reached.End calls choices)) from most = calls ≤ calls_most
  ReachedStands (Err r) from most = Unit {0}

  -- the walk comes to the same from there on, whatever it has met and collected
  pub record Reaches (from : List ℕ) (level i calls choices : ℕ) (r : Result Reached Refusal) (from' : List ℕ) : Type 0 where
    pub exact : (met : ℕ) (t : Store) → rest from level i (idle calls choices met t) ≡ reached_rest r from' met t
    pub stands : ReachedStands r from' (rank count level i calls)
