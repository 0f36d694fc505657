-- What the caller lends: the rows of a text in three columns, and where each sheet starts.
-- Assumes nothing.
use Rattle.std.specs.Prelude.{ℕ, ◌≤◌, ◌≡◌, Bool, List, length}
use Rattle.model.specs.Refusal.{ok}
use Rattle.model.specs.Rows.{Row}
use Rattle.model.specs.Place.{read_with}
use Rattle.sheet.specs.Bridge.{rows_of, starts_of}
use Rattle.sheet.specs.declared.Rows.{Rows}

-- the rows are those of some text, with or without A rows let through
abbrev pub AreRead : List Row → Type 0
AreRead rs = (choices : Bool) × (text : List ℕ) × (read_with choices text ≡ ok rs)

-- The columns lent hold the rows of some text, and the table says where each sheet starts.
pub record RowsRead (kind one two : List ℕ) (count : ℕ) (start : List ℕ) : Type 0 where
  pub read : AreRead (rows_of kind one two count)
  pub starts : start ≡ starts_of (rows_of kind one two count)
  pub kind_long : count ≤ length kind
  pub one_long : count ≤ length one
  pub two_long : count ≤ length two

-- the same of the code's value
abbrev pub AreLent : Rows → Type 0
AreLent rs = RowsRead rs.kind.now rs.one.now rs.two.now rs.count rs.start.now
