-- What the reader's functions do with the columns and the table.
-- Assumes nothing.
use Rattle.std.specs.Prelude.{ℕ, ◌≡◌, Bool, List, drop, Result}
use Rattle.model.specs.Refusal.{ok, and_then}
use Rattle.model.specs.Text.{Columns, lines_of}
use Rattle.model.specs.Rows.{Row}
use Rattle.model.specs.Place.{outside, rows_from, complete}
use Rattle.outcome.specs.declared.Refusal.{Refusal}
use Rattle.sheet.specs.Bridge.{outcome_of, starts_of, Store, KeptOn}

-- the rows behind the heading, complete
pub record BodyAs (choices : Bool) (c : Columns) (text : List ℕ) (first : ℕ) (s : Store) (v : Result ℕ Refusal) : Type 0 where
  pub outcome : outcome_of v s.kind s.one s.two ≡ and_then (rows_from choices c 0 outside (lines_of (drop first text))) complete
  pub starts : (rs : List Row) → and_then (rows_from choices c 0 outside (lines_of (drop first text))) complete ≡ ok rs → s.start ≡ starts_of rs
  pub kept : KeptOn s v
