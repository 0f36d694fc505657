-- The model's rows as the code reads them, with the table of starts in place of the list of sheets opened, and words in place of the
-- open block's P rows.
-- Assumes nothing.
use Prim.Native.Nat.{ℕ, suc}
use mathlib.Core.Bool.{Bool}
use mathlib.Core.List.{List, [], ◌∷◌}
use lib.ListN.{replicate}
use Rattle.model.specs.Limits.{sheets}
use Rattle.model.specs.Refusal.{Out, ok, refusal}
use Rattle.model.specs.Text.{Line, Columns}
use Rattle.model.specs.Rows.{Row}
use Rattle.row.specs.Judged.{Reader, judged_by}

-- the rows read, and the table of starts behind them
pub record Kept : Type 0 where
  pub rows : List Row
  pub starts : List ℕ

unfoldable pub ahead_of : Row → Out Kept → Out Kept
ahead_of r (ok k) = ok (record { rows = r ∷ k.rows; starts = k.starts })
ahead_of r (refusal number line) = refusal number line

-- the rows, read one by one; i is the number of the first
unfoldable pub read_from : Bool → Columns → ℕ → Reader → List Line → Out Kept
read_from choices c i s [] = ok (record { rows = []; starts = s.stand.starts })
read_from choices c i s (l ∷ ls) =
    elim (judged_by choices c i s l) [ refusal number line ↦ refusal number line | ok rq ↦ ahead_of rq.0 (read_from choices c (suc i) rq.1 ls) ]

-- a table with no sheet, ahead of the first row, and words of any content
abbrev pub fresh : List ℕ → Reader
fresh words = record { stand = record { starts = replicate sheets 0; events = [] }; words = words }
