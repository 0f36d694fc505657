-- The scenario of a text with a table, behind refusals 1 and 2, or the refusal. Assumes nothing.
use Rattle.std.specs.Prelude.{ℕ, cond, ◌&&◌, List, leb, ltb, length}
use Rattle.model.specs.Limits.{text_most}
use Rattle.model.specs.Refusal.{Out, refusal, and_then, length_refusal}
use Rattle.model.specs.Order.{Scenario}
use Rattle.model.specs.Senders.{sound_table}
use Rattle.permitted_sheet.specs.Sheet.{sheet_by}

unfoldable pub sheet_with : List ℕ → List ℕ → Out Scenario
sheet_with text table =
    cond (ltb 0 (length text) && leb (length text) text_most) (and_then (sound_table table) (sheet_by text)) (refusal length_refusal 0)
