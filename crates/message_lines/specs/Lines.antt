-- The lines of the messages that a walk of rows meets, in walk order. Assumes nothing.
use Rattle.std.specs.Prelude.{ℕ, List, []}
use Rattle.model.specs.Refusal.{ok, refusal}
use Rattle.model.specs.Rows.{Row}
use Rattle.model.specs.Expansion.{expand}
use Rattle.model.specs.Senders.{with_lines, line_ops}

unfoldable pub lines_in : List Row → List ℕ
lines_in file = elim (expand line_ops [] (with_lines 0 file) []) [ ok s ↦ s.kept | refusal number line ↦ [] ]
