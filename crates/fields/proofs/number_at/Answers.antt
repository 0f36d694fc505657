-- `number_at` meets its contract. Assumes nothing.
use Rattle.fields.proofs.Scan.{number_none, number_zero, number_one, number_begun}
use mathlib.Core.Path.{◌∙◌}
use Rattle.fields.proofs.number_at.Goals as goal
use Rattle.fields.proofs.number_at.Goals.{else-text-from-eq48-via-then-text-from-eq48+else-from-to-2, else-text-from-eq48-via-else-text-from-eq48}

pub returns-then-from-to : goal.returns-then-from-to
returns-then-from-to c = search number_none

pub returns-then-from-to-2 : goal.returns-then-from-to-2
returns-then-from-to-2 c = search number_zero

pub returns : goal.returns
returns c =
    c.digits.ensures
    ∙ elim c.else-text-from-eq48.branch [
      | else-text-from-eq48-via-then-text-from-eq48+else-from-to-2 w ↦ search number_one
      | else-text-from-eq48-via-else-text-from-eq48 w ↦ search number_begun
    ]
