-- `open_sheet` meets its contract. Assumes nothing.
use Rattle.place.proofs.Standing.{may_not_beyond, may_not_again, may_open_holds}
use native.Mathlib.Omega.{arith}
use borrow.Author.Rules.{rules}
use Rattle.place.proofs.open_sheet.Goals as goal
use Rattle.place.proofs.open_sheet.Goals.{then-k-ge-SHEETS-via-then-k-ge-SHEETS, then-k-ge-SHEETS-via-else-k-ge-SHEETS+then-start-k-ne0}

pub returns-then-k-ge-SHEETS-clause-value : goal.returns-then-k-ge-SHEETS-clause-value
returns-then-k-ge-SHEETS-clause-value c =
    elim c.then-k-ge-SHEETS.branch [
      | then-k-ge-SHEETS-via-then-k-ge-SHEETS w ↦ may_not_beyond _ _ (search rules) (omega arith)
      | then-k-ge-SHEETS-via-else-k-ge-SHEETS+then-start-k-ne0 w ↦ may_not_again _ _ (search rules) (omega arith) (λ e. omega arith)
    ]

pub returns-clause-value : goal.returns-clause-value
returns-clause-value c = search (may_open_holds, rules)
