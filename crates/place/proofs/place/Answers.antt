-- `place` meets its contract. Assumes nothing.
use Rattle.place.proofs.Standing.{place_sheet, place_outside, place_behind}
use borrow.Author.Rules.{rules}
use Rattle.place.proofs.place.Goals as goal

pub returns-then-kind-eq83 : goal.returns-then-kind-eq83
returns-then-kind-eq83 c = search (place_sheet, rules)

pub returns-then-row-eq0 : goal.returns-then-row-eq0
returns-then-row-eq0 c = search place_outside

pub returns : goal.returns
returns c = search place_behind
