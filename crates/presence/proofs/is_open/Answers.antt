-- `is_open` meets its contract. Assumes nothing.
use mathlib.Core.Path.{◌∙◌}
use borrow.Author.Tests.{le-ltb}
use Rattle.place.specs.Stand.{is_open}
use Rattle.place.proofs.Standing.{open_beyond}
use borrow.Author.Rules.{rules}
use Rattle.presence.proofs.is_open.Goals as goal

pub returns-then-k-lt-SHEETS : goal.returns-then-k-lt-SHEETS
unfolding is_open
returns-then-k-lt-SHEETS c = search rules

pub returns-else-k-lt-SHEETS : goal.returns-else-k-lt-SHEETS
returns-else-k-lt-SHEETS c = le-ltb _ _ c.if-k-lt-SHEETS.false ∙ open_beyond _ _ c.requires c.if-k-lt-SHEETS.false
