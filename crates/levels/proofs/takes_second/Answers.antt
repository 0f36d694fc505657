-- `takes_second` meets its contract. Assumes nothing.
use Rattle.levels.proofs.Choosing.{option_at}
use lib.Bits.{and_mask}
use mathlib.Core.Path.{sym}
use borrow.Author.Rules.{rules}
use Rattle.levels.proofs.takes_second.Goals as goal

pub returns : goal.returns
returns c = rw (and_mask _ 1) (sym (option_at _ _ _ (search rules)))
