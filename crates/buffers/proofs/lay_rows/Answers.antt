-- `buffers::lay_rows` meets its contract. The loop keeps `Laid`: the buffers passed are laid out. Assumes nothing.
use mathlib.Core.Path.{refl}
use borrow.Author.Rules.{rules}
use Rattle.run.proofs.States.{buffers_long}
use Rattle.buffers.proofs.Rows.{laid_start, laid_more, laid_all}
use Rattle.buffers.proofs.lay_rows.Goals as goal

pub loop-board-init : goal.loop-board-init
loop-board-init c = laid_start _ _

pub loop-board-preserved : goal.loop-board-preserved
loop-board-preserved c = laid_more _ _ _ _ _ c.loop-board.invariant refl c.lay_row.ensures (search rules)

pub returns : goal.returns
returns c = laid_all _ _ _ c.loop-board.invariant c.loop-board-test.false (buffers_long c.args.run _ c.well_formed.1.0)
