-- `buffers::lay_rows` meets its contract. The loop keeps `Laid`: the buffers passed are laid out. Assumes nothing.
use Rattle.buffers.proofs.Rows.{Laid}
use Rattle.buffers.proofs.lay_rows.Given as goal

abbrev pub invariant-loop-board : goal.invariant-loop-board
invariant-loop-board l = Laid l.run l.rows l.board
