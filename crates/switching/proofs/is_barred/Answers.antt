-- `switching::is_barred` meets its contract. Assumes nothing.
use Rattle.switching.proofs.Boards.{barred_by_buffers, barred_by_way}
use Rattle.switching.proofs.is_barred.Goals as goal

pub returns-then-bars_buffers : goal.returns-then-bars_buffers
returns-then-bars_buffers c = search barred_by_buffers

pub returns-else-bars_buffers : goal.returns-else-bars_buffers
returns-else-bars_buffers c = search barred_by_way
