-- `queue_moves::behind_last` meets its contract. Assumes nothing.
use Rattle.queue_moves.proofs.Turns.{room_left, lasts}
use Rattle.queue_moves.proofs.behind_last.Goals as goal

pub bounds-queue-count : goal.bounds-queue-count
bounds-queue-count c = room_left _ _ c.requires.counted c.args.job c.requires.place_lt_jobs_most

pub returns : goal.returns
returns c = lasts _ _ c.requires.counted c.args.job c.requires.place_lt_jobs_most
