-- A queue has room for each job. Assumes nothing.
use mathlib.Core.Path.{◌≡◌}
use mathlib.Core.List.{List}
use lib.ListN.{length}
use mir.Val.{Val}
use denote.Laws.{Is}
use Rattle.model.specs.Limits.{jobs_most}
use Rattle.queue.specs.declared.Queue.{Queue}
use Rattle.queue.specs.contracts.Queue.{the_row}

pub room : (q : Queue) (vs : List Val) → Is the_row q vs → length q.jobs ≡ jobs_most
room q vs good = good.1.1.0.1.0.1
