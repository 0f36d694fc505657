-- `next_state::next` meets its contract. Assumes nothing.
use Rattle.run.proofs.States.{buffers_long}
use Rattle.next_state.proofs.Behind.{next_run}
use Rattle.next_state.proofs.next.Goals as goal

pub returns : goal.returns
returns c = let long = buffers_long c.args.run _ c.well_formed.0 in
    search next_run
