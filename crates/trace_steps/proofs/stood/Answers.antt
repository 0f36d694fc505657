-- `trace_steps::stood` meets its contract. Assumes nothing.
use Rattle.trace_steps.proofs.Going.{stood_finished, stood_stuck, stood_open}
use Rattle.trace_steps.proofs.stood.Goals as goal

pub returns-in-Finished : goal.returns-in-Finished
returns-in-Finished c = search stood_finished

pub returns-in-Stuck : goal.returns-in-Stuck
returns-in-Stuck c = search stood_stuck

pub returns-in-Open : goal.returns-in-Open
returns-in-Open c = search stood_open
