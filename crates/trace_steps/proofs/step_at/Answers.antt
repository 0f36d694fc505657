-- `trace_steps::step_at` meets its contract. Assumes nothing.
use Rattle.trace_steps.proofs.Going.{tells_unknown, tells_known}
use Rattle.trace_steps.proofs.step_at.Goals as goal

pub returns-then-count-m : goal.returns-then-count-m
returns-then-count-m c = search tells_unknown

pub returns : goal.returns
returns c = search tells_known
