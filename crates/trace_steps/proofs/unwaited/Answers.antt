-- `trace_steps::unwaited` meets its contract. Assumes nothing.
use mathlib.Core.Path.{refl}
use Rattle.trace_steps.proofs.Going.{all_unwaited}
use Rattle.trace_steps.proofs.unwaited.Goals as goal

pub returns : goal.returns
returns c = record { verdict = refl; numbers = all_unwaited }
