-- `Monitor::step` meets its contract. Assumes nothing.
use mathlib.Core.Path.{subst⁻¹}
use Rattle.model.specs.Monitor.{Stepped}
use Rattle.monitor.specs.Bridge.{held_in, monitor_of, zeros}
use Rattle.monitor.proofs.Whole.{all_lists}
use Rattle.monitor.proofs.Monitor.step.Goals as goal

pub returns : goal.returns
returns c = (subst⁻¹ (Stepped held_in monitor_of zeros c.args.self c.args.kind c.args.message c.args.text.now c.args.scratch.now c.stepped-outcome.new.scratch) c.answered.ensures c.stepped-outcome.ensures.promise, all_lists)
