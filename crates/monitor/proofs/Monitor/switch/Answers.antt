-- `Monitor::switch` meets its contract. Assumes nothing.
use mathlib.Core.Path.{subst⁻¹}
use Rattle.model.specs.Monitor.{Switched}
use Rattle.monitor.specs.Bridge.{held_in, monitor_of, zeros}
use Rattle.monitor.proofs.Whole.{all_lists}
use Rattle.monitor.proofs.Monitor.switch.Goals as goal

pub returns : goal.returns
returns c = (subst⁻¹ (Switched held_in monitor_of zeros c.args.self c.args.code c.args.text.now c.args.scratch.now c.switched-outcome.new.scratch) c.answered.ensures c.switched-outcome.ensures.promise, all_lists)
