-- `Monitor::open` meets its contract. Assumes nothing.
use mathlib.Core.Path.{subst⁻¹}
use Rattle.model.specs.Monitor.{Opened}
use Rattle.monitor.specs.Bridge.{held_in, monitor_of, zeros}
use Rattle.monitor.proofs.Whole.{all_lists}
use Rattle.monitor.proofs.Monitor.open.Goals as goal

pub returns : goal.returns
returns c = (subst⁻¹ (Opened held_in monitor_of zeros c.args.text.now c.args.code c.args.scratch.now c.opened-outcome.new.scratch) c.answered.ensures c.opened-outcome.ensures.promise, all_lists)
