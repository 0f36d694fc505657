-- `Monitor::judge_switch` meets its contract. Assumes nothing.
use Rattle.monitor.proofs.Parts.{line_small}
use Rattle.monitor.proofs.Monitor.judge_switch.Goals as goal

pub returns-in-Err-clause-fits : goal.returns-in-Err-clause-fits
returns-in-Err-clause-fits c = line_small _ _ _ _ c.in-Err.ensures
