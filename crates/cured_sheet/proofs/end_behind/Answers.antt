-- `cured_sheet::end_behind` meets its contract. Assumes nothing.
use Rattle.cured_sheet.proofs.Spans.{last_start, last_more, last_end}
use Rattle.cured_sheet.proofs.end_behind.Goals as goal

pub loop-e-init : goal.loop-e-init
loop-e-init c = search last_start

pub loop-e-preserved : goal.loop-e-preserved
loop-e-preserved c = search last_more

pub returns : goal.returns
returns c = search last_end
