-- `cured_sheet::end_behind` meets its contract. Assumes nothing.
use Rattle.cured_sheet.specs.Spans.{NoneLast}
use Rattle.cured_sheet.proofs.end_behind.Given as goal

abbrev pub invariant-loop-e : goal.invariant-loop-e
invariant-loop-e l = NoneLast l.words l.count l.w l.e
