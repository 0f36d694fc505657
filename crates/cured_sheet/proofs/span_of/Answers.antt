-- `cured_sheet::span_of` meets its contract. Assumes nothing.
use Rattle.cured_sheet.proofs.Spans.{span_none}
use Rattle.cured_sheet.proofs.span_of.Goals as goal

pub returns-then-events-eq0 : goal.returns-then-events-eq0
returns-then-events-eq0 c = search span_none
