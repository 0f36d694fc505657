-- `cured_sheet::span_at` meets its contract. Assumes nothing.
use Rattle.cured_sheet.proofs.Spans.{span_goes_on}
use Rattle.cured_sheet.proofs.span_at.Goals as goal

pub returns : goal.returns
returns c = search span_goes_on
