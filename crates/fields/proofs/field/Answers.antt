-- `field` meets its contract. Assumes nothing.
use Rattle.fields.proofs.Spans.{span_first, span_second, span_third}
use Rattle.fields.proofs.field.Goals as goal

pub returns-then-place-eq0 : goal.returns-then-place-eq0
returns-then-place-eq0 c = search span_first

pub returns-then-place-eq1 : goal.returns-then-place-eq1
returns-then-place-eq1 c = search span_second

pub returns : goal.returns
returns c = search span_third
