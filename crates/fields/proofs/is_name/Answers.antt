-- `is_name` meets its contract. Assumes nothing.
use Rattle.fields.proofs.Spans.{span_ordered, span_inside, name_field}
use Rattle.fields.proofs.is_name.Goals as goal

pub are_bytes-requires : goal.are_bytes-requires
are_bytes-requires c = (search span_ordered, search span_inside)

pub returns : goal.returns
returns c = search name_field
