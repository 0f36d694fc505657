-- `number_up_to` meets its contract. Assumes nothing.
use Rattle.fields.proofs.Spans.{span_ordered, span_inside, number_field}
use borrow.Author.Rules.{rules}
use Rattle.fields.proofs.number_up_to.Goals as goal

pub number_at-requires : goal.number_at-requires
number_at-requires c = (search span_ordered, search span_inside, search rules)

pub returns : goal.returns
returns c = search number_field
