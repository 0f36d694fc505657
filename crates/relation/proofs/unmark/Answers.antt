-- `relation::unmark` meets its contract: one shifted is the event's bit, and its complement keeps every other bit of its word.
use Rattle.relation.specs.Width.{width}
use Rattle.relation.proofs.Marked.{unmarked_by}
use Rattle.relation.proofs.unmark.Goals as goal

pub returns : goal.returns
returns c = unmarked_by width _ _ _
