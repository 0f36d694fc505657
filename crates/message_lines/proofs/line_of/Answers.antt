-- `message_lines::line_of` meets its contract. Assumes nothing.
use Rattle.message_lines.proofs.Whole.{line_there}
use Rattle.message_lines.proofs.line_of.Goals as goal

pub returns : goal.returns
returns c = search line_there
