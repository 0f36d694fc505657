-- `read_all` meets its contract. Assumes nothing.
use Rattle.input.proofs.Parts.{taken_more}
use borrow.Author.Rules.{rules}
use Rattle.input.proofs.read_all.Goals as goal

pub loop-at-preserved : goal.loop-at-preserved
loop-at-preserved g c = record { within = search rules; long = search rules; taken = search (taken_more, rules) }
