-- `verdict::decide` meets its contract. Assumes nothing.
use borrow.Author.Rules.{rules}
use Rattle.verdict.proofs.Parts.{named, unnamed}
use Rattle.verdict.proofs.decide.Goals as goal

pub lock-requires : goal.lock-requires
lock-requires c = record { fit = search rules; code_lt_channels = search rules; race = search named }

pub returns-in-None : goal.returns-in-None
returns-in-None c = search unnamed
