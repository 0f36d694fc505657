-- `verdict::lock` meets its contract. Assumes nothing.
use borrow.Author.Rules.{rules}
use Rattle.model.proofs.PointThree.{race_lowest}
use Rattle.verdict.proofs.Parts.{locks}
use Rattle.verdict.proofs.lock.Goals as goal

pub withhold-steps-requires : goal.withhold-steps-requires
withhold-steps-requires c = record { fit = search rules; code_lt_channels = search rules; e_lt_count = (race_lowest _ c.args.code _ _ c.requires.race).in_scenario.0 }

pub returns : goal.returns
returns c = search locks
