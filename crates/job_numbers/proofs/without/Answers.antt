-- `job_numbers::without` meets its contract. Assumes nothing.
use Rattle.model.proofs.Bounded.{not_both}
use Rattle.job_numbers.proofs.Numbers.{without_as}
use borrow.Author.Rules.{rules}
use Rattle.job_numbers.proofs.without.Goals as goal

pub closed_up-requires : goal.closed_up-requires
closed_up-requires c = record { counted = search rules; at_in_bounds = c.in-Some.ensures.1 }

pub returns-in-Some : goal.returns-in-Some
returns-in-Some c = without_as _ _ _ _ c.in-Some.ensures.0 (search rules)

pub returns-in-None : goal.returns-in-None
returns-in-None c = not_both _ c.requires c.in-None.ensures
