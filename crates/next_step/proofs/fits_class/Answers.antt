-- `next_step::fits_class` meets its contract. Assumes nothing.
use Rattle.next_step.proofs.Searching.{message_below, other_class, in_class}
use Rattle.next_step.proofs.fits_class.Goals as goal

pub returns-else-takes : goal.returns-else-takes
returns-else-takes c = search other_class

pub may_step-requires : goal.may_step-requires
may_step-requires c = record { step_bound = search message_below }

pub returns-then-takes : goal.returns-then-takes
returns-then-takes c = search in_class
