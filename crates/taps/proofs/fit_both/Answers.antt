-- `taps::fit_both` meets its contract: what the search for a circle finds decides. Assumes nothing.
use Rattle.taps.proofs.Deciding.{lent_room, linked_long, clashes, fits_without_circle, fits}
use borrow.Author.Rules.{rules}
use native.Mathlib.Omega.{arith}
use Rattle.taps.proofs.fit_both.Goals as goal

pub link_both-requires : goal.link_both-requires
link_both-requires c = record { room = search lent_room; transitive = search rules; first_value = search rules; second_value = search rules }

pub lowest_own-requires : goal.lowest_own-requires
lowest_own-requires c = let long = linked_long _ _ _ _ _ c.requires.lent c.requires.first_value c.requires.second_value _ c.link_both.ensures in
    let room = lent_room _ _ _ c.requires.lent in
    record { width_in_bounds = omega arith; rows_bound = omega arith }

pub write_course-requires : goal.write_course-requires
write_course-requires c = let long = linked_long _ _ _ _ _ c.requires.lent c.requires.first_value c.requires.second_value _ c.link_both.ensures in
    let room = lent_room _ _ _ c.requires.lent in record { width_in_bounds = omega arith; events_bound = (omega arith, omega arith); no_circle = fits_without_circle _ _ _ _ _ c.requires.lent c.requires.first_value c.requires.second_value _ c.link_both.ensures _ c.lowest_own.ensures c.in-None.is }

pub returns-in-Some : goal.returns-in-Some
returns-in-Some c = search clashes

pub returns-in-None : goal.returns-in-None
returns-in-None c = search fits
