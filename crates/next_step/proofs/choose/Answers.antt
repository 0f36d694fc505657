-- `next_step::choose` meets its contract. Assumes nothing.
use Rattle.next_step.proofs.Searching.{tried_none, tried_more, chooses, chooses_nothing}
use Rattle.next_step.proofs.choose.Goals as goal

pub loop-class-init : goal.loop-class-init
loop-class-init c = search tried_none

pub returns-in-Some : goal.returns-in-Some
returns-in-Some c = search (chooses, c.in-Some.ensures)

pub loop-class-preserved : goal.loop-class-preserved
loop-class-preserved c = search (tried_more, c.in_default.ensures)

pub returns : goal.returns
returns c = search chooses_nothing
