-- `next_step::lowest` meets its contract. Assumes nothing.
use Rattle.next_message.proofs.InRow.{less_left}
use Rattle.next_step.proofs.Searching.{search_begins, goes_past, finds, finds_none_left, finds_nothing}
use Rattle.next_step.proofs.lowest.Goals as goal

pub loop-m-init : goal.loop-m-init
loop-m-init c = search search_begins

pub returns-then-fits_class : goal.returns-then-fits_class
returns-then-fits_class c = search finds

pub returns-then-m-scenario : goal.returns-then-m-scenario
returns-then-m-scenario c = search finds_none_left

pub loop-m-smaller : goal.loop-m-smaller
loop-m-smaller c = search less_left

pub loop-m-preserved : goal.loop-m-preserved
loop-m-preserved c = search goes_past

pub returns : goal.returns
returns c = search finds_nothing
