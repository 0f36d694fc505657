-- `waits::wait_at` meets its contract. The loop keeps `Passed`: no message passed keeps the board waiting. Assumes nothing.
use Rattle.next_message.proofs.InRow.{less_left}
use Rattle.waits.proofs.Searching.{search_begins, goes_past, finds_nobody, nobody_left, finds_done, finds_event, event_fits}
use Rattle.waits.proofs.wait_at.Goals as goal

pub loop-m-init : goal.loop-m-init
loop-m-init c = search search_begins

pub returns-in-Done : goal.returns-in-Done
returns-in-Done c = search finds_done

pub overflow_cast-result : goal.overflow_cast-result
overflow_cast-result c = search event_fits

pub returns-in-Waits : goal.returns-in-Waits
returns-in-Waits c = search finds_event

pub returns-then-m-scenario : goal.returns-then-m-scenario
returns-then-m-scenario c = search nobody_left

pub loop-m-smaller : goal.loop-m-smaller
loop-m-smaller c = search less_left

pub loop-m-preserved : goal.loop-m-preserved
loop-m-preserved c = search goes_past

pub returns : goal.returns
returns c = search finds_nobody
