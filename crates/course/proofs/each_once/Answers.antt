-- `course::each_once` meets its contract. The loop keeps `Judging`: the members passed are events, each once. Assumes nothing.
use Rattle.course.proofs.Lists.{judging_start, judged_unknown, judged_twice, judging_more, judging_end}
use Rattle.course.proofs.each_once.Goals as goal

pub loop-member-init : goal.loop-member-init
loop-member-init c = search judging_start

pub returns-then-events-event : goal.returns-then-events-event
returns-then-events-event c = search judged_unknown

pub returns-then-test : goal.returns-then-test
returns-then-test c = search judged_twice

pub loop-member-preserved : goal.loop-member-preserved
loop-member-preserved c = search judging_more

pub returns : goal.returns
returns c = search judging_end
