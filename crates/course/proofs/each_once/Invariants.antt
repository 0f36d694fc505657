-- `course::each_once` meets its contract. The loop keeps `Judging`: the members passed are events, each once. Assumes nothing.
use Rattle.course.proofs.Lists.{Judging}
use Rattle.course.proofs.each_once.Given as goal

abbrev pub invariant-loop-member : goal.invariant-loop-member
invariant-loop-member l = Judging l.events l.list l.member-index l.seen
