-- `next_block` meets its contract: its loop keeps `Seeking`. It ends, since each turn brings it nearer to the end.
use Rattle.next_block.specs.Levels.{rank}
use Rattle.next_block.proofs.Seeking.{Seeking}
use Rattle.next_block.proofs.next_block.Given as goal

abbrev pub invariant-loop-options : goal.invariant-loop-options
invariant-loop-options l = Seeking l.options l.rows.kind.now l.rows.one.now l.rows.two.now l.rows.count l.initial.from l.initial.level l.initial.at l.initial.calls l.initial.choices l.from l.level l.at l.calls l.choices

abbrev pub decreases-loop-options : goal.decreases-loop-options
decreases-loop-options l = rank l.rows.count l.level l.at l.calls
