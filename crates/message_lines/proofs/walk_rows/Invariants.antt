-- `message_lines::walk_rows` meets its contract: its loop keeps `Writing`. It ends, since each turn brings it nearer to the end of the walk.
use Rattle.next_block.specs.Levels.{rank}
use Rattle.message_lines.proofs.Looking.{Writing}
use Rattle.message_lines.proofs.walk_rows.Given as goal

abbrev pub invariant-loop-met : goal.invariant-loop-met
invariant-loop-met l = Writing l.rows.kind.now l.rows.one.now l.rows.two.now l.rows.count l.asked l.initial.lines l.lines l.from l.level l.at l.calls l.met

abbrev pub decreases-loop-met : goal.decreases-loop-met
decreases-loop-met l = rank l.rows.count l.level l.at l.calls
