-- `expansion::walk_on` meets its contract. Assumes nothing.
use Rattle.sheet.specs.Bridge.{rows_of}
use Rattle.blocks.specs.Store.{store_of, walked_on}
use Rattle.walk.specs.Block.{state_of}
use Rattle.levels.specs.Options.{options_of}
use Rattle.next_block.specs.Levels.{rank}
use Rattle.expansion.proofs.Whole.{Walking}
use Rattle.expansion.proofs.walk_on.Given as goal

abbrev pub invariant-loop-reached : goal.invariant-loop-reached
invariant-loop-reached l = Walking l.options l.rows.kind.now l.rows.one.now l.rows.two.now l.rows.count (walked_on (options_of l.options) (rows_of l.rows.kind.now l.rows.one.now l.rows.two.now l.rows.count) (state_of l.initial.here (store_of l.initial.boards l.initial.words l.initial.past))) l.from l.level l.at l.here
    (store_of l.boards l.words l.past)

abbrev pub decreases-loop-reached : goal.decreases-loop-reached
decreases-loop-reached l = rank l.rows.count l.level l.at l.here.calls
