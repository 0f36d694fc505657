-- `walk::walk_block` meets its contract: its loop keeps `Meeting`. Assumes nothing.
use Prim.Native.Nat.{◌-◌}
use Rattle.blocks.specs.Store.{store_of}
use Rattle.walk.proofs.Meeting.{Meeting}
use Rattle.walk.proofs.walk_block.Given as goal

abbrev pub invariant-loop-words : goal.invariant-loop-words
invariant-loop-words l = Meeting l.rows.kind.now l.rows.one.now l.rows.two.now l.rows.count l.row l.walk (store_of l.initial.boards l.initial.words l.past) l.at l.met (store_of l.boards l.words l.past)

abbrev pub decreases-loop-words : goal.decreases-loop-words
decreases-loop-words l = l.rows.count - l.at
