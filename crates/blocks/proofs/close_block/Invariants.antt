-- `blocks::close_block` meets its contract. The loop keeps `Passing`: the events passed are past on their boards.
use Prim.Native.Nat.{◌*◌}
use Rattle.blocks.proofs.Turns.{Passing}
use Rattle.blocks.proofs.close_block.Given as goal

abbrev pub invariant-loop-e : goal.invariant-loop-e
invariant-loop-e l = Passing l.initial.past l.boards l.words (2 * l.first) (2 * l.count) l.e l.past
