-- `last_turn::are_boards` meets its contract. Assumes nothing.
use Prim.Native.Nat.{◌-◌}
use Rattle.last_turn.proofs.Answers.{Boarded}
use Rattle.last_turn.proofs.are_boards.Given as goal

abbrev pub invariant-loop-x : goal.invariant-loop-x
invariant-loop-x l = Boarded l.boards l.count l.x-end l.x

abbrev pub decreases-loop-x : goal.decreases-loop-x
decreases-loop-x l = l.x-end - l.x
