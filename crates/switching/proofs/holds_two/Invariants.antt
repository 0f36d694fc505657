-- `switching::holds_two` meets its contract: the boards passed hold one message at most. Assumes nothing.
use Rattle.switching.proofs.Boards.{Passed}
use Rattle.switching.proofs.holds_two.Given as goal

abbrev pub invariant-loop-buffer : goal.invariant-loop-buffer
invariant-loop-buffer l = Passed l.fn.run l.buffer-index
