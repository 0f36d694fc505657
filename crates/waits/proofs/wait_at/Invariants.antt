-- `waits::wait_at` meets its contract. The loop keeps `Passed`: no message passed keeps the board waiting. Assumes nothing.
use Prim.Native.Nat.{◌-◌}
use Rattle.waits.proofs.Searching.{Passed}
use Rattle.waits.proofs.wait_at.Given as goal

abbrev pub invariant-loop-m : goal.invariant-loop-m
invariant-loop-m l = Passed l.scenario.count l.scenario.boards.now l.scenario.words.now l.done l.buffer l.m

abbrev pub decreases-loop-m : goal.decreases-loop-m
decreases-loop-m l = l.scenario.count - l.m
