-- `job_numbers::position` meets its contract. Assumes nothing.
use Prim.Native.Nat.{◌-◌}
use Rattle.job_numbers.proofs.Numbers.{Looked}
use Rattle.job_numbers.proofs.position.Given as goal

abbrev pub invariant-loop-i : goal.invariant-loop-i
invariant-loop-i l = Looked l.queue l.number l.count l.i

abbrev pub decreases-loop-i : goal.decreases-loop-i
decreases-loop-i l = l.count - l.i
