-- `digits` meets its contract. The loop's invariant: the digits up to `i` have the value so far, at most the largest. Assumes nothing.
use Rattle.fields.proofs.Scan.{Valued}
use Rattle.fields.proofs.digits.Given as goal

abbrev pub invariant-loop-i : goal.invariant-loop-i
invariant-loop-i l = Valued l.most l.text l.from l.to l.value l.i
