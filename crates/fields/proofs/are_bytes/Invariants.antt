-- `are_bytes` meets its contract. The loop's invariant: the name and the field agree up to `i`. Assumes nothing.
use Rattle.fields.proofs.Scan.{Matched}
use Rattle.fields.proofs.are_bytes.Given as goal

abbrev pub invariant-loop-i : goal.invariant-loop-i
invariant-loop-i l = Matched l.text l.name l.from l.to l.i
