-- `sheet_text::write_heading` meets its contract. Assumes nothing.
use Prim.Native.Nat.{◌-◌}
use Rattle.sheet_text.specs.Writing.{heading_bytes}
use Rattle.sheet_text.proofs.Putting.{Copied}
use Rattle.sheet_text.proofs.write_heading.Given as goal

abbrev pub invariant-loop-i : goal.invariant-loop-i
invariant-loop-i l = Copied l.initial.rest l.i l.rest

abbrev pub decreases-loop-i : goal.decreases-loop-i
decreases-loop-i l = heading_bytes - l.i
