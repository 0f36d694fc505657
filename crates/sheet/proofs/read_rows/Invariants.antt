-- `read_rows` meets its contract. The loop's invariant: what is read of the rows so far, and what the reader holds. Assumes nothing.
use Prim.Native.Nat.{◌-◌}
use lib.ListN.{length}
use Rattle.heading.specs.Names.{columns_from}
use Rattle.sheet.proofs.Storing.{Looping}
use Rattle.sheet.proofs.read_rows.Given as goal

abbrev pub invariant-loop-at : goal.invariant-loop-at
invariant-loop-at l = Looping l.choices (columns_from l.columns) l.text l.first l.at l.row l.messages l.kind l.one l.two l.start l.boards l.initial.words l.words

abbrev pub decreases-loop-at : goal.decreases-loop-at
decreases-loop-at l = length l.text - l.at
