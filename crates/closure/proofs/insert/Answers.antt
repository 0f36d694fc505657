-- `closure::insert` meets its contract. The loop keeps `Inserting`: the rows passed have been looked at, one a turn.
use Rattle.closure.proofs.Loops.{inserting_none, inserting_start, inserting_kept, inserting_added, inserting_end, behind_same, behind_held, behind_not}
use Rattle.closure.proofs.insert.Goals as goal
use Rattle.closure.proofs.insert.Goals.{then-b-y, then-b-y-via-then-b-y, then-b-y-via-else-b-y+then-test-2, else-b-y+else-test-2}

pub returns-then-test : goal.returns-then-test
returns-then-test c = search inserting_none

pub loop-b-init : goal.loop-b-init
loop-b-init c = search inserting_start

pub loop-b-preserved : goal.loop-b-preserved
loop-b-preserved c =
    elim c.if-b-y.branch [
      | then-b-y w ↦ elim w.then-b-y.branch [
        | then-b-y-via-then-b-y v ↦ search (inserting_added, behind_same)
        | then-b-y-via-else-b-y+then-test-2 v ↦ search (inserting_added, behind_held)
      ]
      | else-b-y+else-test-2 w ↦ search (inserting_kept, behind_not)
    ]

pub returns : goal.returns
returns c = search inserting_end
