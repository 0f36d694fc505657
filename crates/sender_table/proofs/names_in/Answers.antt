-- `names_in` meets its contract. Assumes nothing.
use Rattle.model.specs.Text.{ascii}
use Rattle.sender_table.proofs.Lines.{names_all, no_verdict, no_to, no_from}
use Rattle.sender_table.proofs.names_in.Goals as goal
use Rattle.sender_table.proofs.names_in.Goals.{else-is_name-via-then-is_name+then-is_name-2+else-is_name-3, else-is_name-via-then-is_name+else-is_name-2, else-is_name-via-else-is_name}

pub returns-then-is_name-3 : goal.returns-then-is_name-3
unfolding ascii
returns-then-is_name-3 c = search names_all

pub returns : goal.returns
unfolding ascii
returns c =
    elim c.else-is_name.branch [
      | else-is_name-via-then-is_name+then-is_name-2+else-is_name-3 w ↦ search no_verdict
      | else-is_name-via-then-is_name+else-is_name-2 w ↦ search no_to
      | else-is_name-via-else-is_name w ↦ search no_from
    ]
