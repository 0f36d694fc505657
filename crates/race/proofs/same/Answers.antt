-- `race::same` meets its contract. Assumes nothing.
use Rattle.race.proofs.Boards.{same_one, other_none}
use Rattle.race.proofs.same.Goals as goal

pub returns-then-a-b : goal.returns-then-a-b
returns-then-a-b c = search same_one

pub returns-else-a-b : goal.returns-else-a-b
returns-else-a-b c = search other_none
