-- `race_list::list_races` meets its contract. Assumes nothing.
use Rattle.race_list.proofs.Words.{races_never, races_counted}
use Rattle.race_list.proofs.list_races.Goals as goal

pub returns-in-Never : goal.returns-in-Never
returns-in-Never c = search races_never

pub returns : goal.returns
returns c = search races_counted
