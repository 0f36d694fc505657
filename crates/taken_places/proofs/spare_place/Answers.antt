-- `taken_places::spare_place` meets its contract. Assumes nothing.
use Rattle.taken_places.proofs.Standing.{spare_of}
use Rattle.std.specs.Prelude.{Some, None}
use Rattle.taken_places.proofs.spare_place.Goals as goal

pub returns-in-Some : goal.returns-in-Some
returns-in-Some c = spare_of _ (Some _) c.in-Some.ensures

pub returns-in-None : goal.returns-in-None
returns-in-None c = spare_of _ None c.in-None.ensures
