-- `Dispatcher::admit` meets its contract. Assumes nothing.
use Rattle.dispatcher.proofs.Room.{races_room, boards_room}
use Rattle.dispatcher.proofs.Replies.{admit_as, whole}
use Rattle.dispatcher.proofs.Dispatcher.admit.Goals as goal

pub returns : goal.returns
returns c = let d = c.args.self in
    (admit_as d _ _ _ _ _ _ _ _ (races_room d _ c.well_formed.0) (boards_room d _ c.well_formed.0) c.admit_into-outcome.ensures.admits c.entered-told.ensures, whole)
