-- `Dispatcher::turn` meets its contract. Assumes nothing.
use Rattle.dispatcher.proofs.Room.{races_room, boards_room}
use Rattle.dispatcher.proofs.Replies.{turn_as, whole}
use Rattle.dispatcher.proofs.Dispatcher.turn.Goals as goal

pub returns : goal.returns
returns c = let d = c.args.self in
    (turn_as d _ _ _ _ _ _ _ _ _ (races_room d _ c.well_formed.0) (boards_room d _ c.well_formed.0) c.first_place-place.ensures.below c.serve-outcome.ensures.turns c.turned-told.ensures, whole)
