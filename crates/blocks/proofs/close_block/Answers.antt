-- `blocks::close_block` meets its contract. The loop keeps `Passing`: the events passed are past on their boards.
use borrow.Author.Rules.{rules}
use Rattle.blocks.proofs.Turns.{passing_start, passing_more, passing_end, past_room, past_room_joined}
use Rattle.blocks.proofs.close_block.Goals as goal

pub loop-e-init : goal.loop-e-init
loop-e-init c = search passing_start

pub join_from-requires : goal.join_from-requires
join_from-requires c = record { width_in_bounds = search past_room; width_in_bounds_2 = search rules }

pub mark-requires : goal.mark-requires
mark-requires c = record { width_in_bounds = search past_room_joined; x_bound = search rules }

pub loop-e-preserved : goal.loop-e-preserved
loop-e-preserved c = search passing_more

pub returns : goal.returns
returns c = search passing_end
