-- `taps::link_both` meets its contract. Assumes nothing.
use Rattle.taps.proofs.Deciding.{room_linked, both_linked}
use borrow.Author.Rules.{rules}
use Rattle.taps.proofs.link_both.Goals as goal

pub link-requires : goal.link-requires
link-requires c = record { room = search rules; list_value = search rules }

pub link-requires-2 : goal.link-requires-2
link-requires-2 c = record { room = search room_linked; list_value = search rules }

pub returns : goal.returns
returns c = search both_linked
