-- `board::masks::mask_message` meets its contract: the four marks, one behind the other.
use Rattle.board.proofs.Masking.{marks_made}
use Rattle.board.proofs.masks.mask_message.Goals as goal

pub returns : goal.returns
returns c = marks_made _ _ _ _ _ _ _ _ c.mark-4.ensures c.mark-3.ensures c.mark-2.ensures c.mark.ensures
