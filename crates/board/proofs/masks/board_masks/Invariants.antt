-- `board::masks::board_masks` meets its contract. The loop keeps `Masking`: the masks of the messages passed.
use lib.ListN.{length}
use Rattle.board.proofs.Masking.{Masking}
use Rattle.board.proofs.masks.board_masks.Given as goal

abbrev pub invariant-loop-m : goal.invariant-loop-m
invariant-loop-m l = Masking l.boards l.count (length l.initial.masks) l.m l.masks
