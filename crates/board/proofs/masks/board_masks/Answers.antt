-- `board::masks::board_masks` meets its contract. The loop keeps `Masking`: the masks of the messages passed.
use Prim.Native.Nat.{◌+◌, ◌*◌}
use native.Mathlib.Omega.{arith}
use borrow.Author.Rules.{rules}
use Rattle.board.proofs.Masking.{masking_start, masking_more, masking_end}
use Rattle.board.proofs.masks.board_masks.Goals as goal

pub loop-m-init : goal.loop-m-init
loop-m-init c = search masking_start

pub mask_message-requires : goal.mask_message-requires
mask_message-requires c = let s = c.loop-m in
    let source = s.invariant.below (2 * s.m) (omega arith) in
    let target = s.invariant.below (2 * s.m + 1) (omega arith) in
    search rules

pub loop-m-preserved : goal.loop-m-preserved
loop-m-preserved c = masking_more _ _ _ _ _ _ _ _ c.loop-m.invariant c.mask_message.ensures c.board_of-source.ensures c.board_of-target.ensures
    c.loop-m-test.true (search rules) (search rules)

pub returns : goal.returns
returns c = search masking_end
