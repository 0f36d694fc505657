-- `blocks::add_message` meets its contract: its four calls are the parts of `added`. Assumes nothing.
use native.Mathlib.Omega.{arith}
use mathlib.Core.Path.{refl}
use lib.ListN.{length-set}
use Rattle.blocks.specs.Store.{boards_with}
use Rattle.blocks.proofs.Turns.{added_parts}
use Rattle.blocks.proofs.add_message.Goals as goal

pub bounds-boards-receive : goal.bounds-boards-receive
bounds-boards-receive c = simp length-set (omega arith)

pub returns : goal.returns
unfolding boards_with
returns c = (
  refl,
  added_parts _ _ _ _ _ _ _ _ _ c.mark.ensures
      c.join.ensures
      c.copy_from-2.ensures
      c.copy_from.ensures,
)
