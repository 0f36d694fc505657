-- `places::clear_free` meets its contract. Assumes nothing.
use Prim.Native.Nat.{◌-◌}
use Rattle.places.proofs.Clearing.{clearing_none, clearing_kept, clearing_cleared, clearing_all}
use Rattle.places.proofs.clear_free.Goals as goal
use Rattle.places.proofs.clear_free.Goals.{then-not-is_taken, else-not-is_taken}

pub loop-place-init : goal.loop-place-init
loop-place-init c = search clearing_none

pub loop-place-preserved : goal.loop-place-preserved
loop-place-preserved c =
    elim c.if-not-is_taken.branch [
      | then-not-is_taken w ↦ search clearing_cleared
      | else-not-is_taken w ↦ search clearing_kept
    ]

pub shape_of-words : goal.shape_of-words
shape_of-words c = c.loop-place.invariant.kept

pub returns : goal.returns
returns c = search clearing_all
