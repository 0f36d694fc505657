-- `Numbers::zero` meets its contract. Assumes nothing.
use mathlib.Core.Path.{refl}
use Rattle.last_turn.proofs.Numbers.zero.Goals as goal

pub returns : goal.returns
returns c = refl
