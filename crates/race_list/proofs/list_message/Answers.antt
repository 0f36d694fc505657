-- `race_list::list_message` meets its contract. The races of the words passed are added. Assumes nothing.
use Prim.Native.Nat.{◌-◌}
use native.Mathlib.Omega.{arith}
use borrow.Author.Rules.{rules}
use Rattle.race_list.proofs.Words.{worded_start, worded_more, worded_end}
use Rattle.race_list.proofs.list_message.Goals as goal

pub overflow_cast-number : goal.overflow_cast-number
overflow_cast-number c = record { fits = omega arith }

pub loop-w-init : goal.loop-w-init
loop-w-init c = search worded_start

pub loop-w-preserved : goal.loop-w-preserved
loop-w-preserved c = worded_more _ _ _ _ _ _ _ _ _ _ _ _ _ c.loop-w.invariant c.race_word-word.ensures c.list_word-at.ensures (search rules)

pub returns : goal.returns
returns c = worded_end _ _ _ _ _ _ _ _ _ _ c.loop-w.invariant (search rules)
