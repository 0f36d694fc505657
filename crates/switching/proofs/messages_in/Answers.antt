-- `switching::messages_in` meets its contract: the count of each word is added. Assumes nothing.
use native.Mathlib.Omega.{arith}
use Rattle.switching.proofs.Counted.{counting_starts, counting_on, counting_ends, word_most}
use Rattle.switching.proofs.messages_in.Goals as goal

pub loop-word-init : goal.loop-word-init
loop-word-init c = search counting_starts

pub overflow_add-count : goal.overflow_add-count
overflow_add-count c = omega (arith, word_most _ _ c.messages_of-count.ensures, c.loop-word.invariant.few, c.loop-word.invariant.most)

pub loop-word-preserved : goal.loop-word-preserved
loop-word-preserved c = search counting_on

pub returns : goal.returns
returns c = counting_ends c.args.row _ _ c.loop-word.invariant c.loop-word-test.false
