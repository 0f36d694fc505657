-- `switching::messages_in` meets its contract: the count of each word is added. Assumes nothing.
use Rattle.switching.proofs.Counted.{Counting}
use Rattle.switching.proofs.messages_in.Given as goal

abbrev pub invariant-loop-word : goal.invariant-loop-word
invariant-loop-word l = Counting l.fn.row l.count l.word-index
