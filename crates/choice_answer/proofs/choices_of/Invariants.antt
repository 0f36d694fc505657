-- `choice_answer::choices_of` meets its contract: from the last option on, the number doubles. Assumes nothing.
use Rattle.choice_answer.proofs.Numbering.{Numbering}
use Rattle.choice_answer.proofs.choices_of.Given as goal

abbrev pub invariant-loop-k : goal.invariant-loop-k
invariant-loop-k l = Numbering l.list l.met l.number l.k
