-- `choice_answer::choices_of` meets its contract: from the last option on, the number doubles. Assumes nothing.
use borrow.Author.Rules.{rules}
use Rattle.choice_answer.proofs.Numbering.{numbering_start, twice_fits, more_fits, numbering_set, numbering_clear, numbered}
use Rattle.choice_answer.proofs.choices_of.Goals as goal

pub loop-k-init : goal.loop-k-init
loop-k-init c = search (numbering_start, rules)

pub overflow_mul-number : goal.overflow_mul-number
overflow_mul-number c = search (twice_fits, rules)

pub overflow_add-number : goal.overflow_add-number
overflow_add-number c = search (more_fits, rules)

pub loop-k-preserved-then-takes_second : goal.loop-k-preserved-then-takes_second
loop-k-preserved-then-takes_second c = numbering_set _ _ c.requires _ _ c.loop-k.invariant c.loop-k-test.true _ c.takes_second.ensures c.if-takes_second.true

pub loop-k-preserved : goal.loop-k-preserved
loop-k-preserved c = numbering_clear _ _ c.requires _ _ c.loop-k.invariant c.loop-k-test.true _ c.takes_second.ensures c.if-takes_second.false

pub returns : goal.returns
returns c = search (numbered, rules)
