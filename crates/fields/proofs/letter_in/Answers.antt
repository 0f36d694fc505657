-- `letter_in` meets its contract. Assumes nothing.
use Rattle.fields.proofs.Spans.{span_ordered, letter_inside, letter_one, letter_none}
use Rattle.fields.proofs.letter_in.Goals as goal

pub overflow_sub-span : goal.overflow_sub-span
overflow_sub-span c = search span_ordered

pub bounds-text-from : goal.bounds-text-from
bounds-text-from c = search letter_inside

pub returns-then-span-from-eq1 : goal.returns-then-span-from-eq1
returns-then-span-from-eq1 c = search letter_one

pub returns-else-span-from-eq1 : goal.returns-else-span-from-eq1
returns-else-span-from-eq1 c = search letter_none
