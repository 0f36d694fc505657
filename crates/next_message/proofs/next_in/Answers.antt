-- `next_in` meets its contract. The loop keeps `NoneBefore`: no message is in the words passed. Assumes nothing.
use native.Mathlib.Omega.{arith}
use lib.Count.{trailing_le}
use lib.ListN.{get_or}
use borrow.Author.Rules.{rules}
use Rattle.relation.specs.Width.{word_bits}
use Rattle.next_message.proofs.InRow.{left, next_in_word, none_before, none_before_more, next_in_row, next_in_none}
use Rattle.next_message.proofs.next_in.Goals as goal

pub overflow_cast-result : goal.overflow_cast-result
overflow_cast-result c = let few = trailing_le word_bits (left c.args.row.now c.args.m) in
    record { fits = omega arith }

pub overflow_add-result : goal.overflow_add-result
overflow_add-result c = let few = trailing_le word_bits (left c.args.row.now c.args.m) in
    search rules

pub returns-then-rest-ne0 : goal.returns-then-rest-ne0
returns-then-rest-ne0 c = next_in_word _ _ (c.type_inv.row _).fits c.if-rest-ne0.true (omega arith)

pub loop-i-init : goal.loop-i-init
loop-i-init c = search none_before

pub overflow_cast-result-then-word-ne0 : goal.overflow_cast-result-then-word-ne0
overflow_cast-result-then-word-ne0 c = let few = trailing_le word_bits (get_or c.args.row.now c.loop-i.i 0) in
    record { fits = omega arith }

pub overflow_add-result-then-word-ne0 : goal.overflow_add-result-then-word-ne0
overflow_add-result-then-word-ne0 c = let few = trailing_le word_bits (get_or c.args.row.now c.loop-i.i 0) in
    search rules

pub returns-then-word-ne0 : goal.returns-then-word-ne0
returns-then-word-ne0 c = next_in_row _ _ _ c.loop-i.invariant (c.type_inv.row _).fits c.if-word-ne0.true (omega arith)

pub loop-i-preserved : goal.loop-i-preserved
loop-i-preserved c = search none_before_more

pub returns : goal.returns
returns c = search next_in_none
