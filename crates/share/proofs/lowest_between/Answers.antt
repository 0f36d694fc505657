-- `share::lowest_between` meets its contract. Assumes nothing.
use lib.Count.{trailing_le}
use Rattle.relation.specs.Width.{word_bits}
use Rattle.race.proofs.Search.{between_none, between_on}
use Rattle.share.proofs.Bits.{finds, ends}
use borrow.Author.Rules.{rules}
use Rattle.share.proofs.lowest_between.Goals as goal

pub loop-w-init : goal.loop-w-init
loop-w-init c = search between_none

pub overflow_add-result : goal.overflow_add-result
overflow_add-result c = let few = trailing_le word_bits c.race_word_unmasked-word.result in search rules

pub returns-then-word-ne0 : goal.returns-then-word-ne0
returns-then-word-ne0 c = finds _ _ _ _ _ _ _ _ _ c.loop-w.invariant c.race_word_unmasked-word.ensures c.if-word-ne0.true (search rules) (search rules)

pub loop-w-preserved : goal.loop-w-preserved
loop-w-preserved c = search between_on

pub returns : goal.returns
returns c = ends _ _ _ _ _ _ _ _ c.loop-w.invariant c.loop-w-test.false
