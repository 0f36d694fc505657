-- `race::bits_on` meets its contract. Assumes nothing.
use Rattle.race.proofs.Boards.{lowest_below, above_most, none_left, some_left}
use mathlib.Core.Path.{refl}
use borrow.Author.Rules.{rules}
use Rattle.race.proofs.bits_on.Goals as goal

pub returns-then-left-eq0 : goal.returns-then-left-eq0
returns-then-left-eq0 c = search none_left

pub overflow_add-from : goal.overflow_add-from
overflow_add-from c = let low = lowest_below c.within-left.result _ (search rules) c.if-left-eq0.false refl in
    search rules

pub overflow_sub-to : goal.overflow_sub-to
overflow_sub-to c = let most = above_most c.within-left.result _ refl in
    search rules

pub overflow_shl-result : goal.overflow_shl-result
overflow_shl-result c = let low = lowest_below c.within-left.result _ (search rules) c.if-left-eq0.false refl in
    search rules

pub returns : goal.returns
returns c = search some_left
