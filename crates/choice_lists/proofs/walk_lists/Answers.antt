-- `choice_lists::walk_lists` meets its contract: its loop keeps `Judging`, and goes from place to place. Assumes nothing.
use mathlib.Core.Path.{refl}
use Rattle.std.proofs.lemmas.Result.{err_from_is_err_and}
use Rattle.choice_lists.proofs.Judging.{judging_start, at_below, met_most, judging_refused, race_lent, judging_last, next_less, judging_next, rows_fit}
use borrow.Author.Rules.{rules}
use Rattle.choice_lists.proofs.walk_lists.Goals as goal

pub loop-counted-init : goal.loop-counted-init
loop-counted-init c = search (judging_start, rules)

pub returns-in_err-counted : goal.returns-in_err-counted
returns-in_err-counted c = let p = err_from_is_err_and c.from_residual.result c.from_residual.ensures.1 in rw (p.1, p.2) (judging_refused _ _ _ _ c.loop-counted.invariant.0 c.expand_list.new.boards c.expand_list.new.words _ c.in_err-counted.ensures _ refl)

pub next_list-behind-requires : goal.next_list-behind-requires
next_list-behind-requires c = (at_below _ _ _ _ c.loop-counted.invariant.0, met_most _ _ _ _ c.loop-counted.invariant.0 _ _ _ c.in_ok-counted.ensures _ refl)

pub returns-then-behind-eq-LISTS : goal.returns-then-behind-eq-LISTS
returns-then-behind-eq-LISTS c = let fits = rows_fit _ _ _ _ _ c.requires.rows_read in
    judging_last _ _ _ _ c.loop-counted.invariant.0 _ _ _ c.in_ok-counted.ensures _ refl fits (search rules) (search rules) _ c.next_list-behind.ensures c.if-behind-eq-LISTS.true

pub first_locked-first-requires : goal.first_locked-first-requires
first_locked-first-requires c = let fits = rows_fit _ _ _ _ _ c.requires.rows_read in
    race_lent _ _ _ _ c.loop-counted.invariant.0 _ _ _ c.in_ok-counted.ensures _ refl fits (search rules) (search rules)

pub loop-counted-smaller : goal.loop-counted-smaller
loop-counted-smaller c = let fits = rows_fit _ _ _ _ _ c.requires.rows_read in
    next_less _ _ _ _ c.loop-counted.invariant.0 _ _ _ c.in_ok-counted.ensures _ refl fits (search rules) (search rules) _ c.next_list-behind.ensures

pub loop-counted-preserved : goal.loop-counted-preserved
loop-counted-preserved c = let fits = rows_fit _ _ _ _ _ c.requires.rows_read in
    (judging_next _ _ _ _ c.loop-counted.invariant.0 _ _ _ c.in_ok-counted.ensures _ refl fits (search rules) (search rules) _ c.next_list-behind.ensures c.if-behind-eq-LISTS.false c.rule_of-rule.result c.rule_of-rule.ensures _ c.first_locked-first.ensures, search rules, search rules)
