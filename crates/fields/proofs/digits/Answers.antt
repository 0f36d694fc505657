-- `digits` meets its contract. The loop's invariant: the digits up to `i` have the value so far, at most the largest. Assumes nothing.
use borrow.Author.Rules.{rules}
use Rattle.fields.proofs.Scan.{digits_begin, digits_more, digits_other, digits_large, digits_end}
use Rattle.fields.proofs.digits.Goals as goal

pub loop-i-init : goal.loop-i-init
loop-i-init c = search digits_begin

pub returns-then-b-lt48 : goal.returns-then-b-lt48
returns-then-b-lt48 c = digits_other _ _ _ _ _ _ c.loop-i.invariant (search) c.then-b-lt48.either

pub returns-then-most-value : goal.returns-then-most-value
returns-then-most-value c = search digits_large

pub loop-i-preserved : goal.loop-i-preserved
loop-i-preserved c = search (digits_more, rules)

pub returns : goal.returns
returns c = search digits_end
