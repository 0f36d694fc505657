-- `sheet_text::put_number` meets its contract. Assumes nothing.
use borrow.Author.Rules.{rules}
use Rattle.sheet_text.proofs.Putting.{one_digit, two_digits, three_digits}
use Rattle.sheet_text.proofs.put_number.Goals as goal

pub returns-then-number-lt10 : goal.returns-then-number-lt10
returns-then-number-lt10 c = record { puts = search one_digit; upper_bound = search rules }

pub returns-then-number-lt100 : goal.returns-then-number-lt100
returns-then-number-lt100 c = record { puts = search two_digits; upper_bound = search rules }

pub returns : goal.returns
returns c = record { puts = search three_digits; upper_bound = search rules }
