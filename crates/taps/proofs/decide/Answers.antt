-- `taps::decide` meets its contract: the lists are in order, or refusal 20. Assumes nothing.
use mathlib.Core.Bool.{not}
use mathlib.Core.Path.{ap}
use Rattle.taps.proofs.Deciding.{refuses_first, refuses_second, list_stands}
use borrow.Author.Rules.{rules}
use borrow.Author.Rules.{rules}
use Rattle.taps.proofs.decide.Goals as goal

pub returns-then-not-each_once : goal.returns-then-not-each_once
returns-then-not-each_once c = search refuses_first

pub returns-then-not-each_once-2 : goal.returns-then-not-each_once-2
returns-then-not-each_once-2 c = search refuses_second

pub fit_both-requires : goal.fit_both-requires
fit_both-requires c = record { lent = search rules; first_value = list_stands _ _ _ c.each_once.ensures (ap not c.if-not-each_once.false); second_value = list_stands _ _ _ c.each_once-2.ensures (ap not c.if-not-each_once-2.false) }
