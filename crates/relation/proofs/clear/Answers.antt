-- `relation::clear` meets its contract. The loop keeps `Clearing`: the words passed are zero.
use borrow.Author.Rules.{rules}
use Rattle.relation.proofs.Loops.{clearing_start, clearing_more, clearing_end}
use Rattle.relation.proofs.clear.Goals as goal

pub loop-i-init : goal.loop-i-init
loop-i-init c = search clearing_start

pub loop-i-preserved : goal.loop-i-preserved
loop-i-preserved c = search (clearing_more, rules)

pub returns : goal.returns
returns c = search clearing_end
