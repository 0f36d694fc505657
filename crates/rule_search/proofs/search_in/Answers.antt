-- `search_in` meets its contract. Assumes nothing.
use Rattle.rule_search.proofs.Passing.{searched_next, searched_end}
use Rattle.rule_search.proofs.search_in.Goals as goal

pub loop-i-preserved : goal.loop-i-preserved
loop-i-preserved c = searched_next _ _ _ _ _ _ c.loop-i-test.true c.loop-i.invariant c.met-s.ensures

pub returns : goal.returns
returns c = searched_end _ _ _ _ c.loop-i-test.false c.loop-i.invariant
