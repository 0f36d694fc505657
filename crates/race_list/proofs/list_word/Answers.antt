-- `race_list::list_word` meets its contract. The bits left of the word add what is missing. Assumes nothing.
use Prim.Native.Nat.{◌-◌}
use borrow.Author.Rules.{rules}
use Rattle.race_list.proofs.Words.{listing_start, listing_more, listing_empty, listing_full}
use Rattle.race_list.proofs.list_word.Goals as goal

pub loop-at-init : goal.loop-at-init
loop-at-init c = search (listing_start, rules)

pub returns-then-rest-eq0 : goal.returns-then-rest-eq0
returns-then-rest-eq0 c = listing_empty _ _ _ _ _ _ _ _ c.loop-at.invariant (search rules)

pub loop-at-preserved : goal.loop-at-preserved
loop-at-preserved c = listing_more _ _ _ _ _ _ _ _ _ _ c.loop-at.invariant c.put_race.ensures c.lowest_event-x.ensures (search rules) (search rules)

pub returns : goal.returns
returns c = search listing_full
