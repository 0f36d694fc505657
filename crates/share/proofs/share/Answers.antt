-- `share::share` meets its contract. Assumes nothing.
use Rattle.share.proofs.Turns.{first_share, second_share}
use Rattle.share.proofs.share.Goals as goal

pub returns-then-t-eq0 : goal.returns-then-t-eq0
returns-then-t-eq0 c = search first_share

pub returns : goal.returns
returns c = second_share _ _ _ c.lowest_between-2.result c.if-t-eq0.false c.lowest_between-2.ensures
