-- `expansion::expand` meets its contract: rows without an A row ask for no option. Assumes nothing.
use Rattle.expansion.proofs.Listed.{plain_refused, plain_messages}
use Rattle.expansion.proofs.expand.Goals as goal

pub returns-in-Err : goal.returns-in-Err
returns-in-Err c = plain_refused _ _ _ _ _ c.expand_list.ensures c.requires.plain _ c.in-Err.is

pub returns-in-Ok : goal.returns-in-Ok
returns-in-Ok c = plain_messages _ _ _ _ _ c.expand_list.ensures c.requires.plain _ c.in-Ok.is
