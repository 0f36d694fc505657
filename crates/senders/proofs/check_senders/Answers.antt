-- `check_senders` meets its contract. Assumes nothing.
use Rattle.senders.proofs.Judging.{judged_refused, judged_rules}
use Rattle.senders.proofs.check_senders.Goals as goal

pub judge-requires : goal.judge-requires
judge-requires c = c.in-Ok.ensures.few

pub returns-in-Err : goal.returns-in-Err
returns-in-Err c = judged_refused _ _ c.in-Err.ensures

pub returns-in-Ok : goal.returns-in-Ok
returns-in-Ok c = judged_rules _ _ _ c.in-Ok.ensures c.judge.ensures
