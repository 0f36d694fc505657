-- `sheet_taps::judge` meets its contract. Assumes nothing.
use borrow.Author.Rules.{rules}
use Rattle.sheet_taps.proofs.Reading.{scenario_refused, scenario_lent, scenario_decided}
use Rattle.sheet_taps.proofs.judge.Goals as goal

pub decide-requires : goal.decide-requires
decide-requires c = scenario_lent _ _ _ _ c.scenario_of.ensures c.args.first.now c.args.second.now _ _ c.in-Ok.is (search rules)

pub returns-in-Err : goal.returns-in-Err
returns-in-Err c = scenario_refused _ _ _ _ c.scenario_of.ensures _ _ _ _ c.in-Err.is

pub returns-in-Ok : goal.returns-in-Ok
returns-in-Ok c = scenario_decided _ _ _ _ c.scenario_of.ensures _ _ _ _ c.in-Ok.is _ _ c.decide.ensures
