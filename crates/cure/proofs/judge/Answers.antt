-- `cure::judge` meets its contract. Assumes nothing.
use Rattle.scenario.proofs.Laws.{sheet_fits}
use Rattle.cure.proofs.Parts.{scenario_refused, scenario_decided}
use borrow.Author.Rules.{rules}
use Rattle.cure.proofs.judge.Goals as goal

pub decide-requires : goal.decide-requires
decide-requires c = record { fit = sheet_fits _ _ _ _ c.scenario_of.ensures _ c.in-Ok.is; sheet_output_least_in_bounds = search rules }

pub returns-in-Err : goal.returns-in-Err
returns-in-Err c = scenario_refused _ _ _ _ c.scenario_of.ensures _ _ c.in-Err.is

pub returns-in-Ok : goal.returns-in-Ok
returns-in-Ok c = scenario_decided _ _ _ _ c.scenario_of.ensures _ _ c.in-Ok.is _ _ _ c.decide.ensures.cover_rows c.decide.ensures.decides
