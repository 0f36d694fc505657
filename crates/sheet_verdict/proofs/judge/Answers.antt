-- `sheet_verdict::judge` meets its contract. Assumes nothing.
use borrow.Author.Rules.{rules}
use mathlib.Core.Path.{refl}
use Rattle.std.proofs.lemmas.Result.{err_from_is_err_and}
use Rattle.scenario.proofs.Laws.{sheet_fits, boards_long_holds}
use Rattle.sheet_verdict.proofs.Reading.{scenario_refused, scenario_decided}
use Rattle.sheet_verdict.proofs.judge.Goals as goal

pub decide-requires : goal.decide-requires
decide-requires c = record { fit = sheet_fits _ _ _ _ c.in_ok-count.ensures _ refl; code_lt_channels = (search rules, search rules) }

pub returns-in_err-count : goal.returns-in_err-count
returns-in_err-count c = let p = err_from_is_err_and c.from_residual.result c.from_residual.ensures.1 in rw (p.1, p.2) (scenario_refused _ _ _ _ c.in_err-count.ensures _ _ _ refl)

pub returns : goal.returns
returns c = scenario_decided _ _ _ _ c.in_ok-count.ensures _ refl _ _ _ _ c.decide.ensures
