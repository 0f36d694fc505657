-- `sheet_races::judge` meets its contract. Assumes nothing.
use mathlib.Core.Path.{refl}
use borrow.Author.Rules.{rules}
use Rattle.std.proofs.lemmas.Result.{err_from_is_err_and}
use Rattle.scenario.proofs.Laws.{boards_long_holds}
use Rattle.sheet_races.proofs.Reading.{all_few, listed_few, line_known, scenario_refused, scenario_lent, scenario_listed}
use Rattle.sheet_races.proofs.judge.Goals as goal

pub returns-in_err-count : goal.returns-in_err-count
returns-in_err-count c = let p = err_from_is_err_and c.from_residual.result c.from_residual.ensures.1 in
    rw (p.1, p.2) (record { answers = scenario_refused _ _ _ _ c.in_err-count.ensures _ _ _ refl; small = line_known _ _ _ _ c.in_err-count.ensures _ refl })

pub list_races-requires : goal.list_races-requires
list_races-requires c = scenario_lent _ _ _ _ c.in_ok-count.ensures _ refl

pub returns : goal.returns
returns c = record {
  answers = scenario_listed _ _ _ _ c.in_ok-count.ensures _ refl _ _ _ _ _ c.list_races.ensures c.rule_of-rule.ensures;
  small = (all_few _ _ _ _ c.list_races.ensures, listed_few _ _ _ _ c.list_races.ensures);
}
