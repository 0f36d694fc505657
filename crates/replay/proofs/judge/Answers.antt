-- `replay::judge` meets its contract. Assumes nothing.
use mathlib.Core.Path.{refl}
use native.Mathlib.Omega.{arith}
use borrow.Author.Rules.{rules}
use Rattle.std.proofs.lemmas.Result.{err_from_is_err_and}
use Rattle.scenario.proofs.Laws.{sheet_fits}
use Rattle.replay.proofs.Parts.{scenario_refused, scenario_replayed, scenario_stands}
use Rattle.replay.proofs.judge.Goals as goal

pub returns-in_err-count : goal.returns-in_err-count
returns-in_err-count c = let p = err_from_is_err_and c.from_residual.result c.from_residual.ensures.1 in
    rw (p.1, p.2) (scenario_refused _ _ _ _ c.in_err-count.ensures _ _ _ refl)

pub board_masks-requires : goal.board_masks-requires
board_masks-requires c = let fit = sheet_fits _ _ _ _ c.in_ok-count.ensures _ refl in
    record { count_le_messages_most = fit.few; count_in_bounds = omega (arith, fit.boards_long, fit.few); width_in_bounds = search rules; boards_below = fit.boards_below }

pub invariant_of-scenario : goal.invariant_of-scenario
invariant_of-scenario c = record { standing = scenario_stands _ _ _ _ c.in_ok-count.ensures _ refl _ (search rules) c.board_masks.ensures }

pub returns : goal.returns
returns c = scenario_replayed _ _ _ _ c.in_ok-count.ensures _ refl _ _ _ _ c.take_steps.ensures c.channel_of-c.ensures
