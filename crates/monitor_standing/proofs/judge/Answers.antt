-- `monitor_standing::judge` meets its contract. Assumes nothing.
use Rattle.std.proofs.lemmas.Result.{err_from_is_err_and}
use Rattle.monitor.proofs.Parts.{line_small}
use Rattle.monitor_standing.proofs.Parts.{sheet_refuses, sheet_stands}
use Rattle.monitor_standing.proofs.judge.Goals as goal

pub returns-in_err-count : goal.returns-in_err-count
returns-in_err-count c = let p = err_from_is_err_and c.from_residual.result c.from_residual.ensures.1 in
    rw (p.1, p.2) (record { tells = sheet_refuses _ _ _ _ c.args.state c.in_err-count.ensures; fits = line_small _ _ _ _ c.in_err-count.ensures })

pub returns-clause-tells : goal.returns-clause-tells
returns-clause-tells c = sheet_stands _ _ _ _ _ _ c.in_ok-count.ensures c.stand_in.ensures
