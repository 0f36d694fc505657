-- `Monitor::opened` meets its contract. Assumes nothing.
use native.Mathlib.Omega.{arith}
use Prim.Native.Nat.{◌*◌}
use mathlib.Core.Path.{refl}
use lib.ListN.{length-take}
use Rattle.model.specs.Limits.{messages_most}
use Rattle.relation.specs.Width.{width}
use Rattle.monitor.specs.Bridge.{answer_of}
use borrow.Author.Rules.{rules}
use Rattle.std.proofs.lemmas.Result.{err_from_is_err_and}
use Rattle.monitor.proofs.Whole.{open_unlent, opens}
use Rattle.monitor.proofs.Monitor.opened.Goals as goal

pub returns-in_err-lent-clause-promise : goal.returns-in_err-lent-clause-promise
returns-in_err-lent-clause-promise c = let p = err_from_is_err_and c.from_residual.result c.from_residual.ensures.1 in
    rw (p.1, p.2, c.requires.at_start) (open_unlent _ _ _ _ c.in_err-lent.ensures)

pub returns-clause-promise : goal.returns-clause-promise
returns-clause-promise c = let n = 2 * messages_most * width in
    let kept = length-take n c.args.scratch.now in
    opens _ _ _ _ c.begin-outcome.new.words n (answer_of c.begin-outcome.new.next c.begin-outcome.result) _ c.in_ok-lent.ensures.0 c.in_ok-lent.ensures.1 (omega (arith, kept)) (search rules)
    c.clear.ensures refl c.begin-outcome.ensures.begins
