-- `cancellation::leave` meets its contract. Assumes nothing.
use mathlib.Core.Bool.{not}
use mathlib.Core.Path.{ap}
use Rattle.std.proofs.lemmas.Result.{err_from_is_err_and}
use Rattle.lent.proofs.Lines.{no_line}
use Rattle.cancellation.proofs.Cancelling.{leave_short, leave_none, leave_leaves, is_held}
use Rattle.cancellation.proofs.leave.Goals as goal

pub returns-in_err-at_least : goal.returns-in_err-at_least
returns-in_err-at_least c = let p = err_from_is_err_and c.from_residual.result c.from_residual.ensures.1 in
    rw (p.1, p.2) (record { leaves = leave_short _ _ _ _ c.in_err-at_least.ensures.0 c.in_err-at_least.ensures.1; fits = no_line c.in_err-at_least.ensures.0 })

pub returns-then-not-holds : goal.returns-then-not-holds
returns-then-not-holds c = record {
  leaves = leave_none c.args.queue c.args.number _ _ c.at.ensures _ _ _ c.holds.ensures (ap not c.if-not-holds.true) c.in_ok-at_least.ensures c.places.ensures c.clear_free.ensures;
  fits = no_line c.at.ensures;
}

pub without-left-requires : goal.without-left-requires
without-left-requires c = search is_held

pub returns : goal.returns
returns c = record {
  leaves = leave_leaves c.args.queue c.args.number _ _ c.without-left.result _ _ c.without-left.ensures c.holds.ensures (ap not c.if-not-holds.false) c.in_ok-at_least.ensures
      c.places-2.ensures c.clear_free-2.ensures;
  fits = tt;
}
