-- `replay::judge_trace` meets its contract. Assumes nothing.
use mathlib.Core.Bool.{not}
use mathlib.Core.Path.{ap}
use native.Mathlib.Omega.{arith}
use Prim.Native.Nat.{◌*◌}
use lib.ListN.{length-take}
use Rattle.model.specs.Limits.{messages_most}
use Rattle.relation.specs.Width.{width}
use Rattle.replay.proofs.Whole.{refuses_channel, refuses_scratch, refuses_trace, replays, trace_fits}
use Rattle.std.proofs.lemmas.Result.{err_from_is_err_and}
use borrow.Author.Rules.{rules}
use Rattle.replay.proofs.judge_trace.Goals as goal

pub returns-in_err-channel : goal.returns-in_err-channel
returns-in_err-channel c = let p = err_from_is_err_and c.from_residual.result c.from_residual.ensures.1 in
    rw (p.1, p.2) (refuses_channel _ _ _ _ _ c.in_err-channel.ensures.0 c.in_err-channel.ensures.1)

pub returns-in-Err : goal.returns-in-Err
returns-in-Err c = refuses_scratch _ _ _ _ _ c.in-Err.ensures.0 c.in_ok-channel.ensures.1 c.in-Err.ensures.1

pub returns-then-not-is_trace : goal.returns-then-not-is_trace
returns-then-not-is_trace c = let known = c.in_ok-channel.ensures.1 in let long = c.in_default.ensures in search (refuses_trace, rules)

pub slice_bounds-judge-end-2 : goal.slice_bounds-judge-end-2
slice_bounds-judge-end-2 c = simp length-take (omega arith)

pub judge-outcome-requires : goal.judge-outcome-requires
judge-outcome-requires c = let fits = trace_fits _ _ (ap not c.if-not-is_trace.false) c.is_trace.ensures in
    record { words_len = simp length-take (omega arith); code_lt_channels = (search rules, fits.0, fits.1) }

pub returns : goal.returns
returns c = let n = 2 * messages_most * width in
    let kept = length-take n c.args.scratch.now in
    rw (← c.in_ok-channel.ensures.0) (replays _ _ _ _ c.judge-outcome.result _ _ c.judge-outcome.new.words n (ap not c.if-not-is_trace.false) c.is_trace.ensures (search rules) (search rules) (omega (arith, kept)) (search rules)
    c.clear-2.ensures c.judge-outcome.ensures)
