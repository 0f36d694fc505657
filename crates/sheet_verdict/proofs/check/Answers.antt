-- `sheet_verdict::check` meets its contract. Assumes nothing.
use borrow.Author.Rules.{rules}
use native.Mathlib.Omega.{arith}
use Prim.Native.Nat.{◌*◌}
use mathlib.Core.Path.{refl}
use lib.ListN.{length-take}
use Rattle.std.proofs.lemmas.Result.{err_from_is_err_and}
use Rattle.model.specs.Limits.{messages_most}
use Rattle.relation.specs.Width.{width}
use Rattle.sheet_verdict.proofs.Whole.{refuses_channel, refuses_scratch, refuses_trace, answers}
use Rattle.sheet_verdict.proofs.check.Goals as goal

pub returns-in-Err : goal.returns-in-Err
returns-in-Err c = refuses_channel _ _ _ _ _ c.in-Err.ensures.0 c.in-Err.ensures.1

pub returns-in_err-at_least : goal.returns-in_err-at_least
returns-in_err-at_least c = let p = err_from_is_err_and c.from_residual.result c.from_residual.ensures.1 in
    rw (p.1, p.2) (refuses_scratch _ _ _ _ _ c.in_err-at_least.ensures.0 c.in-Ok.ensures.1 c.in_err-at_least.ensures.1)

pub returns-in_err-at_least-2 : goal.returns-in_err-at_least-2
returns-in_err-at_least-2 c = let p = err_from_is_err_and c.from_residual-in_err-at_least-2.result c.from_residual-in_err-at_least-2.ensures.1 in
    rw (p.1, p.2) (refuses_trace _ _ _ _ _ c.in_err-at_least-2.ensures.0 c.in-Ok.ensures.1 c.in_err-at_least-2.ensures.1)

pub slice_bounds-judge-end-2 : goal.slice_bounds-judge-end-2
slice_bounds-judge-end-2 c = simp length-take (omega arith)

pub judge-answer-requires : goal.judge-answer-requires
judge-answer-requires c = record { words_len = simp length-take (omega arith); code_lt_channels = (search rules, search rules) }

pub returns : goal.returns
returns c = let n = 2 * messages_most * width in
    let kept = length-take n c.args.scratch.now in
    rw (← c.in-Ok.ensures.0) (
    answers _ _ _ _ _ _ c.judge-answer.new.words n _ _ (search rules) (search rules) (search rules) (omega (arith, kept)) (search rules)
    c.clear.ensures refl c.judge-answer.ensures)
