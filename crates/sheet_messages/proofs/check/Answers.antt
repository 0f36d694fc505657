-- `sheet_messages::check` meets its contract. Assumes nothing.
use Prim.Native.Nat.{◌*◌}
use mathlib.Core.Path.{refl}
use native.Mathlib.Omega.{arith}
use lib.ListN.{length-take}
use Rattle.std.proofs.lemmas.Result.{err_from_is_err_and}
use borrow.Author.Rules.{rules}
use Rattle.model.specs.Limits.{messages_most}
use Rattle.relation.specs.Width.{width}
use Rattle.sheet_messages.proofs.Whole.{refuses_scratch, refuses_output, answers}
use Rattle.sheet_messages.proofs.check.Goals as goal

pub returns-in_err-at_least-clause-listed : goal.returns-in_err-at_least-clause-listed
returns-in_err-at_least-clause-listed c = let p = err_from_is_err_and c.from_residual.result c.from_residual.ensures.1 in
    rw (p.1, p.2) (refuses_scratch _ _ _ _ c.in_err-at_least.ensures.0 c.in_err-at_least.ensures.1)

pub returns-in_err-at_least-2-clause-listed : goal.returns-in_err-at_least-2-clause-listed
returns-in_err-at_least-2-clause-listed c = let p = err_from_is_err_and c.from_residual-in_err-at_least-2.result c.from_residual-in_err-at_least-2.ensures.1 in
    rw (p.1, p.2) (refuses_output _ _ _ _ c.in_err-at_least-2.ensures.0 c.in_err-at_least-2.ensures.1)

pub slice_bounds-list-end-2 : goal.slice_bounds-list-end-2
slice_bounds-list-end-2 c = simp length-take (omega arith)

pub list-answer-requires : goal.list-answer-requires
list-answer-requires c = record { words_len = simp length-take (omega arith); message_numbers_least_in_bounds = search rules }

pub returns : goal.returns
returns c = let n = 2 * messages_most * width in
    let kept = length-take n c.args.scratch.now in
    record {
      listed = answers _ _ _ _ _ c.list-answer.new.words n _ _ c.in_ok-at_least.ensures c.in_ok-at_least-2.ensures (omega (arith, kept)) (search rules)
          c.clear.ensures refl c.list-answer.ensures.lists;
      small = c.list-answer.ensures.small;
    }
