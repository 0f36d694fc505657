-- `admission::admit_into` meets its contract. Assumes nothing.
use borrow.Author.Rules.{rules}
use native.Mathlib.Omega.{arith}
use Rattle.std.proofs.lemmas.Result.{err_from_is_err_and}
use Rattle.queue.specs.Bridge.{queue_in}
use Rattle.lent.proofs.Lines.{no_line}
use Rattle.admission.proofs.Admission.{place_free}
use Rattle.admission.proofs.Replies.{full_too_short, full_of_jobs, at_place, enter_unknown, enter_short, enter_numbers, enter_long, enter_read}
use Rattle.admission.proofs.admit_into.Goals as goal

pub returns-in_err-at_least : goal.returns-in_err-at_least
returns-in_err-at_least c = let p = err_from_is_err_and c.from_residual.result c.from_residual.ensures.1 in
    rw (p.1, p.2) (record {
      admits = full_too_short c.args.part _ _ _ c.free_place.ensures c.in_default.is _ _ _ _ c.in_err-at_least.ensures.1 c.in_err-at_least.ensures.0;
      fits = no_line c.in_err-at_least.ensures.0;
    })

pub returns-in_default : goal.returns-in_default
returns-in_default c = record {
  admits = full_of_jobs c.args.part _ _ _ c.free_place.ensures c.in_default.is _ _ _ _ c.in_ok-at_least.ensures c.at.ensures;
  fits = no_line c.at.ensures;
}

pub returns-then-code-ge-CHANNELS : goal.returns-then-code-ge-CHANNELS
returns-then-code-ge-CHANNELS c = record {
  admits = enter_unknown c.args.part c.args.spare c.requires _ _ _ _ _ _ c.free_place.ensures c.in-Some.is _ c.code_at-code.ensures c.if-code-ge-CHANNELS.true _ c.at-then-code-ge-CHANNELS.ensures;
  fits = no_line c.at-then-code-ge-CHANNELS.ensures;
}

pub returns-in_err-at_least-2 : goal.returns-in_err-at_least-2
returns-in_err-at_least-2 c = let p = err_from_is_err_and c.from_residual-in_err-at_least-2.result c.from_residual-in_err-at_least-2.ensures.1 in
    rw (p.1, p.2) (record {
      admits = enter_short c.args.part c.args.spare c.requires _ _ _ _ _ _ c.free_place.ensures c.in-Some.is _ c.code_at-code.ensures c.if-code-ge-CHANNELS.false c.in_err-at_least-2.ensures.1 _ c.in_err-at_least-2.ensures.0;
      fits = no_line c.in_err-at_least-2.ensures.0;
    })

pub returns-then-part-ge-JOB_NUMBERS : goal.returns-then-part-ge-JOB_NUMBERS
returns-then-part-ge-JOB_NUMBERS c = record {
  admits = enter_numbers c.args.part c.args.spare c.requires _ _ _ _ _ _ c.free_place.ensures c.in-Some.is _ c.code_at-code.ensures c.if-code-ge-CHANNELS.false c.in_ok-at_least-2.ensures _ _ c.places-taken.ensures c.clear_free.ensures
      (omega (arith, c.if-part-ge-JOB_NUMBERS.true)) _ c.at-then-part-ge-JOB_NUMBERS.ensures;
  fits = no_line c.at-then-part-ge-JOB_NUMBERS.ensures;
}

pub returns-then-size-gt-TEXT_MOST : goal.returns-then-size-gt-TEXT_MOST
returns-then-size-gt-TEXT_MOST c = record {
  admits = enter_long c.args.part c.args.spare c.requires _ _ _ _ _ _ c.free_place.ensures c.in-Some.is _ c.code_at-code.ensures c.if-code-ge-CHANNELS.false c.in_ok-at_least-2.ensures _ _ c.places-taken.ensures c.clear_free-then-size-gt-TEXT_MOST.ensures
      _ c.length_at-size.ensures c.if-part-ge-JOB_NUMBERS.false c.if-size-gt-TEXT_MOST.true _ c.at-then-size-gt-TEXT_MOST.ensures;
  fits = no_line c.at-then-size-gt-TEXT_MOST.ensures;
}

pub read-requires : goal.read-requires
read-requires c = let free = at_place (queue_in c.args.part.queue) _ _ c.free_place.ensures c.in-Some.is in
    record { queue_value = free; place_lt_jobs_most = ((place_free _ _ free).0, search rules, search rules, search rules); job_words_least_in_bounds = c.in_ok-at_least-2.ensures }

pub returns : goal.returns
returns c = record {
  admits = enter_read c.args.part c.args.spare c.requires _ _ _ _ _ _ c.free_place.ensures c.in-Some.is _ c.code_at-code.ensures _ _ _ c.length_at-size.ensures c.read.ensures.reads;
  fits = c.read.ensures.fits;
}
