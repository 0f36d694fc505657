-- `head_turn::serve` meets its contract. Assumes nothing.
use borrow.Author.Rules.{rules}
use Rattle.std.proofs.lemmas.Result.{err_from_is_err_and}
use Rattle.lent.proofs.Lines.{no_line}
use Rattle.head_turn.proofs.Replies.{serve_short_words, serve_short_trace, serve_idles, serve_answers, serve_takes, is_head, last_is}
use Rattle.head_turn.proofs.serve.Goals as goal

pub returns-in_err-at_least : goal.returns-in_err-at_least
returns-in_err-at_least c = let p = err_from_is_err_and c.from_residual.result c.from_residual.ensures.1 in
    rw (p.1, p.2) (record { turns = serve_short_words _ _ _ _ _ _ _ c.in_err-at_least.ensures.0 c.in_err-at_least.ensures.1; fits = no_line c.in_err-at_least.ensures.0 })

pub returns-in_err-at_least-2 : goal.returns-in_err-at_least-2
returns-in_err-at_least-2 c = let p = err_from_is_err_and c.from_residual-in_err-at_least-2.result c.from_residual-in_err-at_least-2.ensures.1 in
    rw (p.1, p.2) (record { turns = serve_short_trace _ _ _ _ _ _ _ c.in_err-at_least-2.ensures.0 c.in_err-at_least-2.ensures.1; fits = no_line c.in_err-at_least-2.ensures.0 })

pub returns-in_default : goal.returns-in_default
returns-in_default c = let words = c.in_ok-at_least.ensures in let trace = c.in_ok-at_least-2.ensures in record { turns = search serve_idles; fits = tt }

pub answer-requires : goal.answer-requires
answer-requires c = record { counted = c.taken-taken.ensures.counted; queue_value = (search is_head, search last_is); job_words_least_in_bounds = (c.in_ok-at_least.ensures, c.in_ok-at_least-2.ensures) }

pub returns-then-is_last : goal.returns-then-is_last
returns-then-is_last c = record { turns = serve_answers c.args.queue c.args.place c.requires c.args.race _ _ _ _ _ _ c.head.ensures c.in-Some.is _ _ c.answer.ensures; fits = tt }

pub take-requires : goal.take-requires
take-requires c = record { taken_in = c.taken-taken.ensures; queue_value = (search is_head, search last_is); job_words_least_in_bounds = c.in_ok-at_least.ensures }

pub returns : goal.returns
returns c = record { turns = serve_takes c.args.queue c.args.place c.requires c.args.race _ _ _ _ _ _ c.head.ensures c.in-Some.is _ c.take.ensures c.in_ok-at_least-2.ensures; fits = tt }
