-- `admission::hold` meets its contract. Assumes nothing.
use Rattle.admission.proofs.Admission.{place_free}
use Rattle.admission.proofs.Replies.{hold_serves}
use borrow.Author.Rules.{rules}
use Rattle.admission.proofs.hold.Goals as goal

pub behind_last-longer-requires : goal.behind_last-longer-requires
behind_last-longer-requires c = record { counted = c.taken-held.ensures.counted; place_lt_jobs_most = (search rules, (place_free _ _ c.requires.queue_value).1) }

pub returns : goal.returns
returns c = hold_serves c.args.part c.args.place c.requires.queue_value c.args.code c.args.count c.args.boards.on _ _ c.requires.place_lt_jobs_most.1 c.requires.place_lt_jobs_most.3 c.behind_last-longer.result
    c.behind_last-longer.ensures _ c.places.ensures c.clear_free.ensures
