-- `admission::read` meets its contract. Assumes nothing.
use mathlib.Core.Path.{refl}
use Rattle.admission.proofs.Replies.{read_refused, read_accepted, line_small, count_few, written_long}
use Rattle.admission.proofs.read.Goals as goal

pub hold-requires : goal.hold-requires
hold-requires c = record { queue_value = c.requires.queue_value; place_lt_jobs_most = (c.requires.place_lt_jobs_most.0, c.requires.place_lt_jobs_most.1, count_few _ _ _ _ _ _ _ c.in-Ok.ensures _ refl, c.requires.place_lt_jobs_most.3); job_words_least_in_bounds = written_long _ _ _ _ _ _ _ c.in-Ok.ensures c.requires.job_words_least_in_bounds }

pub returns-in-Err : goal.returns-in-Err
returns-in-Err c = record {
  reads = read_refused c.args.part _ c.requires.queue_value _ _ c.args.code _ _ _ _ c.in-Err.ensures _ _ refl c.requires.place_lt_jobs_most.1 c.requires.job_words_least_in_bounds c.requires.place_lt_jobs_most.3
      c.requires.place_lt_jobs_most.2 _ c.places.ensures c.clear_free.ensures;
  fits = line_small _ _ _ _ _ _ _ c.in-Err.ensures _ refl;
}

pub returns-in-Ok : goal.returns-in-Ok
returns-in-Ok c = record {
  reads = read_accepted c.args.part _ c.requires.queue_value _ _ c.args.code _ _ _ _ c.in-Ok.ensures _ _ _ refl c.requires.job_words_least_in_bounds c.requires.place_lt_jobs_most.2 c.hold.ensures;
  fits = tt;
}
