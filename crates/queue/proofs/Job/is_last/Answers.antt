-- `Job::is_last` meets its contract. Assumes nothing.
use Rattle.model.specs.Dispatcher.{is_last}
use borrow.Author.Rules.{rules}
use Rattle.queue.proofs.Job.is_last.Goals as goal

pub returns : goal.returns
unfolding is_last
returns c = search rules
