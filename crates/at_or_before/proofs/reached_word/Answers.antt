-- `reached_word` meets its contract. Assumes nothing.
use Rattle.at_or_before.proofs.Reached.{reached_elsewhere, reached_here}
use Rattle.at_or_before.proofs.reached_word.Goals as goal

pub returns-then-w-send : goal.returns-then-w-send
returns-then-w-send c = search reached_elsewhere

pub returns : goal.returns
returns c = search reached_here
