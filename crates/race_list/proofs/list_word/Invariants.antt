-- `race_list::list_word` meets its contract. The bits left of the word add what is missing. Assumes nothing.
use Prim.Native.Nat.{◌-◌}
use Rattle.race_list.proofs.Words.{Listing}
use Rattle.race_list.proofs.list_word.Given as goal

abbrev pub invariant-loop-at : goal.invariant-loop-at
invariant-loop-at l = Listing l.word l.e l.first l.initial.output l.found l.rest l.output l.at

abbrev pub decreases-loop-at : goal.decreases-loop-at
decreases-loop-at l = l.room - l.at
