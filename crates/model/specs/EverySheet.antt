-- What requests (b), (d), (h) and (j) say of every text, whichever call is made: the check's contract cites it. Assumes nothing.
use Rattle.std.specs.Prelude.{ℕ, List}
use Rattle.model.specs.Circle.{FirstCircle}
use Rattle.model.specs.Scratch.{SameOnAnyScratch}
use Rattle.model.specs.NoCircle.{NoCircles}
use Rattle.model.specs.Wired.{OneVerdict, OneChoiceVerdict, FinishedRuns}

pub record EverySheet : Type 0 where
  -- (b): refusal 11 is for the row that first puts an event of its block before itself
  pub first_circle : FirstCircle
  -- (d): with more scratch lent, answers and traces are the same
  pub same_on_any_scratch : SameOnAnyScratch
  -- (h): no walk meets a circle, on any list of options
  pub no_circles : NoCircles
  -- (j): one verdict for FIFO, synchronous and token ring, over choice lists too, and what a finished run does
  pub one_verdict : (text : List ℕ) (scratch_length trace_length : ℕ) → OneVerdict text scratch_length trace_length
  pub one_choice_verdict : (text : List ℕ) (scratch_length trace_length : ℕ) → OneChoiceVerdict text scratch_length trace_length
  pub finished_runs : (text : List ℕ) (code scratch_length trace_length : ℕ) → FinishedRuns text code scratch_length trace_length
