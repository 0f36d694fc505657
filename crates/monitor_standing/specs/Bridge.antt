-- Where a monitored run stands, as the model's numbers. Assumes nothing.
use Rattle.std.specs.Prelude.{◌≡◌, ℕ, replicate, Ok, Err, Result}
use Rattle.model.specs.Limits.{boards}
use Rattle.model.specs.Refusal.{Out}
use Rattle.model.specs.Order.{Scenario}
use Rattle.model.specs.Waits.{no_wait, each_board}
use Rattle.model.specs.Monitor.{Held}
use Rattle.model.specs.Standing.{StandingNumbers, finished_word, stuck_word, open_word, refused_word, standing_answer, standing_wait}
use Rattle.outcome.specs.declared.Refusal.{Refusal}
use Rattle.outcome.specs.Refusals.{number_in}
use Rattle.standing.specs.declared.Stand.{Stand}
use Rattle.standing.specs.declared.Stand.TheVariants.{Finished, Stuck, Open}
use Rattle.monitor_standing.specs.declared.Stood.{Stood}
use Rattle.monitor_standing.specs.declared.MonitorStandingAnswer.{MonitorStandingAnswer}

abbrev pub numbers_in : MonitorStandingAnswer → StandingNumbers
numbers_in r = record { word = r.word; one = r.one; two = r.two }

-- an answer on which no board waits
abbrev pub unwaited_as : ℕ → ℕ → ℕ → MonitorStandingAnswer
unwaited_as word one two = record { word = word; one = one; two = two; waits = replicate boards no_wait }

-- the word of where a run stands
abbrev pub word_of : Stand → ℕ
word_of Finished = finished_word
word_of Stuck = stuck_word
word_of Open = open_word

-- where a run stands, or the refusal, as C gets it
abbrev pub answer_of : Result Stood Refusal → MonitorStandingAnswer
answer_of (Ok s) = record { word = word_of s.stand; one = 0; two = 0; waits = s.waits }
answer_of (Err r) = unwaited_as refused_word (number_in r.reason) r.line

-- the answer for the sheet handed on or refused, and what is held
pub record Tells (o : Out Scenario) (h : Held) (r : MonitorStandingAnswer) : Type 0 where
  pub numbers : numbers_in r ≡ standing_answer o h
  pub waits : r.waits ≡ each_board boards (standing_wait o h)
