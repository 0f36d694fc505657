-- Our own, after the requests: where a monitored run stands. Assumes nothing.
use Rattle.std.specs.Prelude.{ℕ, ◌<◌, ◌≡◌, cond, List, eqb, length, get_or}
use Rattle.model.specs.Limits.{boards, channels}
use Rattle.model.specs.Refusal.{Out, ok, refusal}
use Rattle.model.specs.Order.{Scenario}
use Rattle.model.specs.Channel.{channel_of}
use Rattle.model.specs.Run.{finished, stuck}
use Rattle.model.specs.Answer.{scratch_behind}
use Rattle.model.specs.Verdict.{Meets}
use Rattle.model.specs.Waits.{no_wait, wait_of, each_board, Says}
use Rattle.model.specs.Monitor.{Held, Call, watchable, held_from, fresh}

-- The word of an answer and the two numbers after it, the refusal's number and its line.
pub record StandingNumbers : Type 0 where
  pub word : ℕ
  pub one : ℕ
  pub two : ℕ

abbrev pub finished_word : ℕ
finished_word = 0

abbrev pub stuck_word : ℕ
stuck_word = 1

abbrev pub open_word : ℕ
open_word = 2

abbrev pub refused_word : ℕ
refused_word = 3

-- finished; stuck, by the step rules under the code in force; or open
unfoldable pub stands_at : Scenario → Held → ℕ
stands_at S h = cond (finished S h.state) finished_word (cond (stuck S (channel_of h.code) h.state) stuck_word open_word)

unfoldable pub standing_answer : Out Scenario → Held → StandingNumbers
standing_answer (ok S) h = record { word = stands_at S h; one = 0; two = 0 }
standing_answer (refusal number line) h = record { word = refused_word; one = number; two = line }

-- what each board waits for where the run is stuck; on every other word, nothing
unfoldable pub standing_wait : Out Scenario → Held → ℕ → ℕ
standing_wait (ok S) h b = cond (eqb (stands_at S h) stuck_word) (wait_of S h.state b) no_wait
standing_wait (refusal number line) h b = no_wait

-- What a call gives, for monitors M that `held` reads and `words_of` writes (specs/Monitor). The refusals are 1 for the state's own code, 2, then the
-- sheet's. The equations are of every monitor, read bit by bit, whoever made it.
module _ {M : Type 0} (held : M → Held) (words_of : Held → M) where
  pub record Stands (m : M) (text scratch scratch_exit : List ℕ) (r : StandingNumbers) (waits : List ℕ) : Type 0 where
    pub answer : r ≡ standing_answer (watchable text (held m).code (length scratch)) (held m)
    pub numbers : waits ≡ each_board boards (standing_wait (watchable text (held m).code (length scratch)) (held m))
    pub scratch_left : scratch_exit ≡ scratch_behind (watchable text (held m).code (length scratch)) scratch
    pub causal_order : (S : Scenario) → watchable text (held m).code (length scratch) ≡ ok S → Meets text S
    -- on every other word than stuck no board waits
    pub elsewhere : (r.word ≡ stuck_word → ⊥) → (b : ℕ) → b < boards → get_or waits b 0 ≡ no_wait
    -- Of a monitor that some list of calls with that text has left, from one opened under a code, the answer is of the state that the rules give,
    -- and on stuck each number is right for it.
    pub of_the_run : (S : Scenario) (code : ℕ) (cs : List Call) → watchable text (held m).code (length scratch) ≡ ok S → code < channels
        → m ≡ words_of (held_from S (fresh code) cs)
        → (r.word ≡ stands_at S (held_from S (fresh code) cs))
        × (r.word ≡ stuck_word → (b : ℕ) → b < boards → Says S (held_from S (fresh code) cs).state b (get_or waits b 0))
