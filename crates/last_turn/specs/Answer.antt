-- The answer of a job's last turn. Assumes nothing.
use Rattle.std.specs.Prelude.{◌≡◌, Bool, not, cond, ◌&&◌, List, ℕ, ◌*◌, eqb, ltb, leb, get_or}
use Rattle.model.specs.Limits.{boards, channels, messages_most}
use Rattle.model.specs.Bounded.{every}
use Rattle.model.specs.Channel.{channel_of}
use Rattle.model.specs.Schedule.{schedule}
use Rattle.model.specs.Answer as model
use Rattle.model.specs.Answer.{numbers_of, trace_after}
use Rattle.relation.specs.Scenario.{scenario_in}
use Rattle.share.specs.declared.Race.{Race}
use Rattle.last_turn.specs.declared.Numbers.{Numbers}

-- the events of the first `count` messages are on boards of the paper
abbrev pub all_on_boards : List ℕ → ℕ → Bool
all_on_boards on count = every (2 * count) (λ x. ltb (get_or on x 0) boards)

abbrev pub numbers_in : Numbers → model.Numbers
numbers_in r = record { word = r.word; one = r.one; two = r.two; three = r.three }

abbrev pub zeros : Numbers
zeros = record { word = 0; one = 0; two = 0; three = 0 }

-- a race was found that a job can hold: so many messages, this code, the race's message among them, and every event on a board of the paper
unfoldable pub can_lock : ℕ → List ℕ → ℕ → Race → Bool
can_lock count on code race = not (eqb race.found 0) && leb count messages_most && ltb code channels && ltb race.message count && all_on_boards on count

-- What a last turn answers, whatever race, words and boards it takes: locked, with the schedule for the race's message; else, of what no job can
-- hold too, free.
unfoldable pub conclusion : ℕ → List ℕ → List ℕ → ℕ → Race → model.Answer
conclusion count on words code race =
    cond (can_lock count on code race)
    (model.locked race.message race.event (schedule (scenario_in count on words) (channel_of code) race.message))
    model.free

-- its numbers, and the trace after it
pub record Concludes (count : ℕ) (on words : List ℕ) (code : ℕ) (race : Race) (trace exit : List ℕ) (r : model.Numbers) : Type 0 where
  pub numbers : r ≡ numbers_of (conclusion count on words code race)
  pub trace_left : exit ≡ trace_after (conclusion count on words code race) trace
