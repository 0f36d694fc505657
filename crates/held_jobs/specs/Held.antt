-- What a dispatcher holds of its jobs, read as the model's. Assumes nothing.
use Rattle.std.specs.Prelude.{◌≡◌, List, [], ℕ, ◌*◌, ◌<◌, ◌≤◌, get_or}
use Rattle.model.specs.Limits.{channels, jobs_most}
use Rattle.model.specs.Order.{Scenario}
use Rattle.model.specs.Race.{race_rule_of}
use Rattle.model.specs.Dispatcher as model
use Rattle.model.specs.Dispatcher.{Lent, DispatcherState, Served, no_answer}
use Rattle.relation.specs.Scenario.{scenario_in}
use Rattle.scenario.specs.Contract.{Fit}
use Rattle.queue.specs.declared.Queue.{Queue}
use Rattle.queue.specs.Bridge.{queue_in}
use Rattle.share.specs.declared.Race.{Race}
use Rattle.share.specs.Search.{searched, race_in}
use Rattle.held_jobs.specs.declared.Boards.{Boards}

-- The value of a dispatcher, field by field. The parts of its calls promise what they do of every such value.
pub record Held : Type 0 where
  pub queue : Queue
  pub given : ℕ
  pub races : List Race
  pub boards : List Boards

abbrev pub dispatcher_of : Held → DispatcherState
dispatcher_of d = record { queue = queue_in d.queue; given = d.given }

-- what stands in a place: the boards of the job's events, and what its search has found
abbrev pub boards_at : Held → ℕ → List ℕ
boards_at d p = (get_or d.boards p (record { on = [] })).on

abbrev pub race_at : Held → ℕ → Race
race_at d p = get_or d.races p (record { found = 0; message = 0; event = 0 })

-- The words of its place and the boards there hold the scenario of a job; its search has found what the turns that it had find.
pub record HoldsIn (boards : List ℕ) (race : Race) (words : List ℕ) (j : model.Job) (S : Scenario) : Type 0 where
  pub in_place : j.place < jobs_most
  pub fit : Fit j.count boards words
  pub is_scenario : scenario_in j.count boards words ≡ S
  pub is_channel : j.code < channels
  pub turns_most : j.turns ≤ 2 * j.count
  pub found : race_in race ≡ searched (scenario_in j.count boards words) (race_rule_of j.code) j.turns

abbrev pub HoldsJob : Held → List ℕ → model.Job → Scenario → Type 0
HoldsJob d words j S = HoldsIn (boards_at d j.place) (race_at d j.place) words j S

-- what a call is lent, and an answer with no numbers of the check
abbrev pub lent : List ℕ → List ℕ → List ℕ → List ℕ → Lent
lent sheets lengths codes words = record { sheets = sheets; lengths = lengths; codes = codes; words = words }

abbrev pub told_with : ℕ → ℕ → ℕ → Held → Served Held
told_with word one two d = record { told = record { word = word; one = one; two = two; answer = no_answer }; next = d }
