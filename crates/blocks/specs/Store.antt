-- What the code's walk collects: the board of each event, the relation's rows, and for each board the events that every event of
-- the open block there is behind. Each part says what the code does, list by list, for rows of any width W.
-- Assumes nothing.
use Rattle.std.specs.Prelude.{ℕ, zero, suc, ◌+◌, ◌-◌, ◌*◌, Bool, List, get_or, set, drop}
use Rattle.model.specs.Limits.{levels}
use Rattle.model.specs.Refusal.{Out, ok, and_then}
use Rattle.model.specs.Rows.{Row}
use Rattle.model.specs.Place.{line_of}
use Rattle.model.specs.Order.{Scenario, nothing_met, met_ops, exchange_of, scenario_of}
use Rattle.model.specs.Expansion.{Ops, Progress, start_of, block_opened, walk_rows, call_at, expand}
use Rattle.relation.specs.Width.{width}
use Rattle.relation.specs.Rows.{marked}
use Rattle.relation.specs.Scenario.{scenario_in}
use Rattle.joined_rows.specs.Joins.{joined, joined_from, copied_from}
use Rattle.closure.specs.Insertion.{inserted}

-- row p of `past` holds board p's events of earlier blocks and all before them
pub record Store : Type 0 where
  pub events : List ℕ
  pub words : List ℕ
  pub past : List ℕ

abbrev pub store_of : List ℕ → List ℕ → List ℕ → Store
store_of events words past = record { events = events; words = words; past = past }

-- message m, from board a to board b, on the boards; and its two rows, made anew: each event is behind its board's past, and the
-- receive behind its send too
unfoldable pub boards_with : List ℕ → ℕ → ℕ → ℕ → List ℕ
boards_with events m a b = set (set events (2 * m) a) (2 * m + 1) b

unfoldable pub begun : ℕ → List ℕ → List ℕ → ℕ → ℕ → ℕ → List ℕ
begun W words past m a b = copied_from W (copied_from W words (2 * m) past a) (2 * m + 1) past b

unfoldable pub added : ℕ → List ℕ → List ℕ → ℕ → ℕ → ℕ → List ℕ
added W words past m a b = marked W (joined W (begun W words past m a b) (2 * m + 1) (2 * m)) (2 * m + 1) (2 * m)

-- event e is past: its board's row gains it and all before it
unfoldable pub passed_at : ℕ → List ℕ → List ℕ → List ℕ → ℕ → List ℕ
passed_at W past events words e = marked W (joined_from W past (get_or events e 0) words e) (get_or events e 0) e

-- so are n events, in order
unfoldable pub passed_in : ℕ → List ℕ → List ℕ → List ℕ → ℕ → ℕ → List ℕ
passed_in W past events words from zero = past
passed_in W past events words from (suc n) = passed_at W (passed_in W past events words from n) events words (from + n)

-- the events from .. to - 1 are past
unfoldable pub passed : ℕ → List ℕ → List ℕ → List ℕ → ℕ → ℕ → List ℕ
passed W past events words from to = passed_in W past events words from (to - from)

-- a P row's events are numbered from the open block's first message on
unfoldable pub store_ops : Ops Store
store_ops =
    record {
      with_message = λ w a b t. record { events = boards_with t.events w.count a b; words = added width t.words t.past w.count a b; past = t.past };
      with_order = λ w x y t. record {
        events = t.events;
        words = inserted width t.words (2 * w.first + x) (2 * w.first + y) (2 * w.first) (2 * w.count);
        past = t.past;
      };
      with_block = λ w t. record { events = t.events; words = t.words; past = passed width t.past t.events t.words (2 * w.first) (2 * w.count) };
    }

-- what a walk with the store ends in: the scenario, and the A rows met
abbrev pub concluded : Progress Store → Out (Scenario × ℕ)
concluded s = ok (scenario_in s.walk.count s.kept.events s.kept.words, s.walk.choices)

-- the scenario of the rows on a list of options, and the A rows that the walk meets
unfoldable pub counted_with : List Bool → List Row → Out (Scenario × ℕ)
counted_with options file = and_then (expand met_ops options file nothing_met) (λ s. ok (scenario_of (exchange_of s), s.walk.choices))

-- the walk of sheet 0 from a state on, and the next block open after it
unfoldable pub walked_on : List Bool → List Row → Progress Store → Out (Progress Store)
walked_on options file s =
    and_then (walk_rows store_ops options (call_at store_ops options levels file) (drop (start_of 0 file) file) (line_of (start_of 0 file)) s)
    (λ u. ok (block_opened store_ops u))
