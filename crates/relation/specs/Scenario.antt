-- From the code's data to the model: the scenario that a number of messages, the board of each event and the relation's words
-- hold. Assumes nothing.
use Rattle.std.specs.Prelude.{◌&&◌, List, ℕ, ◌+◌, ◌*◌, ltb, get_or}
use Rattle.model.specs.Order.{Scenario, number, message_of}
use Rattle.relation.specs.Width.{width}
use Rattle.relation.specs.Rows.{holds}

-- event 2m is message m's send, on its source; event 2m + 1 its receive, on its target
abbrev pub scenario_in : ℕ → List ℕ → List ℕ → Scenario
scenario_in count boards words =
    record {
      count = count;
      source = λ m. get_or boards (2 * m) 0;
      target = λ m. get_or boards (2 * m + 1) 0;
      before = λ x y. ltb (message_of x) count && ltb (message_of y) count && holds width words (number y) (number x);
    }
