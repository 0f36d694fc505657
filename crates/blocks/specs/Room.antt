-- What the walk's parts may rely on: the lengths lent, and numbers within the paper's limits.
-- Assumes nothing.
use Rattle.std.specs.Prelude.{ℕ, ◌*◌, ◌<◌, ◌≤◌, ◌≡◌, length, get_or}
use Rattle.model.specs.Limits.{boards, messages_most}
use Rattle.relation.specs.Width.{width}
use Rattle.blocks.specs.Store.{Store}

-- a walk that has met so many messages, and whose open block begins at `first`
pub record Room (first count : ℕ) (t : Store) : Type 0 where
  pub events_long : length t.events ≡ 2 * messages_most
  pub words_long : length t.words ≡ 2 * messages_most * width
  pub past_long : length t.past ≡ boards * width
  pub first_most : first ≤ count
  pub count_most : count ≤ messages_most
  pub boards_most : (k : ℕ) → get_or t.events k 0 < boards
