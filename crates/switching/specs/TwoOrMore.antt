-- Parts of what bars a switch. Assumes nothing.
use Rattle.std.specs.Prelude.{ℕ, ◌/◌, Bool, leb}
use Rattle.model.specs.Limits.{boards, messages_most}
use Rattle.model.specs.Bounded.{any, how_many}
use Rattle.model.specs.Run.{State}
use Rattle.relation.specs.Width.{word_bits}

-- the messages that a word has room for, two events each
abbrev pub half_word : ℕ
half_word = word_bits / 2

-- some board holds two messages or more
abbrev pub holds_two : State → Bool
holds_two s = any boards (λ b. leb 2 (how_many messages_most (s.holds b)))

-- two messages or more are under way
abbrev pub is_full : State → Bool
is_full s = leb 2 (how_many messages_most s.under_way)
