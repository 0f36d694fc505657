-- Request (e): the race test for a message, a word of the relation at once. Bit b of word w stands for event 64 w + b.
-- Assumes nothing.
use Rattle.std.specs.Prelude.{Bool, false, not, ◌&&◌, List, ◌≡◌, ℕ, ◌+◌, ◌-◌, ◌*◌, ◌%◌, ◌<◌, eqb, ltb, get_or}
use Rattle.model.specs.Order.{event}
use Rattle.model.specs.Race.{RaceRule, by_event, by_origin, never, is_race}
use Rattle.relation.specs.Width.{word_bits}
use Rattle.relation.specs.Rows.{has}
use Rattle.relation.specs.Scenario.{scenario_in}
use Rattle.at_or_before.specs.Reached.{event_at, WordOf, is_reached}

-- event x, or its origin, is not at or before e's send; on the lazy channels none is looked for
abbrev pub is_outside : List ℕ → RaceRule → ℕ → ℕ → Bool
is_outside words by_event e x = not (is_reached words e x)
is_outside words by_origin e x = not (is_reached words e (x - x % 2))
is_outside words never e x = false

abbrev pub OutsideWord : List ℕ → RaceRule → ℕ → ℕ → ℕ → Type 0
OutsideWord words r e w word = WordOf (is_outside words r e) w word

-- event x is one of the first `events`, on the board
abbrev pub is_on : List ℕ → ℕ → ℕ → ℕ → Bool
is_on boards events board x = ltb x events && eqb (get_or boards x 0) board

-- the events from .. to - 1 on a board, bit b standing for event from + b
pub record OnBoard (boards : List ℕ) (board from to word : ℕ) : Type 0 where
  pub bits : (b : ℕ) → b < word_bits → has word b ≡ is_on boards to board (from + b)

-- the bits of a word that stand for one of the first `events`
pub record Within (word w events r : ℕ) : Type 0 where
  pub bits : (b : ℕ) → b < word_bits → has r b ≡ (has word b && ltb (event_at w b) events)

-- those bits of a word whose events are on a board
pub record BitsOn (word w : ℕ) (boards : List ℕ) (events board r : ℕ) : Type 0 where
  pub bits : (b : ℕ) → b < word_bits → has r b ≡ (has word b && is_on boards events board (event_at w b))

-- bit b of word w is set exactly if 64 w + b is an event of the scenario and (e, that event) is a race
abbrev pub RaceWord : ℕ → List ℕ → List ℕ → RaceRule → ℕ → ℕ → ℕ → Type 0
RaceWord count boards words r e w word =
    WordOf (λ x. ltb x (2 * count) && is_race (scenario_in count boards words) r e (event x)) w word
