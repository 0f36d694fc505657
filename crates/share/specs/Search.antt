-- The race search, spread over the turns of a job: what a turn looks at, and what the turns so far have found. Assumes nothing.
use Rattle.std.specs.Prelude.{◌≡◌, Bool, cond, ◌&&◌, List, ℕ, zero, suc, ◌*◌, ◌/◌, ◌%◌, eqb, ltb, leb}
use Rattle.std.proofs.Math.Option.{Option, none, some}
use Rattle.model.specs.Limits.{channels, messages_most}
use Rattle.model.specs.Bounded.{lowest}
use Rattle.model.specs.Order.{Scenario, event}
use Rattle.model.specs.Race.{RaceRule, race_rule_of, is_race}
use Rattle.relation.specs.Width.{width, word_bits}
use Rattle.relation.specs.Scenario.{scenario_in}
use Rattle.share.specs.declared.Race.{Race}

-- event x is in the words from .. to - 1 of a row
abbrev pub in_words : ℕ → ℕ → ℕ → Bool
in_words from to x = leb (word_bits * from) x && ltb x (word_bits * to)

-- Turn t of a job looks at message t / 2, and in its row at the first half of the words or at the second.
abbrev pub half : ℕ
half = width / 2

unfoldable pub from_of : ℕ → ℕ
from_of t = cond (eqb (t % 2) 0) 0 half

unfoldable pub to_of : ℕ → ℕ
to_of t = cond (eqb (t % 2) 0) half width

module _ (S : Scenario) (r : RaceRule) where
  -- the lowest event there that races with the message
  unfoldable pub share_of : ℕ → Option ℕ
  share_of t = lowest (2 * S.count) (λ x. in_words (from_of t) (to_of t) x && is_race S r (t / 2) (event x))

  -- what the first t turns have found: the first race that one of them met
  unfoldable pub searched : ℕ → Option (ℕ × ℕ)
  searched zero = none
  searched (suc t) =
      elim (searched t) [
        | none ↦ elim (share_of t) [ none ↦ none | some x ↦ some (t / 2, x) ]
        | some race ↦ some race
      ]

-- what stands in a job's place
abbrev pub race_in : Race → Option (ℕ × ℕ)
race_in race = cond (eqb race.found 0) none (some (race.message, race.event))

-- a job can have so many messages and this code, and turn t ahead of its last
unfoldable pub can_be_held : ℕ → ℕ → ℕ → Bool
can_be_held count code t = leb count messages_most && ltb code channels && ltb t (2 * count)

-- What stands in a place after a turn, whatever stood there: a race found stays, and what no job can hold is left as it is.
unfoldable pub looked_from : ℕ → List ℕ → List ℕ → ℕ → ℕ → Race → Race
looked_from count boards words code t earlier =
    cond (eqb earlier.found 0 && can_be_held count code t)
    (elim (share_of (scenario_in count boards words) (race_rule_of code) t) [
      | none ↦ earlier
      | some x ↦ record { found = 1; message = t / 2; event = x }
    ])
    earlier

pub record Looks (count : ℕ) (boards words : List ℕ) (code t : ℕ) (earlier r : Race) : Type 0 where
  pub exact : r ≡ looked_from count boards words code t earlier
