-- "Races and the schedule": races by code, and the race named. Assumes nothing.
use Rattle.std.specs.Prelude.{ℕ, ◌*◌, Bool, false, not, ◌&&◌, List, [], ◌∷◌, eqb, get_or}
use Rattle.std.proofs.Math.Option.{Option, none, some}
use Rattle.model.specs.Bounded.{any, lowest}
use Rattle.model.specs.Order.{Event, send_of, receive_of, event, Scenario, board, at_or_before}

-- what is not at or before e's send: the event x itself (code 0), origin(x) (2, 4, 5); 1 and 3 have no races
pub data RaceRule : Type 0 where
  by_event : RaceRule
  by_origin : RaceRule
  never : RaceRule

-- the rules, by code
abbrev pub race_table : List RaceRule
race_table = by_event ∷ never ∷ by_origin ∷ never ∷ by_origin ∷ by_origin ∷ []

abbrev pub race_rule_of : ℕ → RaceRule
race_rule_of code = get_or race_table code by_event

-- origin(x) is x itself if a send, else the send of x's message
unfoldable pub origin : Event → Event
origin (send_of m) = send_of m
origin (receive_of m) = send_of m

module _ (S : Scenario) where
  -- what the rule looks at, x itself or its origin, is not at or before e's send
  unfoldable pub not_at_or_before : RaceRule → ℕ → Event → Bool
  not_at_or_before by_event e x = not (at_or_before S x (send_of e))
  not_at_or_before by_origin e x = not (at_or_before S (origin x) (send_of e))
  not_at_or_before never e x = false

  -- a race: x is on e's receiving board and before e's receive, and x, or its origin, is not at or before e's send
  unfoldable pub is_race : RaceRule → ℕ → Event → Bool
  is_race r e x = eqb (board S x) (S.target e) && S.before x (receive_of e) && not_at_or_before r e x

  -- message e races with some event; the lowest such event, by number
  unfoldable pub races : RaceRule → ℕ → Bool
  races r e = any (2 * S.count) (λ k. is_race r e (event k))

  unfoldable pub lowest_event : RaceRule → ℕ → Option ℕ
  lowest_event r e = lowest (2 * S.count) (λ k. is_race r e (event k))

  -- the lowest message that races
  unfoldable pub lowest_message : RaceRule → Option ℕ
  lowest_message r = lowest S.count (races r)

  -- the race named: the lowest e, then the lowest x
  unfoldable pub lowest_race : RaceRule → Option (ℕ × ℕ)
  lowest_race r =
      elim (lowest_message r) [
        | none ↦ none
        | some e ↦ elim (lowest_event r e) [ none ↦ none | some x ↦ some (e, x) ]
      ]
