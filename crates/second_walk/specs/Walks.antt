-- What the rows walked twice come to. Assumes nothing.
use Rattle.std.specs.Prelude.{ℕ, ◌≡◌, List, [], Result, Ok, Err}
use Rattle.std.proofs.Math.Option.{none}
use Rattle.model.specs.Refusal.{Out, ok, and_then}
use Rattle.model.specs.Rows.{Row}
use Rattle.model.specs.Expansion.{expand}
use Rattle.model.specs.Order.{Exchange, scenario_of, nothing_met, met_ops, exchange_of}
use Rattle.model.specs.Race.{race_rule_of, lowest_race}
use Rattle.model.specs.Rounds.{rounds, walked_again}
use Rattle.relation.specs.Scenario.{scenario_in}
use Rattle.scenario.specs.Contract.{Fit}
use Rattle.verdict.specs.Parts.{IsRace}
use Rattle.second_walk.specs.declared.Twice.{Twice}
use Rattle.second_walk.specs.declared.Twice.TheVariants.{OneLocked, OneFree}
use Rattle.outcome.specs.declared.Refusal.{Refusal}
use Rattle.outcome.specs.Refusals.{refused_in}

-- the exchange of one round, unless one of two walks is refused
unfoldable pub rows_repeatable : List Row → Out Exchange
rows_repeatable file =
    and_then (expand met_ops [] file nothing_met) (λ s. and_then (walked_again file s) (λ t. ok (exchange_of s)))

module _ (o : Out Exchange) (code : ℕ) where
  -- neither walk is refused, and one round has a race
  pub record OneLocks : Type 0 where
    pub one : Exchange
    pub is_one : o ≡ ok one
    pub message : ℕ
    pub event : ℕ
    pub race : IsRace (scenario_of one) code message event

  -- neither is refused, one round has no race, and two rounds are in boards and words
  pub record OneFrees (boards words : List ℕ) (count : ℕ) : Type 0 where
    pub one : Exchange
    pub is_one : o ≡ ok one
    pub no_race : lowest_race (scenario_of one) (race_rule_of code) ≡ none
    pub is_two : scenario_in count boards words ≡ scenario_of (rounds one 2)
    pub fit : Fit count boards words

  abbrev pub Walks : List ℕ → List ℕ → Result Twice Refusal → Type 0
  Walks boards words (Ok OneLocked) = OneLocks
  Walks boards words (Ok (OneFree count)) = OneFrees boards words count
  Walks boards words (Err r) = o ≡ refused_in r
