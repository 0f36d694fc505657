-- What the way through all lists of a file hands on. Assumes nothing.
use Rattle.std.specs.Prelude as std
use Rattle.std.specs.Prelude.{ℕ, ◌≡◌, Bool, List, [], ◌∷◌, length, Result, Ok, Err, Some, None}
use Rattle.std.proofs.Math.Option.{Option, none, some}
use Rattle.model.specs.Refusal.{ok}
use Rattle.model.specs.Rows.{Row}
use Rattle.model.specs.Order.{Scenario}
use Rattle.model.specs.Run.{Step}
use Rattle.model.specs.Answer.{locked, expanded_with, verdict_of}
use Rattle.model.specs.Choice.{ChoiceList, lists_of, first_locked, refusal_in, lock_in}
use Rattle.relation.specs.Scenario.{scenario_in}
use Rattle.scenario.specs.Contract.{Fit}
use Rattle.choice_lists.specs.Places.{place_of}
use Rattle.choice_lists.specs.declared.Walked.{Walked}
use Rattle.outcome.specs.declared.Refusal.{Refusal}
use Rattle.outcome.specs.Refusals.{number_in}

-- the first locked list, this one and those ahead of it taken together: the one known, or this one if its scenario has the lowest race given
abbrev pub first_from : std.Option ℕ → ℕ → Option (ℕ × ℕ) → std.Option ℕ
first_from (Some k) list race = Some k
first_from None list none = None
first_from None list (some r) = Some list

module _ (file : List Row) (code : ℕ) where
  -- the first locked list of the file, by its place
  pub record LockAt (first : ℕ) : Type 0 where
    pub options : List Bool
    pub is_list : ChoiceList file options
    pub place : first ≡ place_of options
    pub scenario : Scenario
    pub is_scenario : expanded_with options file ≡ ok scenario
    pub message : ℕ
    pub event : ℕ
    pub steps : List Step
    pub is_locked : verdict_of scenario code ≡ locked message event steps
    pub lock : lock_in file code (lists_of file) ≡ first_locked options message event steps

  -- the last list of the file, none being refused: its place and length, its scenario in boards and words, and the first locked list
  -- ahead of it
  pub record LastList (boards words : List ℕ) (w : Walked) : Type 0 where
    pub options : List Bool
    pub is_list : ChoiceList file options
    pub place : w.list ≡ place_of options
    pub size : w.met ≡ length options
    pub scenario : expanded_with options file ≡ ok (scenario_in w.messages boards words)
    pub fit : Fit w.messages boards words
    pub unrefused : refusal_in file (lists_of file) ≡ none
    pub last_decides : w.first ≡ None → lock_in file code (lists_of file) ≡ lock_in file code (options ∷ [])
    pub locked_ahead : (first : ℕ) → w.first ≡ Some first → LockAt first

  -- all were walked, or the first refused one's refusal
  abbrev pub WalkedAs : List ℕ → List ℕ → Result Walked Refusal → Type 0
  WalkedAs boards words (Ok w) = LastList boards words w
  WalkedAs boards words (Err r) = refusal_in file (lists_of file) ≡ some (number_in r.reason, r.line)
