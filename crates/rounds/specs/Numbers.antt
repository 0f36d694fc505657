-- The numbers that C gets of a repeated sheet. Assumes nothing.
use Rattle.std.specs.Prelude.{ℕ, ◌^◌, ◌<◌, ◌≡◌, List, Result}
use Rattle.model.specs.Refusal.{Out, and_then}
use Rattle.model.specs.Place.{read_of}
use Rattle.model.specs.Order.{Exchange}
use Rattle.model.specs.Answer.{Numbers}
use Rattle.second_walk.specs.declared.Rounds.{Rounds}
use Rattle.outcome.specs.declared.Refusal.{Refusal}
use Rattle.second_walk.specs.Walks.{rows_repeatable}
use Rattle.second_walk.specs.Judged.{numbers_for, rounds_for}
use Rattle.rounds.specs.declared.RoundsCheckAnswer.{RoundsCheckAnswer}

-- the exchange of one round, unless the text or one of two walks is refused
unfoldable pub text_repeatable : List ℕ → Out Exchange
text_repeatable text = and_then (read_of text) rows_repeatable

-- the check's four numbers
abbrev pub numbers_in : RoundsCheckAnswer → Numbers
numbers_in r = record { word = r.word; one = r.one; two = r.two; three = r.three }

-- the numbers behind the word fit 32 bits
pub record Small (r : Numbers) (number : ℕ) : Type 0 where
  pub one : r.one < 2 ^ 32
  pub two : r.two < 2 ^ 32
  pub three : r.three < 2 ^ 32
  pub rounds : number < 2 ^ 32

-- the numbers told are those of an answer
pub record Told (answer : Result Rounds Refusal) (r : RoundsCheckAnswer) : Type 0 where
  pub numbers : numbers_in r ≡ numbers_for answer
  pub rounds : r.rounds ≡ rounds_for answer
