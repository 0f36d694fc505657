-- The judgement, as the model's; and a faulty receiver by two sets. Assumes nothing.
use Rattle.std.specs.Prelude.{ℕ, Bool, not, ◌||◌, Result, Ok, Err}
use Rattle.model.specs.Answer.{Numbers}
use Rattle.model.specs.Senders.{Soundness, sound, gap, clash, malformed, in_set, table_numbers}
use Rattle.senders.specs.declared.Judgement.{Judgement}
use Rattle.senders.specs.declared.Judgement.TheVariants.{Sound, Gap, Clash}
use Rattle.outcome.specs.declared.Refusal.{Refusal}
use Rattle.outcome.specs.Refusals.{number_in}

abbrev pub judgement_as : Judgement → Soundness
judgement_as Sound = sound
judgement_as (Gap pair) = gap pair
judgement_as (Clash pair first second) = clash pair first second

-- a judgement, or a refusal
abbrev pub soundness_as : Result Judgement Refusal → Soundness
soundness_as (Ok j) = judgement_as j
soundness_as (Err r) = malformed (number_in r.reason) r.line

-- the word and three numbers of them
abbrev pub numbers_for : Result Judgement Refusal → Numbers
numbers_for r = table_numbers (soundness_as r)

-- a receiver is faulty: in no rule, or in two or more
unfoldable pub is_fault : ℕ → ℕ → ℕ → Bool
is_fault once twice receiver = not (in_set once receiver) || in_set twice receiver
