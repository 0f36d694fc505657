-- Our own, after the requests: what a sheet holds. Its messages with their lines and boards, and all its races. Assumes nothing.
use Rattle.std.specs.Prelude.{ℕ, zero, suc, ◌+◌, ◌*◌, ◌/◌, ◌<◌, ◌≡◌, ◌↔◌, ◌⊎◌, true, cond, ◌||◌, List, [], ◌∷◌, ◌++◌, ltb, length, get_or, take, drop}
use Rattle.std.proofs.Math.Option.{none, some}
use Rattle.model.specs.Limits.{scratch_least, message_numbers_least}
use Rattle.model.specs.Refusal.{Out, ok, refusal, bench_refusal}
use Rattle.model.specs.Order.{event, Scenario}
use Rattle.model.specs.Race.{RaceRule, race_rule_of, is_race, lowest_race}
use Rattle.model.specs.Answer.{sheet_of, scratch_behind}
use Rattle.model.specs.Verdict.{Meets}
use Rattle.model.specs.Monitor.{watchable}
use Rattle.model.specs.Senders.{lines_met, MessageRow}

-- The word of an answer and the two numbers after it: how many there are, and of races how many stand in the output; or the refusal's number and its line.
pub record HoldingNumbers : Type 0 where
  pub word : ℕ
  pub one : ℕ
  pub two : ℕ

abbrev pub listed_word : ℕ
listed_word = 0

abbrev pub refused_word : ℕ
refused_word = 1

-- ---- messages

-- refusal 2 for the scratch, or for an output that has not three numbers for each of the most messages; then those of the sheet
unfoldable pub listable : List ℕ → ℕ → ℕ → Out Scenario
listable text scratch_length output_length =
    cond (ltb scratch_length scratch_least || ltb output_length message_numbers_least) (refusal bench_refusal 0) (sheet_of text)

-- three numbers for each of the first n messages: the line of its M row, its sender, its receiver
unfoldable pub messages_told : ℕ → List ℕ → Scenario → List ℕ
messages_told zero lines S = []
messages_told (suc m) lines S = messages_told m lines S ++ (get_or lines m 0 ∷ S.source m ∷ S.target m ∷ [])

-- how many messages the walk meets
unfoldable pub messages_answer : Out Scenario → HoldingNumbers
messages_answer (ok S) = record { word = listed_word; one = S.count; two = 0 }
messages_answer (refusal number line) = record { word = refused_word; one = number; two = line }

-- the numbers after the last message are unchanged, and a refusal leaves the output unchanged
unfoldable pub messages_left : Out Scenario → List ℕ → List ℕ → List ℕ
messages_left (ok S) lines output = messages_told S.count lines S ++ drop (3 * S.count) output
messages_left (refusal number line) lines output = output

-- What a call gives, from what it was lent: the text, and the scratch and the output at entry.
pub record MessagesListed (text scratch scratch_exit output output_exit : List ℕ) (r : HoldingNumbers) : Type 0 where
  pub answer : r ≡ messages_answer (listable text (length scratch) (length output))
  pub scratch_left : scratch_exit ≡ scratch_behind (listable text (length scratch) (length output)) scratch
  pub output_left : output_exit ≡ messages_left (listable text (length scratch) (length output)) (lines_met text) output
  -- an accepted sheet's scenario is what its walk meets, with "before" the paper's relation
  pub causal_order : (S : Scenario) → listable text (length scratch) (length output) ≡ ok S → Meets text S
  -- the three numbers of message m are the line of its own M row and the boards of that row, which are the message's
  pub each_message : (S : Scenario) → listable text (length scratch) (length output) ≡ ok S → (m : ℕ) → m < S.count
      → MessageRow text m (get_or output_exit (3 * m) 0) (S.source m) (S.target m)
      × (get_or output_exit (3 * m + 1) 0 ≡ S.source m) × (get_or output_exit (3 * m + 2) 0 ≡ S.target m)

-- ---- races

-- the races of message e with the events below n, and those of the messages below n with all events
unfoldable pub races_of : Scenario → RaceRule → ℕ → ℕ → List (ℕ × ℕ)
races_of S rule e zero = []
races_of S rule e (suc x) = races_of S rule e x ++ cond (is_race S rule e (event x)) ((e, x) ∷ []) []

unfoldable pub races_below : Scenario → RaceRule → ℕ → List (ℕ × ℕ)
races_below S rule zero = []
races_below S rule (suc e) = races_below S rule e ++ races_of S rule e (2 * S.count)

-- all races of the code's kind, by e and then x
abbrev pub all_races : Scenario → ℕ → List (ℕ × ℕ)
all_races S code = races_below S (race_rule_of code) S.count

-- e and x of each
unfoldable pub races_told : List (ℕ × ℕ) → List ℕ
races_told [] = []
races_told (race ∷ races) = race.0 ∷ race.1 ∷ races_told races

-- the first races, as many whole pairs as an output of so many numbers holds
abbrev pub races_listed : Scenario → ℕ → ℕ → List (ℕ × ℕ)
races_listed S code output_length = take (output_length / 2) (all_races S code)

-- how many races there are, and how many of them stand in the output
unfoldable pub races_answer : Out Scenario → ℕ → ℕ → HoldingNumbers
races_answer (ok S) code output_length =
    record { word = listed_word; one = length (all_races S code); two = length (races_listed S code output_length) }
races_answer (refusal number line) code output_length = record { word = refused_word; one = number; two = line }

-- the numbers after the last race listed are unchanged, and a refusal leaves the output unchanged
unfoldable pub races_left : Out Scenario → ℕ → List ℕ → List ℕ
races_left (ok S) code output =
    let listed = races_listed S code (length output) in
    races_told listed ++ drop (2 * length listed) output
races_left (refusal number line) code output = output

-- a race is one of the list
abbrev pub Listed : ℕ → ℕ → List (ℕ × ℕ) → Type 0
Listed e x [] = ⊥
Listed e x (race ∷ races) = ((race.0 ≡ e) × (race.1 ≡ x)) ⊎ Listed e x races

-- of two races that with the lower message comes first, and of one message that with the lower event
abbrev pub ComesFirst : ℕ × ℕ → ℕ × ℕ → Type 0
ComesFirst a b = (a.0 < b.0) ⊎ ((a.0 ≡ b.0) × (a.1 < b.1))

-- each comes ahead of all after it, so that none stands there twice
abbrev pub InOrder : List (ℕ × ℕ) → Type 0
InOrder [] = Unit {0}
InOrder (race ∷ races) = ((e x : ℕ) → Listed e x races → ComesFirst race (e, x)) × InOrder races

-- exactly the races of the code's kind, in order
pub record ExactlyRaces (S : Scenario) (code : ℕ) (races : List (ℕ × ℕ)) : Type 0 where
  pub exactly : (e x : ℕ) → Listed e x races ↔ ((e < S.count) × (x < 2 * S.count) × (is_race S (race_rule_of code) e (event x) ≡ true))
  pub in_order : InOrder races
  -- the first is the race that the check names
  pub no_race : (races ≡ []) ↔ (lowest_race S (race_rule_of code) ≡ none)
  pub first : 0 < length races → lowest_race S (race_rule_of code) ≡ some (get_or races 0 (0, 0))
  -- on the lazy channels there are none
  pub lazy : (code ≡ 1) ⊎ (code ≡ 3) → races ≡ []

-- What a call gives, from what it was lent: the text, the code, and the scratch and the output at entry, of any length.
pub record RacesTold (text : List ℕ) (code : ℕ) (scratch scratch_exit output output_exit : List ℕ) (r : HoldingNumbers) : Type 0 where
  pub answer : r ≡ races_answer (watchable text code (length scratch)) code (length output)
  pub scratch_left : scratch_exit ≡ scratch_behind (watchable text code (length scratch)) scratch
  pub output_left : output_exit ≡ races_left (watchable text code (length scratch)) code output
  pub causal_order : (S : Scenario) → watchable text code (length scratch) ≡ ok S → Meets text S
  pub races : (S : Scenario) → watchable text code (length scratch) ≡ ok S → ExactlyRaces S code (all_races S code)
