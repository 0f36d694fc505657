-- What the check promises: the paper's answer, the buffers at exit, "before" as the paper's relation, and point 3. All of it is read
-- from the text, the code and the lengths of the buffers lent. Assumes nothing.
use Rattle.std.specs.Prelude.{ℕ, ◌*◌, ◌<◌, ◌≤◌, ◌≡◌, ◌↔◌, ◌⊎◌, true, false, List, length, take}
use Rattle.model.specs.Refusal.{Out, ok}
use Rattle.model.specs.Order.{Event, event, Exchange, Before, Scenario}
use Rattle.model.specs.Channel.{channel_of}
use Rattle.model.specs.Run.{Step, IsOrder, EndsStuck, EndsFinished, CanFinish}
use Rattle.model.specs.Race.{race_rule_of, is_race}
use Rattle.model.specs.Schedule.{schedule, bytes_of}
use Rattle.model.specs.Answer.{Numbers, free_word, locked_word, exchange_met, accepted_of, answer_of, numbers_of, scratch_behind, trace_after}

-- The scenario is what a walk meets: its messages, their boards, and "before" exactly the paper's least transitive relation over them.
pub record IsMet (walked : Out Exchange) (S : Scenario) : Type 0 where
  pub exchange : Exchange
  pub met : walked ≡ ok exchange
  pub messages : S.count ≡ exchange.count
  pub sources : (m : ℕ) → S.source m ≡ exchange.source m
  pub targets : (m : ℕ) → S.target m ≡ exchange.target m
  pub before : (x y : Event) → (S.before x y ≡ true) ↔ Before exchange x y

-- it is what the walk of the text meets
abbrev pub Meets : List ℕ → Scenario → Type 0
Meets text S = IsMet (exchange_met text) S

-- message e and the event with number x are a race of the code's kind, and no race has a lower e, or e and a lower x
pub record LowestRace (S : Scenario) (code e x : ℕ) : Type 0 where
  pub in_scenario : (e < S.count) × (x < 2 * S.count)
  pub race : is_race S (race_rule_of code) e (event x) ≡ true
  pub no_lower_message : (f y : ℕ) → f < e → y < 2 * S.count → is_race S (race_rule_of code) f (event y) ≡ false
  pub no_lower_event : (y : ℕ) → y < x → is_race S (race_rule_of code) e (event y) ≡ false

-- The answer's numbers r and the trace buffer as the check leaves it, for the scenario of an accepted sheet and a channel code.
pub record Verdict (S : Scenario) (code : ℕ) (r : Numbers) (trace : List ℕ) : Type 0 where
  -- an accepted sheet is locked or free: locked exactly if its causal order has a race of the channel's kind
  pub locked_or_free : (r.word ≡ locked_word) ⊎ (r.word ≡ free_word)
  pub locked_when_racing : (r.word ≡ locked_word) ↔ ((e : ℕ) × (x : Event) × (e < S.count) × (is_race S (race_rule_of code) e x ≡ true))
  -- the race named is the lowest
  pub locked_race : r.word ≡ locked_word → LowestRace S code r.one r.two
  -- the steps handed back, the first bytes of the trace buffer, two for each step counted, are the schedule for the race named
  pub locked_count : r.word ≡ locked_word → length (schedule S (channel_of code) r.one) ≡ r.three
  pub locked_trace : r.word ≡ locked_word → take (2 * r.three) trace ≡ bytes_of (schedule S (channel_of code) r.one)
  -- and they are an allowed order that ends stuck
  pub locked_steps : r.word ≡ locked_word → EndsStuck S (channel_of code) (schedule S (channel_of code) r.one)
  -- locked exactly when some allowed order ends stuck
  pub locked_when_stuck : (r.word ≡ locked_word) ↔ ((ts : List Step) × EndsStuck S (channel_of code) ts)
  -- free exactly when every allowed order, the empty one too, can be carried on until all is consumed
  pub free_when_finishing : (r.word ≡ free_word) ↔ ((ts : List Step) → IsOrder S (channel_of code) ts → CanFinish S (channel_of code) ts)
  -- an order that finishes has three steps a message, and no allowed order has more
  pub finished_length : (ts : List Step) → EndsFinished S (channel_of code) ts → length ts ≡ 3 * S.count
  pub none_longer : (ts : List Step) → IsOrder S (channel_of code) ts → length ts ≤ 3 * S.count

-- Point 3 for a call: whenever the sheet is accepted, with its channel and the buffers lent, this holds of its scenario, the
-- numbers answered and the trace buffer at exit.
abbrev pub PointThree : List ℕ → ℕ → ℕ → ℕ → Numbers → List ℕ → Type 0
PointThree text code scratch_length trace_length r trace =
    (S : Scenario) → accepted_of text code scratch_length trace_length ≡ ok S → Verdict S code r trace

-- What a call gives, from what it was lent: the text, the code, and the scratch and the trace at entry.
pub record Checked (text : List ℕ) (code : ℕ) (scratch scratch_exit trace trace_exit : List ℕ) (r : Numbers) : Type 0 where
  -- the answer is the paper's
  pub answer : r ≡ numbers_of (answer_of text code (length scratch) (length trace))
  -- refusals 1 and 2 touch neither buffer; behind every other call the first `scratch_least` words of the scratch are zero and the rest unchanged
  pub scratch_left : scratch_exit ≡ scratch_behind (accepted_of text code (length scratch) (length trace)) scratch
  -- the trace changes only on locked, in the bytes of the steps counted
  pub trace_left : trace_exit ≡ trace_after (answer_of text code (length scratch) (length trace)) trace
  -- an accepted sheet's scenario is what its walk meets, with "before" the paper's relation
  pub causal_order : (S : Scenario) → accepted_of text code (length scratch) (length trace) ≡ ok S → Meets text S
  -- point 3, of the numbers answered and the bytes that the trace holds at exit
  pub point_three : PointThree text code (length scratch) (length trace) r trace_exit
