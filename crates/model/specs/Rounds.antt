-- Our own, after the requests: an exchange that is repeated, each board going on to its next round as soon as it has done its own part of the last.
-- Assumes nothing.
use Rattle.std.specs.Prelude.{ℕ, zero, suc, ◌+◌, ◌*◌, ◌/◌, ◌%◌, ◌<◌, ◌≤◌, ◌≡◌, ◌↔◌, ◌⊎◌, true, cond, ◌&&◌, ◌||◌, List, [], eqb, ltb, leb, length, drop}
use Rattle.model.specs.Limits.{levels, channels, scratch_least, trace_least}
use Rattle.model.specs.Refusal.{Out, ok, refusal, and_then, channel_refusal, bench_refusal}
use Rattle.model.specs.Rows.{Row}
use Rattle.model.specs.Place.{line_of, read_of}
use Rattle.model.specs.Expansion.{Progress, start_of, block_opened, walk_rows, call_at, expand}
use Rattle.model.specs.Order.{Event, send_of, receive_of, message_of, Exchange, Before, Scenario, scenario_of, Met, nothing_met, met_ops, exchange_of}
use Rattle.model.specs.Channel.{channel_of}
use Rattle.model.specs.Run.{Step, IsOrder, EndsStuck, EndsFinished, CanFinish}
use Rattle.model.specs.Schedule.{schedule}
use Rattle.model.specs.Answer.{Answer, free, locked, refused, verdict_of, Numbers, free_word, locked_word, numbers_of, exchange_met, scratch_behind, trace_after}
use Rattle.model.specs.Verdict.{LowestRace}

-- the highest of f's first n values
unfoldable pub highest : ℕ → (ℕ → ℕ) → ℕ
highest zero f = 0
highest (suc n) f = cond (leb (f n) (highest n f)) (highest n f) (f n)

module _ (E : Exchange) where
  -- Message m of k rounds, numbered on, stands in round m / n for message m % n of one round, which has n.
  unfoldable pub round_of : Event → ℕ
  round_of x = message_of x / E.count

  unfoldable pub in_round : Event → Event
  in_round (send_of m) = send_of (m % E.count)
  in_round (receive_of m) = receive_of (m % E.count)

  -- so many blocks as a round has at the most: each round begins with a new one
  unfoldable pub blocks_of : ℕ
  blocks_of = suc (highest E.count E.block)

  -- the message of one round that it stands for; a number that is no message of the rounds stands for itself
  unfoldable pub stands_for : ℕ → ℕ → ℕ
  stands_for k m = cond (ltb m (k * E.count)) (m % E.count) m

  -- k rounds: the walk made k times, one after the other
  unfoldable pub rounds : ℕ → Exchange
  rounds k =
      record {
        count = k * E.count;
        source = λ m. E.source (stands_for k m);
        target = λ m. E.target (stands_for k m);
        block = λ m. m / E.count * blocks_of + E.block (m % E.count);
        ordered = λ x y. ltb (message_of x) (k * E.count) && eqb (round_of x) (round_of y) && E.ordered (in_round x) (in_round y);
      }

-- The answer for an exchange: the rounds, and what the check would say of them. Where one round is locked, it is one round's own; else that of two
-- rounds, if they are locked; else free, with rounds 0.
unfoldable pub second_verdict : Answer → ℕ × Answer
second_verdict free = (0, free)
second_verdict (locked e x ts) = (2, locked e x ts)
second_verdict (refused number line) = (0, refused number line)

unfoldable pub first_verdict : Answer → Answer → ℕ × Answer
first_verdict free second = second_verdict second
first_verdict (locked e x ts) second = (1, locked e x ts)
first_verdict (refused number line) second = (0, refused number line)

unfoldable pub rounds_verdict : Exchange → ℕ → ℕ × Answer
rounds_verdict E code = first_verdict (verdict_of (scenario_of E) code) (verdict_of (scenario_of (rounds E 2)) code)

-- the scenario of k rounds
abbrev pub scenario_in : Exchange → ℕ → Scenario
scenario_in E k = scenario_of (rounds E k)

-- What is so of the answer, the rounds and the check's numbers, over every number of rounds, without a bound.
pub record RoundsJudged (E : Exchange) (code number : ℕ) (r : Numbers) : Type 0 where
  -- one round is the check's own, and "before" is the paper's relation over k walks
  pub one_round : scenario_in E 1 ≡ scenario_of E
  pub causal_order : (k : ℕ) (x y : Event) → ((scenario_in E k).before x y ≡ true) ↔ Before (rounds E k) x y
  -- free exactly when for every k every allowed order of k rounds can be carried on until all is consumed
  pub free_or_locked : (r.word ≡ free_word) ⊎ (r.word ≡ locked_word)
  pub free_when_finishing : (r.word ≡ free_word)
      ↔ ((k : ℕ) → 1 ≤ k → (ts : List Step) → IsOrder (scenario_in E k) (channel_of code) ts → CanFinish (scenario_in E k) (channel_of code) ts)
  -- locked exactly when for some k some allowed order of k rounds ends stuck
  pub locked_when_stuck : (r.word ≡ locked_word) ↔ ((k : ℕ) × (1 ≤ k) × (ts : List Step) × EndsStuck (scenario_in E k) (channel_of code) ts)
  -- the race named is the lowest of so many rounds, the steps are an order of them that ends stuck, and no fewer rounds lock
  pub locked_rounds : r.word ≡ locked_word → (number ≡ 1) ⊎ (number ≡ 2)
  pub locked_race : r.word ≡ locked_word → LowestRace (scenario_in E number) code r.one r.two
  pub locked_count : r.word ≡ locked_word → length (schedule (scenario_in E number) (channel_of code) r.one) ≡ r.three
  pub locked_steps : r.word ≡ locked_word → EndsStuck (scenario_in E number) (channel_of code) (schedule (scenario_in E number) (channel_of code) r.one)
  pub fewest : r.word ≡ locked_word → (k : ℕ) → 1 ≤ k → k < number → (ts : List Step) → EndsStuck (scenario_in E k) (channel_of code) ts → ⊥
  -- a finished order of k rounds has three steps a message, and no allowed order has more
  pub finished_length : (k : ℕ) (ts : List Step) → EndsFinished (scenario_in E k) (channel_of code) ts → length ts ≡ 3 * (k * E.count)
  pub none_longer : (k : ℕ) (ts : List Step) → IsOrder (scenario_in E k) (channel_of code) ts → length ts ≤ 3 * (k * E.count)

-- The walk made once more after one that was made: it begins with a new block, messages are numbered on, and the limits are counted over both.
unfoldable pub walked_again : List Row → Progress Met → Out (Progress Met)
walked_again file s =
    walk_rows met_ops [] (call_at met_ops [] levels file) (drop (start_of 0 file) file) (line_of (start_of 0 file)) (block_opened met_ops s)

-- what one walk of a text meets, and what the second adds, unless it is refused: as one walk is, and then with 9 or 10 as the second meets them
unfoldable pub walked_twice : List ℕ → Out (Exchange × Exchange)
walked_twice text =
    and_then (read_of text) (λ file.
    and_then (expand met_ops [] file nothing_met) (λ s.
    and_then (walked_again file s) (λ t. ok (exchange_of s, exchange_of t))))

-- the exchange of one round, unless refusal 1, 2 or one of these applies
unfoldable pub repeatable : List ℕ → ℕ → ℕ → ℕ → Out Exchange
repeatable text code scratch_length trace_length =
    cond (ltb code channels)
    (cond (ltb scratch_length scratch_least || ltb trace_length trace_least) (refusal bench_refusal 0) (and_then (walked_twice text) (λ twice. ok twice.0)))
    (refusal channel_refusal 0)

unfoldable pub rounds_answer : Out Exchange → ℕ → ℕ × Answer
rounds_answer (ok E) code = rounds_verdict E code
rounds_answer (refusal number line) code = (0, refused number line)

-- What a call gives, from what it was lent: the text, the code, and the scratch and the trace at entry.
pub record RoundsChecked (text : List ℕ) (code : ℕ) (scratch scratch_exit trace trace_exit : List ℕ) (number : ℕ) (r : Numbers) : Type 0 where
  pub answer : r ≡ numbers_of (rounds_answer (repeatable text code (length scratch) (length trace)) code).1
  pub how_often : number ≡ (rounds_answer (repeatable text code (length scratch) (length trace)) code).0
  pub scratch_left : scratch_exit ≡ scratch_behind (repeatable text code (length scratch) (length trace)) scratch
  pub trace_left : trace_exit ≡ trace_after (rounds_answer (repeatable text code (length scratch) (length trace)) code).1 trace
  -- one round is what the walk of the text meets
  pub one_walk : (E : Exchange) → repeatable text code (length scratch) (length trace) ≡ ok E → exchange_met text ≡ ok E
  -- and the walk made twice is two rounds
  pub two_walks : (E F : Exchange) → walked_twice text ≡ ok (E, F) → scenario_of F ≡ scenario_in E 2
  pub every_round : (E : Exchange) → repeatable text code (length scratch) (length trace) ≡ ok E → RoundsJudged E code number r
