-- Request (f), which event a board waits for: the readiness of an event in full, the 16 numbers of the stuck verdict, and what the
-- call promises of them. Assumes nothing.
use Rattle.std.specs.Prelude.{ℕ, zero, suc, ◌*◌, ◌<◌, ◌≤◌, ◌≡◌, ◌↔◌, Bool, true, false, not, cond, ◌&&◌, List, [], ◌∷◌, ◌++◌, length, get_or}
use Rattle.std.proofs.Math.Option.{Option, none, some}
use Rattle.model.specs.Limits.{boards}
use Rattle.model.specs.Bounded.{lowest}
use Rattle.model.specs.Refusal.{Out, ok, refusal}
use Rattle.model.specs.Order.{Event, receive_of, event, Scenario, board}
use Rattle.model.specs.Channel.{channel_of}
use Rattle.model.specs.Run.{State, start, Step, next, is_ahead, ready, after, EndsStuck}
use Rattle.model.specs.Schedule.{bytes_of}
use Rattle.model.specs.Replay.{Replay, finishes, sticks, open', not_allowed, refused, steps_in, replay, replayable, ReplayNumbers, stuck_word, Replayed}

-- ready; done already; or the lowest event before it on its board that is not yet done, by its number
pub data Readiness : Type 0 where
  is_ready : Readiness
  is_done : Readiness
  waits_for : ℕ → Readiness

-- the number of a board that waits for nothing
abbrev pub no_wait : ℕ
no_wait = 65535

-- the number of the event waited for
abbrev pub waited : Readiness → ℕ
waited is_ready = no_wait
waited is_done = no_wait
waited (waits_for k) = k

module _ (S : Scenario) where
  -- event k is before x on x's board, and not yet done
  unfoldable pub holds_up : State → Event → ℕ → Bool
  holds_up s x k = is_ahead S (event k) x && not (s.done (event k))

  unfoldable pub readiness : State → Event → Readiness
  readiness s x = cond (s.done x) is_done (elim (lowest (2 * S.count) (holds_up s x)) [ none ↦ is_ready | some k ↦ waits_for k ])

  -- board b's buffer holds message m, whose receive is unready
  unfoldable pub unready_in : State → ℕ → ℕ → Bool
  unready_in s b m = s.holds b m && not (ready S s (receive_of m))

  -- the event that the lowest such message waits for
  unfoldable pub wait_of : State → ℕ → ℕ
  wait_of s b = elim (lowest S.count (unready_in s b)) [ none ↦ no_wait | some m ↦ waited (readiness s (receive_of m)) ]

  -- the state that the steps told leave, up to what is no step
  unfoldable pub end_from : State → List (Option Step) → State
  end_from s [] = s
  end_from s (none ∷ ts) = s
  end_from s (some t ∷ ts) = end_from (next S s t) ts

-- one number for each of the first n boards
unfoldable pub each_board : ℕ → (ℕ → ℕ) → List ℕ
each_board zero f = []
each_board (suc n) f = each_board n f ++ (f n ∷ [])

-- what board b waits for: on stuck, in the state that the steps leave; on every other word, nothing
unfoldable pub wait_by : Replay → Scenario → State → ℕ → ℕ
wait_by finishes S s b = no_wait
wait_by sticks S s b = wait_of S s b
wait_by open' S s b = no_wait
wait_by (not_allowed i) S s b = no_wait
wait_by (refused number line) S s b = no_wait

unfoldable pub wait_for : Out Scenario → ℕ → List ℕ → ℕ → ℕ
wait_for (ok S) code trace b = wait_by (replay S (channel_of code) trace) S (end_from S start (steps_in trace)) b
wait_for (refusal number line) code trace b = no_wait

unfoldable pub waits_of : List ℕ → ℕ → ℕ → List ℕ → List ℕ
waits_of text code scratch_length trace = each_board boards (wait_for (replayable text code scratch_length (length trace)) code trace)

-- Message m, held on board b, waits for event k: an event on that board, before m's receive, outstanding, and the lowest such;
-- and m is the lowest message held there whose receive is unready.
pub record WaitsFor (S : Scenario) (s : State) (b m k : ℕ) : Type 0 where
  pub message : m < S.count
  pub held : s.holds b m ≡ true
  pub unready : ready S s (receive_of m) ≡ false
  pub lowest_message : (j : ℕ) → j < m → s.holds b j ≡ true → ready S s (receive_of j) ≡ true
  pub is_event : k < 2 * S.count
  pub on_board : board S (event k) ≡ b
  pub before : S.before (event k) (receive_of m) ≡ true
  pub outstanding : s.done (event k) ≡ false
  pub lowest_event : (j : ℕ) → j < k → S.before (event j) (receive_of m) ≡ true → board S (event j) ≡ b → s.done (event j) ≡ true

-- what the number n of board b says of the state
pub record Says (S : Scenario) (s : State) (b n : ℕ) : Type 0 where
  pub most : n ≤ no_wait
  pub nothing : (n ≡ no_wait) ↔ ((m : ℕ) → m < S.count → s.holds b m ≡ true → ready S s (receive_of m) ≡ true)
  pub something : n < no_wait → (m : ℕ) × WaitsFor S s b m n

-- What a call gives, with the 16 numbers.
pub record TraceChecked (text : List ℕ) (code : ℕ) (scratch scratch_exit trace : List ℕ) (r : ReplayNumbers) (waits : List ℕ) : Type 0 where
  pub replayed : Replayed text code scratch scratch_exit trace r
  pub numbers : waits ≡ waits_of text code (length scratch) trace
  -- on stuck each number is right for the state that the steps leave
  pub on_stuck : (S : Scenario) → replayable text code (length scratch) (length trace) ≡ ok S
      → (ts : List Step) → bytes_of ts ≡ trace → EndsStuck S (channel_of code) ts → (b : ℕ) → b < boards → Says S (after S start ts) b (get_or waits b 0)
  pub elsewhere : (r.word ≡ stuck_word → ⊥) → (b : ℕ) → b < boards → get_or waits b 0 ≡ no_wait
