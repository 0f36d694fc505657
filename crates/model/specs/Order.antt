-- "Expansion": events, the exchange that a walk meets, and the causal order "before" (Mitchell, definition 2.3).
-- Assumes nothing.
use Rattle.std.specs.Prelude.{ℕ, suc, ◌+◌, ◌*◌, ◌/◌, ◌%◌, ◌≡◌, Bool, true, false, cond, ◌&&◌, ◌||◌, List, [], ◌∷◌, ◌++◌, eqb, ltb, get_or}
use Rattle.model.specs.Closure.{listed, reads, linked}
use Rattle.model.specs.Expansion.{Ops, Progress}

-- message m has the send 2m and the receive 2m + 1
pub data Event : Type 0 where
  send_of : ℕ → Event
  receive_of : ℕ → Event

unfoldable pub number : Event → ℕ
number (send_of m) = 2 * m
number (receive_of m) = 2 * m + 1

unfoldable pub event : ℕ → Event
event k = cond (eqb (k % 2) 0) (send_of (k / 2)) (receive_of (k / 2))

-- the message of an event
unfoldable pub message_of : Event → ℕ
message_of (send_of m) = m
message_of (receive_of m) = m

-- What the walk of an accepted sheet meets: its messages, the boards and the block of each, and the P rows over its events.
pub record Exchange : Type 0 where
  pub count : ℕ
  pub source : ℕ → ℕ
  pub target : ℕ → ℕ
  pub block : ℕ → ℕ
  pub ordered : Event → Event → Bool

unfoldable pub board_of : (ℕ → ℕ) → (ℕ → ℕ) → Event → ℕ
board_of source target (send_of m) = source m
board_of source target (receive_of m) = target m

-- a message's own send and receive, of the first n messages
unfoldable pub is_own : ℕ → Event → Event → Bool
is_own n (send_of m) (send_of k) = false
is_own n (send_of m) (receive_of k) = eqb m k && ltb m n
is_own n (receive_of m) y = false

module _ (E : Exchange) where
  -- the event is one of the exchange's
  unfoldable pub is_event : Event → Bool
  is_event x = ltb (message_of x) E.count

  -- two events of one board, of an earlier and a later walked block
  unfoldable pub is_earlier : Event → Event → Bool
  is_earlier x y =
      is_event x && is_event y && eqb (board_of E.source E.target x) (board_of E.source E.target y)
      && ltb (E.block (message_of x)) (E.block (message_of y))

  -- "Before" is the least transitive relation with: the P rows; each send before its receive; on each board, every event
  -- of an earlier walked block before every event of a later one
  pub data Before : Event → Event → Type 0 where
    row : {x y : Event} → E.ordered x y ≡ true → Before x y
    own : {x y : Event} → is_own E.count x y ≡ true → Before x y
    earlier : {x y : Event} → is_earlier x y ≡ true → Before x y
    link : {x y z : Event} → Before x y → Before y z → Before x z

-- the sources of "before"
unfoldable pub direct : Exchange → Event → Event → Bool
direct E x y = E.ordered x y || is_own E.count x y || is_earlier E x y

-- "before" as a computed table over the event numbers
unfoldable pub before_table : Exchange → List (List Bool)
before_table E = linked (2 * E.count) (λ x y. direct E (event x) (event y)) (2 * E.count)

-- The scenario: the messages, their boards, and the test "before". The step rules, the races and the schedule read no more.
pub record Scenario : Type 0 where
  pub count : ℕ
  pub source : ℕ → ℕ
  pub target : ℕ → ℕ
  pub before : Event → Event → Bool

unfoldable pub scenario_of : Exchange → Scenario
scenario_of E =
    let t = before_table E in
    record { count = E.count; source = E.source; target = E.target; before = λ x y. reads t (number x) (number y) }

-- the board of an event
abbrev pub board : Scenario → Event → ℕ
board S x = board_of S.source S.target x

-- "at or before" adds equality
unfoldable pub at_or_before : Scenario → Event → Event → Bool
at_or_before S x y = eqb (number x) (number y) || S.before x y

-- What the walk collects for the exchange: the board of each event, the block of each message, the P rows by event number,
-- and the number of the open block.
pub record Met : Type 0 where
  pub events : List ℕ
  pub blocks : List ℕ
  pub orders : List (ℕ × ℕ)
  pub open' : ℕ

abbrev pub nothing_met : Met
nothing_met = record { events = []; blocks = []; orders = []; open' = 0 }

unfoldable pub met_ops : Ops Met
met_ops =
    record {
      with_message = λ w a b m. record { events = m.events ++ (a ∷ b ∷ []); blocks = m.blocks ++ (m.open' ∷ []); orders = m.orders; open' = m.open' };
      with_order = λ w x y m. record { events = m.events; blocks = m.blocks; orders = (2 * w.first + x, 2 * w.first + y) ∷ m.orders; open' = m.open' };
      with_block = λ w m. record { events = m.events; blocks = m.blocks; orders = m.orders; open' = suc m.open' };
    }

unfoldable pub exchange_of : Progress Met → Exchange
exchange_of s =
    let m = s.kept in
    record {
      count = s.walk.count;
      source = λ k. get_or m.events (2 * k) 0;
      target = λ k. get_or m.events (2 * k + 1) 0;
      block = λ k. get_or m.blocks k 0;
      ordered = λ x y. listed (number x) (number y) m.orders;
    }
