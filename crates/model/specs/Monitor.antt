-- Request (g), a live monitor that survives a channel change: what a run's state between calls is, the calls, and what they promise.
-- Assumes nothing.
use Rattle.std.specs.Prelude.{ℕ, ◌<◌, ◌≡◌, ◌↔◌, Bool, true, false, not, cond, ◌&&◌, ◌||◌, List, [], ◌∷◌, ◌++◌, eqb, ltb, leb, length}
use Rattle.std.proofs.Math.Option.{Option, none, some}
use Rattle.model.specs.Limits.{boards, messages_most, channels, scratch_least}
use Rattle.model.specs.Bounded.{any, how_many}
use Rattle.model.specs.Refusal.{Out, ok, refusal, channel_refusal, bench_refusal, switch_refusal}
use Rattle.model.specs.Order.{Scenario}
use Rattle.model.specs.Channel.{Channel, channel_of}
use Rattle.model.specs.Run.{State, start, Step, next, allowed, is_order_from, after, finished, stuck, IsOrder, EndsStuck, EndsFinished, CanFinish}
use Rattle.model.specs.Schedule.{step_told}
use Rattle.model.specs.Answer.{free, sheet_of, verdict_of, scratch_behind}
use Rattle.model.specs.Verdict.{Meets}

-- What a monitor holds: a run's state, and the channel code in force.
pub record Held : Type 0 where
  pub state : State
  pub code : ℕ

-- Taken (opened, stepped or switched), forbidden, or refused with number and line.
abbrev pub taken_word : ℕ
taken_word = 0

abbrev pub forbidden_word : ℕ
forbidden_word = 1

abbrev pub refused_word : ℕ
refused_word = 2

-- The refusals of a call with a code, as the sheet's own come behind 1 and 2: no trace is lent.
unfoldable pub watchable : List ℕ → ℕ → ℕ → Out Scenario
watchable text code scratch_length =
    cond (ltb code channels)
    (cond (ltb scratch_length scratch_least) (refusal bench_refusal 0) (sheet_of text))
    (refusal channel_refusal 0)

-- a switch to the code is refused in the state (14): to an eager code while some board holds two or more messages, or to code 5 while two
-- or more are under way
unfoldable pub is_barred : ℕ → State → Bool
is_barred code s =
    ((channel_of code).eager && any boards (λ b. leb 2 (how_many messages_most (s.holds b))))
    || (eqb code 5 && leb 2 (how_many messages_most s.under_way))

-- 14 comes behind all others
unfoldable pub switchable : List ℕ → ℕ → ℕ → State → Out Scenario
switchable text code scratch_length s =
    elim (watchable text code scratch_length) [
      | ok S ↦ cond (is_barred code s) (refusal switch_refusal 0) (ok S)
      | refusal number line ↦ refusal number line
    ]

-- A call to an opened monitor, with the length of the scratch lent: a step by its code and its message, or a switch to a channel code.
pub data Call : Type 0 where
  step : ℕ → ℕ → ℕ → Call
  switch : ℕ → ℕ → Call

module _ (S : Scenario) where
  -- the step told may be taken under the code in force; a wrong step code is no step, and an unknown message is forbidden by the rule
  unfoldable pub may_take : Held → Option Step → Bool
  may_take h none = false
  may_take h (some t) = allowed S (channel_of h.code) h.state t

  -- the state behind it
  unfoldable pub taking : Held → Option Step → Held
  taking h none = h
  taking h (some t) = record { state = next S h.state t; code = h.code }

  -- the word of a call: a step is refused for the scratch, a switch for its code, the scratch or 14
  unfoldable pub word_to : Held → Call → ℕ
  word_to h (step kind m scratch_length) =
      cond (ltb scratch_length scratch_least) refused_word (cond (may_take h (step_told kind m)) taken_word forbidden_word)
  word_to h (switch code scratch_length) =
      cond (ltb code channels && not (ltb scratch_length scratch_least) && not (is_barred code h.state)) taken_word refused_word

  -- what it would leave; on a switch the state passes over whole
  unfoldable pub leaving : Held → Call → Held
  leaving h (step kind m scratch_length) = taking h (step_told kind m)
  leaving h (switch code scratch_length) = record { state = h.state; code = code }

  -- forbidden steps and refusals leave the state as it was
  unfoldable pub behind : Held → Call → Held
  behind h c = cond (eqb (word_to h c) taken_word) (leaving h c) h

  -- what is held behind a list of calls, and the words that they answer
  unfoldable pub held_from : Held → List Call → Held
  held_from h [] = h
  held_from h (c ∷ cs) = held_from (behind h c) cs

  unfoldable pub words_from : Held → List Call → List ℕ
  words_from h [] = []
  words_from h (c ∷ cs) = word_to h c ∷ words_from (behind h c) cs

-- the state that a monitor is opened with, under a code
abbrev pub fresh : ℕ → Held
fresh code = record { state = start; code = code }

-- What a log of calls and the words that they answered says: the steps that were taken, in their order ..
unfoldable pub step_taken : Call → ℕ → List Step
step_taken (step kind m scratch_length) word = elim (cond (eqb word taken_word) (step_told kind m) none) [ none ↦ [] | some t ↦ t ∷ [] ]
step_taken (switch code scratch_length) word = []

unfoldable pub steps_taken : List Call → List ℕ → List Step
steps_taken [] words = []
steps_taken (c ∷ cs) [] = []
steps_taken (c ∷ cs) (word ∷ words) = step_taken c word ++ steps_taken cs words

-- .. and whether no switch to another code was taken: one that was refused, or one to the code itself, is none
unfoldable pub is_switch : ℕ → Call → ℕ → Bool
is_switch code (step kind m scratch_length) word = false
is_switch code (switch other scratch_length) word = eqb word taken_word && not (eqb other code)

unfoldable pub stays_on : ℕ → List Call → List ℕ → Bool
stays_on code [] words = true
stays_on code (c ∷ cs) [] = true
stays_on code (c ∷ cs) (word ∷ words) = not (is_switch code c word) && stays_on code cs words

-- from a state allowed steps, none or more, consume all
abbrev pub CanFinishFrom : Scenario → Channel → State → Type 0
CanFinishFrom S c s = (more : List Step) × (is_order_from S c s more ≡ true) × (finished S (after S s more) ≡ true)

-- What is held is the state of a run without a switch: the steps are an allowed order under the code, and point 3 speaks of it.
pub record RunOf (S : Scenario) (code : ℕ) (ts : List Step) (h : Held) : Type 0 where
  pub is_order : IsOrder S (channel_of code) ts
  pub reached : h ≡ record { state = after S start ts; code = code }
  -- finished, stuck, or to be carried on until all is consumed, exactly if that order is
  pub is_finished : (finished S h.state ≡ true) ↔ EndsFinished S (channel_of code) ts
  pub is_stuck : (stuck S (channel_of h.code) h.state ≡ true) ↔ EndsStuck S (channel_of code) ts
  pub can_finish : CanFinishFrom S (channel_of h.code) h.state ↔ CanFinish S (channel_of code) ts
  -- which it always can where the check says free
  pub goes_on : verdict_of S code ≡ free → CanFinish S (channel_of code) ts

-- What a call hands back: its word, the refusal's number and line where it is refused, and the monitor to go on with.
pub record MonitorAnswer (M : Type 0) : Type 0 where
  pub word : ℕ
  pub one : ℕ
  pub two : ℕ
  pub next : M

-- What the calls give, for monitors M: `held` reads the state and the code of one, `words_of` gives the one that C sees for them, bit by bit, and
-- `zeros` the one of all zeros but for the code.
module _ {M : Type 0} (held : M → Held) (words_of : Held → M) (zeros : ℕ → M) where
  -- An opening: all zeros with the code; refused, with code 0.
  pub record Opened (text : List ℕ) (code : ℕ) (scratch scratch_exit : List ℕ) (r : MonitorAnswer M) : Type 0 where
    pub refused_when : (number line : ℕ) → watchable text code (length scratch) ≡ refusal number line
        → r ≡ record { word = refused_word; one = number; two = line; next = zeros 0 }
    pub opened_when : (S : Scenario) → watchable text code (length scratch) ≡ ok S
        → r ≡ record { word = taken_word; one = 0; two = 0; next = zeros code }
    pub causal_order : (S : Scenario) → watchable text code (length scratch) ≡ ok S → Meets text S
    pub scratch_left : scratch_exit ≡ scratch_behind (watchable text code (length scratch)) scratch

  -- This answer, and the monitor handed back, are what the rules say of a call to a monitor m that holds h.
  pub record ByTheRules (S : Scenario) (h : Held) (m : M) (c : Call) (r : MonitorAnswer M) : Type 0 where
    pub word : r.word ≡ word_to S h c
    -- the monitor is that of the state: every bit of it, those that stand for no message of the sheet too
    pub monitor : r.next ≡ words_of (behind S h c)
    -- a call that is taken names no number
    pub taken : r.word ≡ taken_word → (r.one ≡ 0) × (r.two ≡ 0)
    -- a step that the rule forbids leaves the monitor as it was, bit for bit
    pub forbidden : r.word ≡ forbidden_word → r ≡ record { word = forbidden_word; one = 0; two = 0; next = m }

  -- For any monitor and text the refusals and the scratch are claimed, and more only of a monitor that some list of calls with that text
  -- has left, from one opened under a code.
  pub record Stepped (m : M) (kind message : ℕ) (text scratch scratch_exit : List ℕ) (r : MonitorAnswer M) : Type 0 where
    pub refused_when : (number line : ℕ) → watchable text (held m).code (length scratch) ≡ refusal number line
        → r ≡ record { word = refused_word; one = number; two = line; next = m }
    pub refused_only : (S : Scenario) → watchable text (held m).code (length scratch) ≡ ok S → r.word ≡ refused_word → ⊥
    pub scratch_left : scratch_exit ≡ scratch_behind (watchable text (held m).code (length scratch)) scratch
    pub by_the_rules : (S : Scenario) (code : ℕ) (cs : List Call) → sheet_of text ≡ ok S → code < channels
        → m ≡ words_of (held_from S (fresh code) cs)
        → ByTheRules S (held_from S (fresh code) cs) m (step kind message (length scratch)) r

  pub record Switched (m : M) (code : ℕ) (text scratch scratch_exit : List ℕ) (r : MonitorAnswer M) : Type 0 where
    pub refused_when : (number line : ℕ) → switchable text code (length scratch) (held m).state ≡ refusal number line
        → r ≡ record { word = refused_word; one = number; two = line; next = m }
    pub refused_only : (S : Scenario) → switchable text code (length scratch) (held m).state ≡ ok S → r.word ≡ refused_word → ⊥
    pub scratch_left : scratch_exit ≡ scratch_behind (switchable text code (length scratch) (held m).state) scratch
    pub by_the_rules : (S : Scenario) (first : ℕ) (cs : List Call) → sheet_of text ≡ ok S → first < channels
        → m ≡ words_of (held_from S (fresh first) cs)
        → ByTheRules S (held_from S (fresh first) cs) m (switch code (length scratch)) r

  -- A session: a monitor is opened with a text and a code, and then called with that same text, each time as the last call left it. The
  -- calls, and the words that they answered.
  pub data Session (text : List ℕ) (code : ℕ) : List Call → List ℕ → M → Type 0 where
    opening : {scratch scratch_exit : List ℕ} {r : MonitorAnswer M} → Opened text code scratch scratch_exit r → r.word ≡ taken_word
        → Session text code [] [] r.next
    stepping : {cs : List Call} {words : List ℕ} {m : M} {kind message : ℕ} {scratch scratch_exit : List ℕ} {r : MonitorAnswer M}
        → Session text code cs words m → Stepped m kind message text scratch scratch_exit r
        → Session text code (cs ++ (step kind message (length scratch) ∷ [])) (words ++ (r.word ∷ [])) r.next
    switching : {cs : List Call} {words : List ℕ} {m : M} {to : ℕ} {scratch scratch_exit : List ℕ} {r : MonitorAnswer M}
        → Session text code cs words m → Switched m to text scratch scratch_exit r
        → Session text code (cs ++ (switch to (length scratch) ∷ [])) (words ++ (r.word ∷ [])) r.next

  -- What is so of whole lists of calls.
  pub record WholeList (text : List ℕ) (code : ℕ) (S : Scenario) (cs : List Call) (words : List ℕ) (m : M) : Type 0 where
    pub is_sheet : sheet_of text ≡ ok S
    pub causal_order : Meets text S
    -- the state held is that of the step rules, each step under the code in force, bit by bit, and so are the answers
    pub state : held m ≡ held_from S (fresh code) cs
    pub monitor : m ≡ words_of (held_from S (fresh code) cs)
    pub answers : words ≡ words_from S (fresh code) cs
    -- where no switch to another code was taken, it is that of the steps answered "taken", an allowed order under that code
    pub an_order : stays_on code cs words ≡ true → RunOf S code (steps_taken cs words) (held m)

-- One theorem, of every list of steps and switches from an opened monitor with that same text.
abbrev pub WholeLists : {M : Type 0} → (M → Held) → (Held → M) → (ℕ → M) → Type 0
WholeLists {M} held words_of zeros = (text : List ℕ) (code : ℕ) (cs : List Call) (words : List ℕ) (m : M)
    → Session held words_of zeros text code cs words m → (S : Scenario) × WholeList held words_of zeros text code S cs words m
