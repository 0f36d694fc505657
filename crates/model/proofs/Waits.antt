-- Request (f): an event is ready exactly if its readiness says so, in every state; and each of the 16 numbers is right in the state that
-- a stuck order leaves. Assumes nothing.
use Prim.Native.Nat.{ℕ, zero, suc, ◌*◌, ◌<◌, ◌≤◌}
use native.Mathlib.Omega.{arith}
use native.Mathlib.Decide.{dec_lt}
use mathlib.Core.Path.{◌≡◌, refl, sym, ◌∙◌, ap, subst, subst⁻¹}
use mathlib.Core.Logic.{⊎_elim, ◌↔◌}
use mathlib.Core.Bool.{Bool, true, false, not, cond, ◌&&◌, ◌||◌}
use mathlib.Core.List.{List, [], ◌∷◌, ◌++◌}
use mathlib.Core.Option.{Option, none, some}
use borrow.Author.Tests.{eqb-true, eq-eqb, lt-leb}
use lib.Dec.{eqb}
use lib.ListN.{length, get_or, length-append, get_or-append}
use lib.Seq.{get_or-append_seam}
use Rattle.model.specs.Limits.{boards, messages_most}
use Rattle.model.specs.Bounded.{lowest}
use Rattle.model.specs.Refusal.{Out, ok, refusal}
use Rattle.model.specs.Order.{Event, receive_of, number, event, board_of, board, Scenario}
use Rattle.model.specs.Channel.{channel_of}
use Rattle.model.specs.Run.{State, start, Step, next, every_event, is_ahead, ready, after, EndsStuck}
use Rattle.model.specs.Schedule.{bytes_of}
use Rattle.model.specs.Replay.{Replay, finishes, sticks, open', not_allowed, refused, steps_in, replay, replayable, replay_for, replay_of, ReplayNumbers, replay_numbers, stuck_word, Replayed}
use Rattle.model.specs.Waits.{Readiness, is_ready, is_done, waits_for, no_wait, waited, holds_up, readiness, unready_in, wait_of, end_from, each_board, wait_by, wait_for, waits_of, WaitsFor, Says, TraceChecked}
use Rattle.model.proofs.Bounded.{and_left, and_right, and_both, which, not_both, not_is_true, IsLowest, lowest_none, lowest_some}
use Rattle.model.proofs.Events.{event_number, below_number, below_event}
use Rattle.model.proofs.Rules.{every_event_at, every_event_from}
use Rattle.model.proofs.Phases.{view}
use Rattle.model.proofs.Trace.{told_back}
use Rattle.model.proofs.Accepted.{sheet_causal, sheet_count}
use Rattle.model.proofs.Orders.{reached_from_start}
use Rattle.model.proofs.Replay.{replay_parts}

-- what the fuller answer says to the question "is it ready"
abbrev pub ready_of : Readiness → Bool
ready_of is_ready = true
ready_of is_done = false
ready_of (waits_for k) = false

passed : (a d : Bool) → (a && not d) ≡ false → (not a || d) ≡ true
passed false d h = refl
passed true true h = refl
passed true false h = sym h

left : (a d : Bool) → (a && not d) ≡ true → (not a || d) ≡ false
left true false h = refl
left true true h = sym h
left false d h = absurd (not_both (false && not d) h refl)

module _ (S : Scenario) (s : State) where
  -- every event before x on its board is done, or the lowest that is not is found
  module _ (x : Event) where
    abbrev settled : Bool
    settled = every_event S (λ y. not (is_ahead S y x) || s.done y)

    none_left : lowest (2 * S.count) (holds_up S s x) ≡ none → settled ≡ true
    unfolding holds_up
    none_left h =
        every_event_from S (λ y. not (is_ahead S y x) || s.done y) (λ y l.
        passed (is_ahead S y x) (s.done y)
        (subst (λ (z : Event). (is_ahead S z x && not (s.done z)) ≡ false) (event_number y)
        (lowest_none (2 * S.count) (holds_up S s x) h (number y) ((below_number y S.count).0 l))))

    some_left : (k : ℕ) → IsLowest (2 * S.count) (holds_up S s x) k → settled ≡ false
    unfolding holds_up
    some_left k L =
        ⊎_elim
        (λ (t : settled ≡ true).
        not_both (not (is_ahead S (event k) x) || s.done (event k))
        (every_event_at S (λ y. not (is_ahead S y x) || s.done y) t (event k) (below_event k S.count L.below))
        (left (is_ahead S (event k) x) (s.done (event k)) L.passes))
        (λ f. f)
        (which settled)

    pub ready_reads : ready S s x ≡ ready_of (readiness S s x)
    unfolding ready readiness
    ready_reads = go (s.done x) refl (lowest (2 * S.count) (holds_up S s x)) refl
      where
        go : (d : Bool) → s.done x ≡ d → (o : Option ℕ) → lowest (2 * S.count) (holds_up S s x) ≡ o
            → (not (s.done x) && settled)
            ≡ ready_of (cond (s.done x) is_done (elim (lowest (2 * S.count) (holds_up S s x)) [ none ↦ is_ready | some k ↦ waits_for k ]))
        go true d o e = rw d
        go false d none e = rw (d, e, none_left e)
        go false d (some k) e = rw (d, e, some_left k (lowest_some (2 * S.count) (holds_up S s x) k e))

    -- The law of the request: an event is ready exactly if the fuller answer is that it is ready.
    pub ready_exactly : (ready S s x ≡ true) ↔ (readiness S s x ≡ is_ready)
    ready_exactly = (λ t. go (readiness S s x) (sym ready_reads ∙ t), λ e. ready_reads ∙ ap ready_of e)
      where
        go : (r : Readiness) → ready_of r ≡ true → r ≡ is_ready
        go is_ready h = refl
        go is_done h = absurd (not_both false h refl)
        go (waits_for k) h = absurd (not_both false h refl)

    -- an event that is neither done nor ready waits for the lowest that holds it up
    pub waits_lowest : s.done x ≡ false → ready S s x ≡ false
        → (k : ℕ) × (readiness S s x ≡ waits_for k) × IsLowest (2 * S.count) (holds_up S s x) k
    unfolding readiness
    waits_lowest d f = go (lowest (2 * S.count) (holds_up S s x)) refl
      where
        go : (o : Option ℕ) → lowest (2 * S.count) (holds_up S s x) ≡ o → (k : ℕ) × (readiness S s x ≡ waits_for k) × IsLowest (2 * S.count) (holds_up S s x) k
        go none e = absurd (not_both (ready S s x) (ready_exactly.1 (rw (d, e))) f)
        go (some k) e = (k, rw (d, e), lowest_some (2 * S.count) (holds_up S s x) k e)

-- In a state of phases a message held is in its receiver's buffer, and its receive is not done.
module _ (S : Scenario) (φ : ℕ → ℕ) (few : S.count ≤ messages_most) (b : ℕ) where
  abbrev s : State
  s = view S φ

  held_at : (m : ℕ) → s.holds b m ≡ true → b ≡ S.target m
  held_at m h = eqb-true b (S.target m) (and_left (eqb b (S.target m)) (eqb (φ m) 2) h)

  held_undone : (m : ℕ) → s.holds b m ≡ true → s.done (receive_of m) ≡ false
  held_undone m h =
      let two : φ m ≡ 2 = eqb-true (φ m) 2 (and_right (eqb b (S.target m)) (eqb (φ m) 2) h) in
      lt-leb 3 (φ m) (omega arith)

  ready_held : (m : ℕ) → unready_in S s b m ≡ false → s.holds b m ≡ true → ready S s (receive_of m) ≡ true
  unfolding unready_in
  ready_held m f h =
      ⊎_elim (λ t. t)
      (λ (n : ready S s (receive_of m) ≡ false). not_both (unready_in S s b m) (and_both (s.holds b m) (not (ready S s (receive_of m))) h (not_is_true (ready S s (receive_of m)) n)) f)
      (which (ready S s (receive_of m)))

  -- what the lowest message whose receive is unready waits for
  module _ (m : ℕ) (L : IsLowest S.count (unready_in S s b) m) where
    held : s.holds b m ≡ true
    unfolding unready_in
    held = and_left (s.holds b m) (not (ready S s (receive_of m))) L.passes

    unready : ready S s (receive_of m) ≡ false
    unfolding unready_in
    unready =
        ⊎_elim
        (λ (t : ready S s (receive_of m) ≡ true). not_both (not (ready S s (receive_of m))) (and_right (s.holds b m) (not (ready S s (receive_of m))) L.passes) (ap not t))
        (λ f. f)
        (which (ready S s (receive_of m)))

    waits : (k : ℕ) → IsLowest (2 * S.count) (holds_up S s (receive_of m)) k → WaitsFor S s b m k
    unfolding holds_up is_ahead board_of
    waits k K =
        let ahead : is_ahead S (event k) (receive_of m) ≡ true = and_left (is_ahead S (event k) (receive_of m)) (not (s.done (event k))) K.passes in
        record {
          message = L.below;
          held = held;
          unready = unready;
          lowest_message = λ j l. ready_held j (L.first j l);
          is_event = K.below;
          on_board =
              eqb-true (board S (event k)) (S.target m) (and_right (S.before (event k) (receive_of m)) (eqb (board S (event k)) (S.target m)) ahead)
              ∙ sym (held_at m held);
          before = and_left (S.before (event k) (receive_of m)) (eqb (board S (event k)) (S.target m)) ahead;
          outstanding =
              ⊎_elim
              (λ (t : s.done (event k) ≡ true). not_both (not (s.done (event k))) (and_right (is_ahead S (event k) (receive_of m)) (not (s.done (event k))) K.passes) (ap not t))
              (λ f. f)
              (which (s.done (event k)));
          lowest_event = λ j l t o.
              ⊎_elim (λ d. d)
              (λ (f : s.done (event j) ≡ false).
              not_both (holds_up S s (receive_of m) j)
              (and_both (is_ahead S (event j) (receive_of m)) (not (s.done (event j)))
              (and_both (S.before (event j) (receive_of m)) (eqb (board S (event j)) (S.target m)) t (eq-eqb (board S (event j)) (S.target m) (o ∙ held_at m held)))
              (not_is_true (s.done (event j)) f))
              (K.first j l))
              (which (s.done (event j)));
        }

  says_nothing : lowest S.count (unready_in S s b) ≡ none → Says S s b no_wait
  says_nothing e =
      record {
        most = omega arith;
        nothing = (λ i m l. ready_held m (lowest_none S.count (unready_in S s b) e m l), λ h. refl);
        something = λ l. absurd (omega arith);
      }

  says_event : (m k : ℕ) → WaitsFor S s b m k → Says S s b k
  says_event m k W =
      record {
        most = omega (arith, W.is_event);
        nothing = (λ i. absurd (omega (arith, W.is_event)), λ h. not_both (ready S s (receive_of m)) (h m W.message W.held) W.unready);
        something = λ l. (m, W);
      }

  pub wait_says : Says S s b (wait_of S s b)
  unfolding wait_of
  wait_says = go (lowest S.count (unready_in S s b)) refl
    where
      go : (o : Option ℕ) → lowest S.count (unready_in S s b) ≡ o
          → Says S s b (elim (lowest S.count (unready_in S s b)) [ none ↦ no_wait | some m ↦ waited (readiness S s (receive_of m)) ])
      go none e = rw e (says_nothing e)
      go (some m) e =
          let L = lowest_some S.count (unready_in S s b) m e in
          let w = waits_lowest S s (receive_of m) (held_undone m (held m L)) (unready m L) in
          rw (e, w.1) (says_event m w.0 (waits m L w.0 w.2))

-- the numbers, board by board
pub boards_length : (n : ℕ) (f : ℕ → ℕ) → length (each_board n f) ≡ n
unfolding each_board
boards_length zero f = refl
boards_length (suc n) f = simp length-append (omega (arith, boards_length n f))

pub board_at : (n : ℕ) (f : ℕ → ℕ) (b : ℕ) → b < n → get_or (each_board n f) b 0 ≡ f b
unfolding each_board
board_at zero f b l = absurd (omega arith)
board_at (suc n) f b l = go (dec_lt b n) (board_at n f b)
  where
    go : Dec (b < n) → (b < n → get_or (each_board n f) b 0 ≡ f b) → get_or (each_board n f ++ (f n ∷ [])) b 0 ≡ f b
    go (yes h) rest = get_or-append (each_board n f) (f n ∷ []) 0 b (omega (arith, boards_length n f)) ∙ rest h
    go (no h) rest =
        let last : b ≡ length (each_board n f) = omega (arith, boards_length n f) in
        let same : b ≡ n = omega arith in
        rw last (get_or-append_seam (each_board n f) (f n) [] 0) ∙ ap f (sym same)

-- the steps that an order's bytes tell lead where the order leads
end_after : (S : Scenario) (s : State) (ts : List Step) → end_from S s (steps_in (bytes_of ts)) ≡ after S s ts
unfolding end_from steps_in bytes_of after
end_after S s [] = refl
end_after S s (t ∷ ts) = rw (told_back t) (end_after S (next S s t) ts)

sticks_only : (v : Replay) → (replay_numbers v).word ≡ stuck_word → v ≡ sticks
sticks_only finishes h = absurd (omega arith)
sticks_only sticks h = refl
sticks_only open' h = absurd (omega arith)
sticks_only (not_allowed i) h = absurd (omega arith)
sticks_only (refused number line) h = absurd (omega arith)

-- What the call promises, from what it replayed and the numbers it made.
module _ (text : List ℕ) (code : ℕ) (scratch scratch_exit trace : List ℕ) (r : ReplayNumbers) (waits : List ℕ)
    (R : Replayed text code scratch scratch_exit trace r) (h : waits ≡ waits_of text code (length scratch) trace) where
  number_at : (b : ℕ) → b < boards → get_or waits b 0 ≡ wait_for (replayable text code (length scratch) (length trace)) code trace b
  unfolding waits_of
  number_at b l = ap (λ (ws : List ℕ). get_or ws b 0) h ∙ board_at boards (wait_for (replayable text code (length scratch) (length trace)) code trace) b l

  on_stuck_holds : (S : Scenario) → replayable text code (length scratch) (length trace) ≡ ok S
      → (ts : List Step) → bytes_of ts ≡ trace → EndsStuck S (channel_of code) ts → (b : ℕ) → b < boards → Says S (after S start ts) b (get_or waits b 0)
  unfolding wait_for wait_by replay_of replay_for
  on_stuck_holds S e ts t E b l =
      let p = replay_parts text code (length scratch) trace S e in
      let stuck : r.word ≡ stuck_word = (R.by_the_rules S e).stuck_when.1 (ts, t, E) in
      let verdict : (replay_numbers (replay_of text code (length scratch) trace)).word ≡ stuck_word = ap (λ (n : ReplayNumbers). n.word) (sym R.verdict) ∙ stuck in
      let sticking : replay S (channel_of code) trace ≡ sticks = sticks_only (replay S (channel_of code) trace) (rw e at verdict) in
      let reached = reached_from_start S (channel_of code) (sheet_causal text S p.2) ts E.is_order in
      let end : end_from S start (steps_in trace) ≡ after S start ts = subst (λ (l : List ℕ). end_from S start (steps_in l) ≡ after S start ts) t (end_after S start ts) in
      let told : get_or waits b 0 ≡ wait_of S (after S start ts) b = number_at b l ∙ rw (e, sticking, end) in
      subst⁻¹ (λ (n : ℕ). Says S (after S start ts) b n) told
      (subst⁻¹ (λ (u : State). Says S u b (wait_of S u b)) reached.state (wait_says S reached.phases (sheet_count text S p.2) b))

  elsewhere : (r.word ≡ stuck_word → ⊥) → (b : ℕ) → b < boards → get_or waits b 0 ≡ no_wait
  unfolding replay_of replay_for wait_for wait_by
  elsewhere n b l =
      number_at b l
      ∙ go (replayable text code (length scratch) (length trace)) (λ k. n (ap (λ (m : ReplayNumbers). m.word) R.verdict ∙ k))
    where
      by : (v : Replay) (S : Scenario) (s : State) → ((replay_numbers v).word ≡ stuck_word → ⊥) → wait_by v S s b ≡ no_wait
      by finishes S s k = refl
      by sticks S s k = absurd (k refl)
      by open' S s k = refl
      by (not_allowed i) S s k = refl
      by (refused number line) S s k = refl

      go : (o : Out Scenario) → ((replay_numbers (replay_for o code trace)).word ≡ stuck_word → ⊥) → wait_for o code trace b ≡ no_wait
      go (ok S) k = by (replay S (channel_of code) trace) S (end_from S start (steps_in trace)) k
      go (refusal number line) k = refl

  pub traced : TraceChecked text code scratch scratch_exit trace r waits
  traced = record { replayed = R; numbers = h; on_stuck = on_stuck_holds; elsewhere = elsewhere }
