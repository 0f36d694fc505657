-- The search for the event that a board waits for, message by message, and board by board. Assumes nothing.
use mathlib.Core.Path.{◌≡◌, refl, sym, ◌∙◌, ap, subst, subst⁻¹}
use mathlib.Core.Bool.{Bool, true, false, not, cond, ◌&&◌}
use mathlib.Core.List.{List, [], ◌∷◌}
use mathlib.Core.Option.{Option, none, some}
use Prim.Native.Nat.{ℕ, ◌+◌, ◌*◌, ◌<◌, ◌≤◌}
use native.Mathlib.Omega.{arith}
use native.Mathlib.Decide.{ℕ_discrete, dec_lt}
use borrow.Author.Tests.{not-true, not-false}
use mir.Val.{Fits}
use mir.Syntax.{w16}
use lib.ListN.{length, get_or, set, replicate, length-set}
use lib.Seq.{ext_get_or, get_or-set_same, get_or-set_other}
use Rattle.model.specs.Limits.{boards}
use Rattle.model.specs.Bounded.{lowest}
use Rattle.model.specs.Order.{Event, receive_of, Scenario}
use Rattle.model.specs.Run.{State, ready}
use Rattle.model.specs.Waits as waits
use Rattle.model.specs.Waits.{is_ready, is_done, waits_for, no_wait, waited, holds_up, readiness, unready_in, wait_of, each_board}
use Rattle.model.proofs.Bounded.{not_both, lowest_hit, lowest_some, lowest_nowhere}
use Rattle.model.proofs.Events.{receive_event}
use Rattle.model.proofs.Waits.{ready_of, ready_reads, boards_length, board_at}
use Rattle.relation.specs.Width.{width}
use Rattle.relation.specs.Rows.{holds}
use Rattle.relation.specs.Scenario.{scenario_in}
use Rattle.board.specs.Masks.{Standing}
use Rattle.run.specs.declared.Buffer.{Buffer}
use Rattle.run.specs.declared.Run.{Run}
use Rattle.run.specs.State.{buffer_of, state_of}
use Rattle.readiness.specs.declared.Readiness.{Readiness}
use Rattle.readiness.specs.declared.Readiness.TheVariants.{Ready, Done, Waits}
use Rattle.readiness.specs.Says.{readiness_in, SaysReadiness}
use Rattle.next_message.specs.Next.{next_in}
use Rattle.next_message.proofs.InRow.{next_absent}
use Rattle.waits.specs.Bridge.{held_readiness, OfBoards, SaysHeld, SaysWait}

-- a message in the state, by the readiness of its receive
module _ (S : Scenario) (s : State) (b m : ℕ) where
  unready_is : unready_in S s b m ≡ not (ready_of (held_readiness S s b m))
  unfolding unready_in
  unready_is = go (s.holds b m)
    where
      go : (h : Bool) → (h && not (ready S s (receive_of m))) ≡ not (ready_of (cond h (readiness S s (receive_of m)) is_ready))
      go false = refl
      go true = ap not (ready_reads S s (receive_of m))

  held_is : (r : waits.Readiness) → r ≡ held_readiness S s b m → ready_of r ≡ false → readiness S s (receive_of m) ≡ r
  held_is r e f = go (s.holds b m) e
    where
      go : (h : Bool) → r ≡ cond h (readiness S s (receive_of m)) is_ready → readiness S s (receive_of m) ≡ r
      go false i = absurd (not_both (ready_of r) (ap ready_of i) f)
      go true i = sym i

  -- the lowest message whose receive is unready decides
  decides : (r : waits.Readiness) → r ≡ held_readiness S s b m → ready_of r ≡ false → lowest m (unready_in S s b) ≡ none → m < S.count → waited r ≡ wait_of S s b
  unfolding wait_of
  decides r e f n l =
      let hit : lowest S.count (unready_in S s b) ≡ some m = lowest_hit S.count m (unready_in S s b) n (unready_is ∙ ap not (ap ready_of (sym e) ∙ f)) l in
      subst⁻¹ (λ (o : Option ℕ). waited r ≡ elim o [ none ↦ no_wait | some j ↦ waited (readiness S s (receive_of j)) ]) hit (ap waited (sym (held_is r e f)))

nobody : (S : Scenario) (s : State) (b : ℕ) → lowest S.count (unready_in S s b) ≡ none → no_wait ≡ wait_of S s b
unfolding wait_of
nobody S s b n = subst⁻¹ (λ (o : Option ℕ). no_wait ≡ elim o [ none ↦ no_wait | some j ↦ waited (readiness S s (receive_of j)) ]) n refl

-- an event that is waited for is one of the scenario's
waits_below : (S : Scenario) (s : State) (x : Event) (k : ℕ) → readiness S s x ≡ waits_for k → k < 2 * S.count
unfolding readiness
waits_below S s x k e = go (s.done x) (lowest (2 * S.count) (holds_up S s x)) refl e
  where
    go : (d : Bool) (o : Option ℕ) → lowest (2 * S.count) (holds_up S s x) ≡ o
        → cond d is_done (elim o [ none ↦ is_ready | some j ↦ waits_for j ]) ≡ waits_for k → k < 2 * S.count
    go true o i h = absurd (let n : ◌≡◌ {A = ℕ} 0 1 = cc in omega arith)
    go false none i h = absurd (let n : ◌≡◌ {A = ℕ} 0 1 = cc in omega arith)
    go false (some j) i h =
        let same : j ≡ k = cc in
        subst (λ (n : ℕ). n < 2 * S.count) same (lowest_some (2 * S.count) (holds_up S s x) j i).below

module _ (count : ℕ) (on words done : List ℕ) (buffer : Buffer) where
  abbrev S : Scenario
  S = scenario_in count on words

  -- what each return of `held_readiness` is to show
  pub not_held : (m : ℕ) (t : Bool) → not t ≡ true → t ≡ holds width buffer.held 0 (2 * m) → SaysHeld count on words done buffer m Ready
  not_held m t f h run b d e = rw (e, ← h, not-true t f)

  pub held_says : (m : ℕ) (t : Bool) (r : Readiness) → SaysReadiness count on words done (2 * m + 1) r → not t ≡ false → t ≡ holds width buffer.held 0 (2 * m)
      → SaysHeld count on words done buffer m r
  held_says m t r says f h run b d e =
      rw (e, ← h, not-false t f) (subst (λ (x : Event). readiness_in r ≡ readiness S (state_of run) x) (receive_event m) (says run d))

  -- no message below m keeps the board waiting
  pub record Passed (m : ℕ) : Type 0 where
    pub passed : (j : ℕ) → j < m → j < count → OfBoards done buffer (λ run b. unready_in S (state_of run) b j ≡ false)

  none_below : (m : ℕ) → m ≤ count → Passed m → OfBoards done buffer (λ run b. lowest m (unready_in S (state_of run) b) ≡ none)
  none_below m l P run b d e = lowest_nowhere m (unready_in S (state_of run) b) (λ j h. P.passed j h (omega arith) run b d e)

  skips : (m r : ℕ) → Passed m → r ≡ next_in buffer.held m → Passed r
  unfolding unready_in
  skips m r P n = record { passed = λ j h i. go j h i (dec_lt j m) }
    where
      go : (j : ℕ) → j < r → j < count → Dec (j < m) → OfBoards done buffer (λ run b. unready_in S (state_of run) b j ≡ false)
      go j h i (yes l) = P.passed j l i
      go j h i (no l) = λ run b d e. rw (e, next_absent buffer.held m j (omega arith) (subst (λ (k : ℕ). j < k) n h))

  pub search_begins : (r : ℕ) → r ≡ next_in buffer.held 0 → Passed r
  search_begins r n = skips 0 r (record { passed = λ j h i. absurd (omega arith) }) n

  pub finds_nobody : (m : ℕ) → Passed m → count ≤ m → SaysWait count on words done buffer no_wait
  finds_nobody m P l run b d e =
      nobody S (state_of run) b (none_below count (omega arith) (record { passed = λ j h i. P.passed j (omega arith) i }) run b d e)

  -- message m is tried
  module _ (m : ℕ) (r : Readiness) (says : SaysHeld count on words done buffer m r) where
    tried : Passed m → r ≡ Ready → Passed (m + 1)
    tried P i = record { passed = λ j h g. go j h g (ℕ_discrete j m) }
      where
        go : (j : ℕ) → j < m + 1 → j < count → Dec (j ≡ m) → OfBoards done buffer (λ run b. unready_in S (state_of run) b j ≡ false)
        go j h g (yes same) = λ run b d e.
            rw same (unready_is S (state_of run) b m ∙ ap (λ (q : waits.Readiness). not (ready_of q)) (sym (says run b d e) ∙ ap readiness_in i))
        go j h g (no other) = P.passed j (omega arith) g

    pub goes_past : (n : ℕ) → Passed m → r ≡ Ready → n ≡ next_in buffer.held (m + 1) → Passed n
    goes_past n P i next = skips (m + 1) n (tried P i) next

    pub nobody_left : Passed m → r ≡ Ready → m + 1 ≡ count → SaysWait count on words done buffer no_wait
    nobody_left P i l = finds_nobody (m + 1) (tried P i) (omega arith)

    pub finds_done : Passed m → r ≡ Done → m < count → SaysWait count on words done buffer no_wait
    finds_done P i l run b d e =
        decides S (state_of run) b m is_done (ap readiness_in (sym i) ∙ says run b d e) refl (none_below m (omega arith) P run b d e) l

    module _ (k : ℕ) (i : r ≡ Waits k) where
      pub finds_event : Passed m → m < count → SaysWait count on words done buffer k
      finds_event P l run b d e =
          decides S (state_of run) b m (waits_for k) (ap readiness_in (sym i) ∙ says run b d e) refl (none_below m (omega arith) P run b d e) l

      -- the event's number is small: some run has these parts
      pub event_fits : (masks : List ℕ) → Standing count on words masks → Fits w16 k
      event_fits masks t =
          let run : Run = record { done = done; way = []; buffers = buffer ∷ [] } in
          let inside = waits_below S (state_of run) (receive_of m) k (held_is S (state_of run) 0 m (waits_for k) (ap readiness_in (sym i) ∙ says run 0 refl refl) refl) in
          record { fits = omega (arith, inside, t.few) }

-- the boards that are answered
pub record Answered (f : ℕ → ℕ) (b : ℕ) (row : List ℕ) : Type 0 where
  pub within : b ≤ boards
  pub long : length row ≡ boards
  pub each : (j : ℕ) → j < b → get_or row j 0 ≡ f j

module _ (count : ℕ) (on words : List ℕ) (run : Run) where
  abbrev f : ℕ → ℕ
  f = wait_of (scenario_in count on words) (state_of run)

  pub answered_none : Answered f 0 (replicate boards no_wait)
  answered_none = record { within = omega arith; long = refl; each = λ j h. absurd (omega arith) }

  pub answered_more : (b : ℕ) (row : List ℕ) (w : ℕ) → Answered f b row → SaysWait count on words run.done (buffer_of run b) w → b < boards
      → Answered f (b + 1) (set row b w)
  answered_more b row w A says l =
      record {
        within = omega arith;
        long = simp length-set A.long;
        each = λ j h. go j h (ℕ_discrete j b);
      }
    where
      go : (j : ℕ) → j < b + 1 → Dec (j ≡ b) → get_or (set row b w) j 0 ≡ f j
      go j h (yes same) = rw same (get_or-set_same row b w 0 (omega (arith, A.long)) ∙ says run b refl refl)
      go j h (no other) = get_or-set_other row b j w 0 other ∙ A.each j (omega arith)

  pub answered_all : (b : ℕ) (row : List ℕ) → Answered f b row → boards ≤ b → row ≡ each_board boards f
  answered_all b row A l =
      ext_get_or 0 row (each_board boards f) (A.long ∙ sym (boards_length boards f)) (λ j h.
      let inside : j < boards = omega (arith, A.long) in
      A.each j (omega arith) ∙ sym (board_at boards f j inside))
