-- The steps of a trace, one after the other. Assumes nothing.
use mathlib.Core.Path.{◌≡◌, refl, sym, ◌∙◌, ap, ap₂, subst, subst₂}
use mathlib.Core.Bool.{Bool, true, false, not, cond}
use mathlib.Core.List.{List, [], ◌∷◌}
use mathlib.Core.Option.{Option, none, some}
use Prim.Native.Nat.{ℕ, zero, suc, ◌+◌, ◌*◌, ◌/◌, ◌%◌, ◌<◌, ◌≤◌}
use native.Mathlib.Omega.{arith}
use native.Mathlib.Decide.{dec_lt}
use borrow.Author.Tests.{not-true, not-false, lt-ltb, le-ltb}
use lib.ListN.{length, get_or, set, drop, replicate, drop_of_length-le}
use mir.Val.{Fits}
use mir.Syntax.{w64}
use Rattle.model.specs.Limits.{boards, messages_most, trace_least}
use Rattle.model.specs.Order.{Scenario}
use Rattle.model.specs.Run.{State, start, Step, next}
use Rattle.model.specs.Schedule.{message_of_step, step_told}
use Rattle.model.specs.Channel as model-channel
use Rattle.model.specs.Replay as model
use Rattle.model.specs.Replay.{finishes, sticks, open', not_allowed, steps_in, standing, replay_from, replay}
use Rattle.model.specs.Waits.{no_wait, wait_of, end_from, each_board, wait_by}
use Rattle.model.proofs.Trace.{two_more}
use Rattle.relation.specs.Scenario.{scenario_in}
use Rattle.channel_table.specs.declared.Channel.{Channel}
use Rattle.channel_table.specs.Table.{channel_in}
use Rattle.board.specs.Boards.{boards_most}
use Rattle.board.specs.Masks.{Standing}
use Rattle.run.specs.declared.Buffer.{Buffer}
use Rattle.run.specs.declared.Run.{Run}
use Rattle.std.specs.Prelude as prelude
use Rattle.step.specs.declared.Step as code
use Rattle.step.specs.Steps.{step_in, message_in, step_or_none}
use Rattle.run.specs.State.{state_of, Starts, Reaches, BoardAt, TargetOf}
use Rattle.run.proofs.States.{buffer_read, reaches}
use Rattle.next_state.specs.Behind.{DoneBehind, WayBehind, HeldBehind, Follows}
use Rattle.next_state.proofs.Behind.{next_follows, boards_kept}
use Rattle.step_rules.specs.Steps.{Says}
use Rattle.channel.specs.Steps.{SaysStep}
use Rattle.model.proofs.Rules.{unknown_step}
use Rattle.standing.specs.declared.Stand.{Stand}
use Rattle.standing.specs.declared.Stand.TheVariants as stand
use Rattle.standing.specs.Bridge.{stand_in}
use Rattle.trace_steps.specs.declared.Replay.TheVariants.{Finished, Stuck, Open, NotAllowed}
use Rattle.trace_steps.specs.declared.Outcome.{Outcome}
use Rattle.trace_steps.specs.Bridge.{known, StepAt, Unwaited, Stood, Taken}

-- what `step_at` is to show: a step on a message of the scenario is told as it stands, any other is none
module _ (trace : List ℕ) (i count m : ℕ) (e : m ≡ get_or trace (2 * i + 1) 0) where
  pub tells_unknown : count ≤ m → StepAt trace i count prelude.None
  tells_unknown h = rw (← e) (go (get_or trace (2 * i) 0))
    where
      go : (kind : ℕ) → none ≡ known count (step_told kind m)
      go zero = rw (le-ltb m count h)
      go (suc zero) = rw (le-ltb m count h)
      go (suc (suc zero)) = rw (le-ltb m count h)
      go (suc (suc (suc kind))) = refl

  pub tells_known : (kind : ℕ) (r : prelude.Option code.Step) → m < count → kind ≡ get_or trace (2 * i) 0 → step_or_none r ≡ step_told kind m → StepAt trace i count r
  tells_known kind r h k s = rw (← e, ← k) (s ∙ go kind)
    where
      go : (kind : ℕ) → step_told kind m ≡ known count (step_told kind m)
      go zero = rw (lt-ltb m count h)
      go (suc zero) = rw (lt-ltb m count h)
      go (suc (suc zero)) = rw (lt-ltb m count h)
      go (suc (suc (suc kind))) = refl

-- a step that is told is one on a message of the scenario
known_inside : (count : ℕ) (o : Option Step) (t : Step) → known count o ≡ some t → message_of_step t < count
known_inside count none t h = absurd (let n : ◌≡◌ {A = ℕ} 0 1 = cc in omega arith)
known_inside count (some u) t h = go (dec_lt (message_of_step u) count)
  where
    go : Dec (message_of_step u < count) → message_of_step t < count
    go (yes l) = let same : some u ≡ some t = rw (lt-ltb (message_of_step u) count l) at h in let step : u ≡ t = cc in subst (λ (v : Step). message_of_step v < count) step l
    go (no g) =
        let same : none ≡ some t = rw (le-ltb (message_of_step u) count (omega arith)) at h in
        absurd (let n : ◌≡◌ {A = ℕ} 0 1 = cc in omega arith)

-- and what was told is that step
known_told : (count : ℕ) (o : Option Step) (t : Step) → known count o ≡ some t → o ≡ some t
known_told count none t h = h
known_told count (some u) t h = go (dec_lt (message_of_step u) count)
  where
    go : Dec (message_of_step u < count) → some u ≡ some t
    go (yes l) = rw (lt-ltb (message_of_step u) count l) at h
    go (no g) =
        let same : none ≡ some t = rw (le-ltb (message_of_step u) count (omega arith)) at h in
        absurd (let n : ◌≡◌ {A = ℕ} 0 1 = cc in omega arith)

module _ (count : ℕ) (on words masks : List ℕ) (trace : List ℕ) (i : ℕ) (told : prelude.Option code.Step) (t : code.Step) (tells : StepAt trace i count told)
    (is : told ≡ prelude.Some t) where
  pub step_inside : message_in t < count
  step_inside = known_inside count (step_told (get_or trace (2 * i) 0) (get_or trace (2 * i + 1) 0)) (step_in t) (sym tells ∙ ap step_or_none is)

  pub step_reaches : Standing count on words masks → Reaches on t
  step_reaches s = reaches count on words masks t s step_inside

  pub step_few : Standing count on words masks → message_in t < messages_most
  step_few s = (step_reaches s).few

module _ (count : ℕ) (on words : List ℕ) (c : Channel) (trace : List ℕ) where
  abbrev S : Scenario
  S = scenario_in count on words

  -- i steps were taken, and what is left decides
  pub record Going (end : ℕ) (run : Run) (i : ℕ) : Type 0 where
    pub whole : end ≡ length trace / 2
    pub even : length trace % 2 ≡ 0
    pub within : i ≤ end
    pub few : length trace ≤ trace_least
    pub wide : length run.buffers ≡ boards_most
    pub rest : replay S (channel_in c) trace ≡ replay_from S (channel_in c) i (state_of run) (steps_in (drop (2 * i) trace))
    pub state : end_from S start (steps_in trace) ≡ end_from S (state_of run) (steps_in (drop (2 * i) trace))

  pub going_starts : (run : Run) → (length trace % 2 ≡ 0) × (length trace ≤ trace_least) → Starts run → Going (length trace / 2) run 0
  unfolding replay
  going_starts run e h =
      record { whole = refl; even = e.0; within = omega arith; few = e.1; wide = h.boards; rest = ap (λ s. replay_from S (channel_in c) 0 s (steps_in trace)) (sym h.state); state = ap (λ s. end_from S s (steps_in trace)) (sym h.state) }

  pub steps_end : (end : ℕ) (run : Run) (i : ℕ) (r : Outcome) → Going end run i → end ≤ i → Stood S (channel_in c) (state_of run) r → Taken S (channel_in c) trace r
  unfolding replay_from end_from steps_in
  steps_end end run i r G l T =
      let none_left : drop (2 * i) trace ≡ [] = drop_of_length-le trace {i = 2 * i} (omega (arith, G.whole, G.within, G.even)) in
      let v : replay S (channel_in c) trace ≡ standing S (channel_in c) (state_of run) = G.rest ∙ ap (λ t. replay_from S (channel_in c) i (state_of run) (steps_in t)) none_left in
      let e : end_from S start (steps_in trace) ≡ state_of run = G.state ∙ ap (λ t. end_from S (state_of run) (steps_in t)) none_left in
      record { verdict = T.verdict ∙ sym v; numbers = T.numbers ∙ ap₂ (λ (w : model.Replay) (u : State). each_board boards (wait_by w S u)) (sym v) (sym e) }

  -- a step that is not allowed: no board waits
  halts : (i : ℕ) (r : Outcome) → Unwaited (NotAllowed i) r → not_allowed i ≡ replay S (channel_in c) trace → Taken S (channel_in c) trace r
  unfolding wait_by
  halts i r T h =
      record {
        verdict = T.verdict ∙ h;
        numbers = T.numbers ∙ subst (λ (v : model.Replay). each_board boards (λ b. no_wait) ≡ each_board boards (wait_by v S (end_from S start (steps_in trace)))) h refl;
      }

  pub next_fits : (end : ℕ) (run : Run) (i : ℕ) → Going end run i → i < end → Fits w64 (i + 1)
  next_fits end run i G l = omega (arith, G.whole, G.few)

  -- a step on an unknown message is as little allowed as none
  same_told : (i : ℕ) (s : State) (o : Option Step) (rest : List (Option Step))
      → replay_from S (channel_in c) i s (o ∷ rest) ≡ replay_from S (channel_in c) i s (known count o ∷ rest)
  unfolding replay_from
  same_told i s none rest = refl
  same_told i s (some t) rest = go (dec_lt (message_of_step t) count)
    where
      go : Dec (message_of_step t < count) → replay_from S (channel_in c) i s (some t ∷ rest) ≡ replay_from S (channel_in c) i s (known count (some t) ∷ rest)
      go (yes l) = rw (lt-ltb (message_of_step t) count l)
      go (no g) = rw (le-ltb (message_of_step t) count (omega arith), ← unknown_step S (channel_in c) s t (omega arith))

  -- step i is read
  pub step_there : (end : ℕ) (run : Run) (i : ℕ) → Going end run i → i < end → 2 * i + 1 < length trace
  step_there end run i G l = omega (arith, G.whole, G.even)

  module _ (end : ℕ) (run : Run) (i : ℕ) (told : prelude.Option code.Step) (G : Going end run i) (l : i < end) (tells : StepAt trace i count told) where
    first : replay S (channel_in c) trace ≡ replay_from S (channel_in c) i (state_of run) (step_or_none told ∷ steps_in (drop (2 * i + 2) trace))
    unfolding steps_in
    first =
        G.rest ∙ ap (λ t. replay_from S (channel_in c) i (state_of run) (steps_in t)) (two_more trace (2 * i) (step_there end run i G l))
        ∙ same_told i (state_of run) (step_told (get_or trace (2 * i) 0) (get_or trace (2 * i + 1) 0)) (steps_in (drop (2 * i + 2) trace))
        ∙ ap (λ o. replay_from S (channel_in c) i (state_of run) (o ∷ steps_in (drop (2 * i + 2) trace))) (sym tells)

    pub tells_none : (r : Outcome) → Unwaited (NotAllowed i) r → told ≡ prelude.None → Taken S (channel_in c) trace r
    unfolding replay_from
    tells_none r T nothing =
        halts i r T (sym (first ∙ ap (λ (o : prelude.Option code.Step). replay_from S (channel_in c) i (state_of run) (step_or_none o ∷ steps_in (drop (2 * i + 2) trace))) nothing))

    module _ (t : code.Step) (is : told ≡ prelude.Some t) (r : Bool) (says : Says count on words c run t r) where
      taken : replay S (channel_in c) trace
          ≡ cond r (replay_from S (channel_in c) (suc i) (next S (state_of run) (step_in t)) (steps_in (drop (2 * i + 2) trace))) (not_allowed i)
      unfolding replay_from
      taken =
          first ∙ ap (λ (o : prelude.Option code.Step). replay_from S (channel_in c) i (state_of run) (step_or_none o ∷ steps_in (drop (2 * i + 2) trace))) is
          ∙ ap (λ b. cond b (replay_from S (channel_in c) (suc i) (next S (state_of run) (step_in t)) (steps_in (drop (2 * i + 2) trace))) (not_allowed i)) (sym says)

      tells_forbidden : not r ≡ true → not_allowed i ≡ replay S (channel_in c) trace
      tells_forbidden f =
          sym (taken ∙ ap (λ b. cond b (replay_from S (channel_in c) (suc i) (next S (state_of run) (step_in t)) (steps_in (drop (2 * i + 2) trace))) (not_allowed i)) (not-true r f))

      going_on : (b : ℕ) (other : Buffer) (done way held : List ℕ) → not r ≡ false
          → DoneBehind run.done t done → WayBehind run.way t way → HeldBehind (get_or run.buffers b other).held t held → TargetOf on t b
          → Going end (record { done = done; way = way; buffers = set run.buffers b (record { held = held }) }) (i + 1)
      unfolding end_from steps_in
      going_on b other done way held f p q h target =
          let behind : Run = record { done = done; way = way; buffers = set run.buffers b (record { held = held }) } in
          let follows : Follows on run (step_in t) behind = next_follows run t on b other done way held p q h target G.wide in
          let one : suc i ≡ i + 1 = omega arith in
          let two : 2 * i + 2 ≡ 2 * (i + 1) = omega arith in
          record {
            whole = G.whole;
            even = G.even;
            within = omega arith;
            few = G.few;
            wide = boards_kept run b (record { held = held }) G.wide;
            state =
                G.state ∙ ap (λ l. end_from S (state_of run) (steps_in l)) (two_more trace (2 * i) (step_there end run i G l))
                ∙ ap (λ (o : Option Step). end_from S (state_of run) (o ∷ steps_in (drop (2 * i + 2) trace))) (known_told count (step_told (get_or trace (2 * i) 0) (get_or trace (2 * i + 1) 0)) (step_in t) (sym tells ∙ ap step_or_none is))
                ∙ ap (λ s. end_from S s (steps_in (drop (2 * i + 2) trace))) (sym (follows count words))
                ∙ ap (λ (k : ℕ). end_from S (state_of behind) (steps_in (drop k trace))) two;
            rest =
                taken ∙ ap (λ b. cond b (replay_from S (channel_in c) (suc i) (next S (state_of run) (step_in t)) (steps_in (drop (2 * i + 2) trace))) (not_allowed i)) (not-false r f)
                ∙ ap (λ s. replay_from S (channel_in c) (suc i) s (steps_in (drop (2 * i + 2) trace))) (sym (follows count words))
                ∙ subst₂ (λ (a b : ℕ). replay_from S (channel_in c) (suc i) (state_of behind) (steps_in (drop (2 * i + 2) trace)) ≡ replay_from S (channel_in c) a (state_of behind) (steps_in (drop b trace))) one two refl;
          }

    -- the step is judged by the parts of the run, and the buffer of its board
    module _ (t : code.Step) (is : told ≡ prelude.Some t) (r : Bool) (b : ℕ) (other : Buffer)
        (says : SaysStep count on words c run.done run.way (get_or run.buffers b other) t r) (at : BoardAt on t b) where
      judged : Says count on words c run t r
      judged = says run refl refl (buffer_read run on t b other at G.wide)

      pub tells_not : (q : Outcome) → Unwaited (NotAllowed i) q → not r ≡ true → Taken S (channel_in c) trace q
      tells_not q T f = halts i q T (tells_forbidden t is r judged f)

      pub goes_on : (to : ℕ) (second : Buffer) (done way held : List ℕ) → not r ≡ false
          → DoneBehind run.done t done → WayBehind run.way t way → HeldBehind (get_or run.buffers to second).held t held → TargetOf on t to
          → Going end (record { done = done; way = way; buffers = set run.buffers to (record { held = held }) }) (i + 1)
      goes_on = going_on t is r judged

-- what `unwaited` and each return of `stood` are to show
pub all_unwaited : replicate boards no_wait ≡ each_board boards (λ b. no_wait)
unfolding each_board
all_unwaited = refl

module _ (S : Scenario) (c : model-channel.Channel) (s : State) (d : Stand) (r : Outcome) (h : stand_in d ≡ standing S c s) where
  pub stood_finished : Unwaited Finished r → d ≡ stand.Finished → Stood S c s r
  unfolding wait_by
  stood_finished T i =
      let v : finishes ≡ standing S c s = ap stand_in (sym i) ∙ h in
      record { verdict = T.verdict ∙ v; numbers = T.numbers ∙ subst (λ (w : model.Replay). each_board boards (λ b. no_wait) ≡ each_board boards (wait_by w S s)) v refl }

  pub stood_open : Unwaited Open r → d ≡ stand.Open → Stood S c s r
  unfolding wait_by
  stood_open T i =
      let v : open' ≡ standing S c s = ap stand_in (sym i) ∙ h in
      record { verdict = T.verdict ∙ v; numbers = T.numbers ∙ subst (λ (w : model.Replay). each_board boards (λ b. no_wait) ≡ each_board boards (wait_by w S s)) v refl }

pub stood_stuck : (S : Scenario) (c : model-channel.Channel) (s : State) (d : Stand) (row : List ℕ) → d ≡ stand.Stuck → stand_in d ≡ standing S c s
    → row ≡ each_board boards (wait_of S s) → Stood S c s (record { verdict = Stuck; waits = row })
unfolding wait_by
stood_stuck S c s d row i h w =
    let v : sticks ≡ standing S c s = ap stand_in (sym i) ∙ h in
    record { verdict = v; numbers = w ∙ subst (λ (u : model.Replay). each_board boards (wait_of S s) ≡ each_board boards (wait_by u S s)) v refl }
