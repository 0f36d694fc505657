-- The schedule, step by step and byte by byte. Assumes nothing.
use mathlib.Core.Path.{◌≡◌, refl, sym, ◌∙◌, ap, subst, subst⁻¹}
use mathlib.Core.List.{List, [], ◌∷◌, ◌++◌, append_assoc, append-nil}
use mathlib.Core.Option.{Option, none, some}
use Prim.Native.Nat.{ℕ, suc, ◌+◌, ◌*◌, ◌-◌, ◌<◌, ◌≤◌}
use native.Mathlib.Omega.{arith}
use lib.ListN.{length, get_or, drop, set, replicate, length-append, length-drop, length-set}
use lib.Seq.{get_or-set_same, set_at, drop-drop, append_snoc}
use mir.Val.{Fits}
use mir.Syntax.{w64}
use Rattle.model.specs.Limits.{messages_most}
use Rattle.model.specs.Order.{Scenario}
use Rattle.model.specs.Channel.{Channel}
use Rattle.model.specs.Run.{State, start, Step, next}
use Rattle.model.specs.Schedule.{classes_for, choose, schedule_from, schedule, kind_of, message_of_step, bytes_of}
use Rattle.model.proofs.Trace.{bytes_length, bytes_more}
use Rattle.model.proofs.Bounded.{not_both}
use Rattle.relation.specs.Width.{width}
use Rattle.relation.specs.Scenario.{scenario_in}
use Rattle.channel_table.specs.declared.Channel as channel
use Rattle.channel_table.specs.Table.{channel_in}
use Rattle.board.specs.Boards.{boards_most}
use Rattle.board.specs.Masks.{Standing}
use Rattle.run.specs.declared.Buffer.{Buffer}
use Rattle.run.specs.declared.Run.{Run}
use Rattle.step.specs.declared.Step as code
use Rattle.std.specs.Prelude as prelude
use Rattle.step.specs.Steps.{step_in, message_in, step_or_none}
use Rattle.run.specs.State.{in_row, buffer_of, state_of, start_run, Starts, Reaches, TargetOf}
use Rattle.run.proofs.States.{get_d_inside, starts, zero_buffers, reaches}
use Rattle.next_state.specs.Behind.{DoneBehind, WayBehind, HeldBehind, Follows}
use Rattle.next_state.proofs.Behind.{next_follows, boards_kept}
use Rattle.buffers.specs.Held.{HeldIn, LaysRow, HeldAnywhere}
use Rattle.buffers.proofs.Rows.{start_laid, set_laid}
use Rattle.next_step.specs.Search.{ChosenIn}
use Rattle.next_step.proofs.Searching.{chosen_inside}
use Rattle.schedule.specs.Schedule.{Scheduled}
use Rattle.schedule.proofs.Gathering.{Gathered, gathered_anywhere, gathered_behind}

pub two_bytes : (trace : List ℕ) (i k m : ℕ) (s : code.Step) → k ≡ kind_of (step_in s) → m ≡ message_in s
    → set (set trace (2 * i) k) (2 * i + 1) m ≡ set (set trace (2 * i) (kind_of (step_in s))) (2 * i + 1) (message_in s)
two_bytes trace i k m s p q = rw (p, q)

-- two bytes written behind a front
pub two_written : (front rest : List ℕ) (n a b : ℕ) → length front ≡ n → 2 ≤ length rest
    → set (set (front ++ rest) n a) (n + 1) b ≡ front ++ (a ∷ b ∷ []) ++ drop 2 rest
two_written front [] n a b e l = absurd (omega arith)
two_written front (x ∷ []) n a b e l = absurd (omega arith)
two_written front (x ∷ y ∷ rest) n a b e l =
    let one : set (front ++ x ∷ y ∷ rest) n a ≡ front ++ (a ∷ []) ++ y ∷ rest = set_at front x (y ∷ rest) a n e ∙ sym (append_snoc front a (y ∷ rest)) in
    let long : length (front ++ (a ∷ [])) ≡ n + 1 = simp length-append (omega arith) in
    ap (λ w. set w (n + 1) b) one ∙ set_at (front ++ (a ∷ [])) y rest b (n + 1) long ∙ append_snoc front a (b ∷ rest)
    ∙ sym (append_assoc front (a ∷ b ∷ []) rest)

module _ (S : Scenario) (c : Channel) (e : ℕ) (trace : List ℕ) where
  -- i steps were taken and written, and the schedule goes on from the state s
  pub record Running (s : State) (i : ℕ) (now : List ℕ) : Type 0 where
    pub steps : List Step
    pub counted : length steps ≡ i
    pub within : i ≤ 3 * S.count
    pub long : 2 * (3 * S.count) ≤ length trace
    pub split : schedule S c e ≡ steps ++ schedule_from S c e (3 * S.count - i) s
    pub written : now ≡ bytes_of steps ++ drop (2 * i) trace

  pub running_starts : 2 * (3 * S.count) ≤ length trace → Running start 0 trace
  unfolding schedule bytes_of
  running_starts l =
      let z : 3 * S.count ≡ 3 * S.count - 0 = omega arith in
      record {
        steps = [];
        counted = refl;
        within = omega arith;
        long = l;
        split = ap (λ f. schedule_from S c e f start) z;
        written = refl;
      }

  -- the schedule by what is chosen
  chosen : (fuel : ℕ) (s : State) (t : Step) → choose S c (classes_for S e) s ≡ some t
      → schedule_from S c e (suc fuel) s ≡ t ∷ schedule_from S c e fuel (next S s t)
  unfolding schedule_from
  chosen fuel s t h =
      subst⁻¹
      (λ (o : Option Step). elim o [ none ↦ [] | some u ↦ u ∷ schedule_from S c e fuel (next S s u) ] ≡ t ∷ schedule_from S c e fuel (next S s t))
      h refl

  none_chosen : (fuel : ℕ) (s : State) → choose S c (classes_for S e) s ≡ none → schedule_from S c e (suc fuel) s ≡ []
  unfolding schedule_from
  none_chosen fuel s h =
      subst⁻¹ (λ (o : Option Step). ◌≡◌ {A = List Step} (elim o [ none ↦ [] | some u ↦ u ∷ schedule_from S c e fuel (next S s u) ]) []) h refl

  -- with i steps taken of 3 n, one is left to take
  left : (i : ℕ) → i < 3 * S.count → 3 * S.count - i ≡ suc (3 * S.count - (i + 1))
  left i l = omega arith

  pub running_goes_on : (s : State) (i : ℕ) (now : List ℕ) (t : Step) → Running s i now → choose S c (classes_for S e) s ≡ some t → i < 3 * S.count
      → Running (next S s t) (i + 1) (set (set now (2 * i) (kind_of t)) (2 * i + 1) (message_of_step t))
  running_goes_on s i now t R h l =
      record {
        steps = R.steps ++ (t ∷ []);
        counted = simp length-append (omega (arith, R.counted));
        within = omega arith;
        long = R.long;
        split =
            R.split
            ∙ ap (λ rest. R.steps ++ rest) (ap (λ f. schedule_from S c e f s) (left i l) ∙ chosen (3 * S.count - (i + 1)) s t h)
            ∙ sym (append_snoc R.steps t (schedule_from S c e (3 * S.count - (i + 1)) (next S s t)));
        written =
            ap (λ w. set (set w (2 * i) (kind_of t)) (2 * i + 1) (message_of_step t)) R.written
            ∙ two_written (bytes_of R.steps) (drop (2 * i) trace) (2 * i) (kind_of t) (message_of_step t) at room
            ∙ ap (λ front. front ++ drop 2 (drop (2 * i) trace)) (sym (bytes_more R.steps t))
            ∙ ap (λ rest. bytes_of (R.steps ++ (t ∷ [])) ++ rest) (drop-drop 2 (2 * i) trace ∙ ap (λ k. drop k trace) behind);
      }
    where
      at : length (bytes_of R.steps) ≡ 2 * i
      at = omega (arith, bytes_length R.steps, R.counted)

      room : 2 ≤ length (drop (2 * i) trace)
      room = omega (arith, length-drop (2 * i) trace, R.long)

      behind : 2 * i + 2 ≡ 2 * (i + 1)
      behind = omega arith

  -- nothing more to take: what was written is the schedule
  ended : (s : State) (i : ℕ) (now : List ℕ) → Running s i now → schedule_from S c e (3 * S.count - i) s ≡ [] → Scheduled S c e trace now i
  ended s i now R h =
      let same : schedule S c e ≡ R.steps = R.split ∙ ap (λ rest. R.steps ++ rest) h ∙ append-nil R.steps in
      record {
        count = sym R.counted ∙ ap length (sym same);
        trace = R.written ∙ ap (λ k. bytes_of R.steps ++ drop (2 * k) trace) (sym R.counted) ∙ ap (λ ts. bytes_of ts ++ drop (2 * length ts) trace) (sym same);
      }

  pub running_stops : (s : State) (i : ℕ) (now : List ℕ) → Running s i now → choose S c (classes_for S e) s ≡ none → i < 3 * S.count
      → Scheduled S c e trace now i
  running_stops s i now R h l =
      ended s i now R (ap (λ f. schedule_from S c e f s) (left i l) ∙ none_chosen (3 * S.count - (i + 1)) s h)

  pub running_ends : (s : State) (i : ℕ) (now : List ℕ) → Running s i now → 3 * S.count ≤ i → Scheduled S c e trace now i
  unfolding schedule_from
  running_ends s i now R l =
      let z : 3 * S.count - i ≡ 0 = omega arith in
      ended s i now R (ap (λ f. schedule_from S c e f s) z)

-- The loop of the schedule: i steps were taken and written, and the run is in the state behind them. What is held in rows, and together, is what
-- its buffers hold.
module _ (count : ℕ) (boards words masks : List ℕ) (c : channel.Channel) (e : ℕ) (trace : List ℕ) where
  abbrev S : Scenario
  S = scenario_in count boards words

  pub record Goes (end : ℕ) (now : List ℕ) (run : Run) (rows held : List ℕ) (i : ℕ) : Type 0 where
    pub standing : Standing count boards words masks
    pub whole : end ≡ 3 * count
    pub within : i ≤ end
    pub wide : length run.buffers ≡ boards_most
    pub laid : HeldIn run rows
    pub gathered : Gathered boards run held
    pub anywhere : HeldAnywhere rows held
    pub room : 2 * (3 * count) ≤ length now
    pub same_length : length now ≡ length trace
    pub running : Running S (channel_in c) e trace (state_of run) i now

  pub goes_start : (run : Run) → Starts run → Standing count boards words masks → 2 * (3 * count) ≤ length trace
      → Goes (3 * count) trace run (replicate (boards_most * width) 0) (replicate width 0) 0
  goes_start run st s l =
      subst⁻¹ (λ (u : Run). Goes (3 * count) trace u (replicate (boards_most * width) 0) (replicate width 0) 0) st.words
      (record {
        standing = s;
        whole = refl;
        within = omega arith;
        wide = starts.boards;
        laid = start_laid;
        gathered = nothing;
        anywhere = gathered_anywhere boards start_run (replicate (boards_most * width) 0) (replicate width 0) nothing start_laid;
        room = l;
        same_length = refl;
        running = subst⁻¹ (λ (s : State). Running S (channel_in c) e trace s 0 trace) starts.state (running_starts S (channel_in c) e trace l);
      })
    where
      nothing : Gathered boards start_run (replicate width 0)
      nothing =
          record {
            receiver = λ a k t. not_both (in_row (buffer_of start_run a).held k) t (zero_buffers boards_most a k);
            all = λ a k t. not_both (in_row (buffer_of start_run a).held k) t (zero_buffers boards_most a k);
          }

  module _ (end : ℕ) (now : List ℕ) (run : Run) (rows held : List ℕ) (k : ℕ) (G : Goes end now run rows held k) where
    pub next_fits : k < end → Fits w64 (k + 1)
    next_fits l = omega (arith, G.whole, G.standing.few)

    -- the step chosen is on a message of the scenario
    module _ (r : prelude.Option code.Step) (s : code.Step) (h : ChosenIn count boards words c run.done run.way rows e r) (i : r ≡ prelude.Some s) where
      taken : choose S (channel_in c) (classes_for S e) (state_of run) ≡ some (step_in s)
      taken = sym (h run refl refl G.laid) ∙ ap step_or_none i

      pub step_inside : message_in s < count
      step_inside = chosen_inside S (channel_in c) (classes_for S e) (state_of run) (step_in s) taken

      pub step_reaches : Reaches boards s
      step_reaches = reaches count boards words masks s G.standing step_inside

      pub step_few : message_in s < messages_most
      step_few = step_reaches.few

      pub goes_on : (later : List ℕ) (b : ℕ) (other third : Buffer) (done way own rows-now held-now : List ℕ)
          → later ≡ set (set now (2 * k) (kind_of (step_in s))) (2 * k + 1) (message_in s)
          → TargetOf boards s b → DoneBehind run.done s done → WayBehind run.way s way → HeldBehind held s held-now
          → HeldBehind (get_or run.buffers b other).held s own → LaysRow rows b (get_or (set run.buffers b (record { held = own })) b third).held rows-now → k < end
          → Goes end later (record { done = done; way = way; buffers = set run.buffers b (record { held = own }) }) rows-now held-now (k + 1)
      goes_on later b other third done way own rows-now held-now w target p q g h' o l =
          let last : Run = record { done = done; way = way; buffers = set run.buffers b (record { held = own }) } in
          let inside : b < length run.buffers = omega (arith, target.below, G.wide) in
          let own_behind : HeldBehind (buffer_of run b).held s own =
          subst (λ (u : Buffer). HeldBehind u.held s own) (get_d_inside run.buffers b other (record { held = [] }) inside) h' in
          let laid : HeldIn last rows-now = set_laid run rows rows-now own b done way G.laid target.below
          (subst (λ (u : Buffer). LaysRow rows b u.held rows-now) (get_or-set_same run.buffers b (record { held = own }) third inside) o) in
          let v : Follows boards run (step_in s) last = next_follows run s boards b other done way own p q h' target G.wide in
          let R = running_goes_on S (channel_in c) e trace (state_of run) k now (step_in s) G.running taken (omega (arith, G.whole)) in
          let kept : length later ≡ length now = ap length w ∙ simp length-set in
          let gathered : Gathered boards last held-now = gathered_behind boards run held held-now own done way b G.gathered inside s target own_behind g in
          record {
            standing = G.standing;
            whole = G.whole;
            within = omega arith;
            wide = boards_kept run b (record { held = own }) G.wide;
            laid = laid;
            gathered = gathered;
            anywhere = gathered_anywhere boards last rows-now held-now gathered laid;
            room = omega (arith, G.room);
            same_length = kept ∙ G.same_length;
            running =
                subst⁻¹ (λ (t : List ℕ). Running S (channel_in c) e trace (state_of last) (k + 1) t) w
                (subst⁻¹ (λ (t : State). Running S (channel_in c) e trace t (k + 1) (set (set now (2 * k) (kind_of (step_in s))) (2 * k + 1) (message_in s))) (v count words) R);
          }

    pub goes_stops : (r : prelude.Option code.Step) → ChosenIn count boards words c run.done run.way rows e r → r ≡ prelude.None → k < end
        → Scheduled S (channel_in c) e trace now k
    goes_stops r h n l =
        running_stops S (channel_in c) e trace (state_of run) k now G.running (sym (h run refl refl G.laid) ∙ ap step_or_none n) (omega (arith, G.whole))

    pub goes_ends : end ≤ k → Scheduled S (channel_in c) e trace now (3 * count)
    goes_ends l =
        let all : k ≡ 3 * count = omega (arith, G.whole, G.within) in
        subst (λ (j : ℕ). Scheduled S (channel_in c) e trace now j) all
        (running_ends S (channel_in c) e trace (state_of run) k now G.running (omega arith))
