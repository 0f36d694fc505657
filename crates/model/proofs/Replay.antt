-- Request (a): the verdict on a trace is right for the whole list of its steps, and the schedule's traces come out stuck.
-- Assumes nothing.
use Prim.Native.Nat.{ℕ, zero, suc, ◌+◌, ◌*◌, ◌%◌, ◌<◌, ◌≤◌}
use native.Mathlib.Nat.{add-zero}
use native.Mathlib.Omega.{arith}
use mathlib.Core.Path.{◌≡◌, refl, sym, ◌∙◌, ap, subst, subst₂, subst⁻¹}
use mathlib.Core.Logic.{◌⊎◌, inl, inr, ⊎_elim}
use mathlib.Core.Bool.{Bool, true, false, cond}
use mathlib.Core.List.{List, [], ◌∷◌, ◌++◌}
use mathlib.Core.Option.{Option, none, some}
use borrow.Author.Tests.{lt-ltb, ltb-true, le-ltb, le-leb, leb-true, eq-eqb, ne_eqb, eqb-true}
use lib.Dec.{eqb, leb, ltb}
use lib.ListN.{length, take, drop, get_or, length-append, length-take, take-append-drop}
use lib.Seq.{take_at, get_or-append-add}
use Rattle.model.specs.Limits.{channels, messages_most, rows_most, scratch_least, trace_least}
use Rattle.model.specs.Refusal.{Out, ok, refusal, channel_refusal, bench_refusal, trace_refusal}
use Rattle.model.specs.Bounded.{every}
use Rattle.model.specs.Place.{line_of}
use Rattle.model.specs.Order.{Scenario}
use Rattle.model.specs.Channel.{Channel, channel_of}
use Rattle.model.specs.Run.{State, start, Step, next, every_event, allowed, is_order_from, after, finished, stuck, EndsStuck, EndsFinished}
use Rattle.model.specs.Schedule.{kind_of, message_of_step, bytes_of, step_told}
use Rattle.model.specs.Answer.{locked, sheet_of, answer_of}
use Rattle.model.specs.Replay.{Replay, finishes, sticks, open', not_allowed, refused, steps_in, standing, replay_from, replay, is_trace, replayable, replay_for, replay_of, ReplayNumbers, replay_numbers, finished_word, stuck_word, open_word, not_allowed_word, FirstForbidden, EndsOpen, ByTheRules}
use Rattle.model.proofs.Bounded.{and_left, and_right, and_both, which}
use Rattle.model.proofs.Refusal.{not_refused, cond_ok, cond_refused}
use Rattle.model.proofs.Lines.{Well, sheet_well}
use Rattle.model.proofs.Causal.{Causal}
use Rattle.model.proofs.Accepted.{sheet_causal, sheet_count}
use Rattle.model.proofs.Phases.{view, view_start}
use Rattle.model.proofs.Rules.{finished_use, stuck_unfinished, stuck_forbids}
use Rattle.model.proofs.Progress.{start_moves}
use Rattle.model.proofs.Trace.{bytes_length, told_back, told_is, two_more}
use Rattle.model.proofs.PointThree.{locked_stuck}

abbrev pub word : Replay → ℕ
word v = (replay_numbers v).word

module _ (S : Scenario) (c : Channel) where
  -- what is no step, or no allowed one
  abbrev Forbids : State → ℕ → ℕ → Type 0
  Forbids s kind m = (t : Step) → step_told kind m ≡ some t → allowed S c s t ≡ false

  -- an allowed order is gone through to its end
  order_replayed : (i : ℕ) (s : State) (ts : List Step) → is_order_from S c s ts ≡ true
      → replay_from S c i s (steps_in (bytes_of ts)) ≡ standing S c (after S s ts)
  unfolding replay_from steps_in bytes_of is_order_from after
  order_replayed i s [] h = refl
  order_replayed i s (t ∷ ts) h =
      let a : allowed S c s t ≡ true = and_left (allowed S c s t) (is_order_from S c (next S s t) ts) h in
      rw (told_back t, a) (order_replayed (suc i) (next S s t) ts (and_right (allowed S c s t) (is_order_from S c (next S s t) ts) h))

  one_forbidden : (i : ℕ) (s : State) (kind m : ℕ) (bytes : List ℕ) → Forbids s kind m
      → replay_from S c i s (step_told kind m ∷ steps_in bytes) ≡ not_allowed i
  unfolding replay_from
  one_forbidden i s kind m bytes f = go (step_told kind m) f
    where
      go : (o : Option Step) → ((t : Step) → o ≡ some t → allowed S c s t ≡ false) → replay_from S c i s (o ∷ steps_in bytes) ≡ not_allowed i
      go none g = refl
      go (some t) g = rw (g t refl)

  -- behind an allowed order, the first step that is not allowed ends it
  forbidden_replayed : (i : ℕ) (s : State) (ts : List Step) (kind m : ℕ) (bytes : List ℕ) → is_order_from S c s ts ≡ true → Forbids (after S s ts) kind m
      → replay_from S c i s (steps_in (bytes_of ts ++ (kind ∷ m ∷ bytes))) ≡ not_allowed (i + length ts)
  unfolding replay_from steps_in bytes_of is_order_from after
  forbidden_replayed i s [] kind m bytes h f = one_forbidden i s kind m bytes f ∙ ap not_allowed (omega arith)
  forbidden_replayed i s (t ∷ ts) kind m bytes h f =
      let a : allowed S c s t ≡ true = and_left (allowed S c s t) (is_order_from S c (next S s t) ts) h in
      rw (told_back t, a)
      (forbidden_replayed (suc i) (next S s t) ts kind m bytes (and_right (allowed S c s t) (is_order_from S c (next S s t) ts) h) f
      ∙ ap not_allowed (omega arith))

  -- a trace is an allowed order, or one up to a step that is not allowed
  data Parted (s : State) : List ℕ → Type 0 where
    whole : (ts : List Step) → is_order_from S c s ts ≡ true → Parted s (bytes_of ts)
    up_to : (ts : List Step) (kind m : ℕ) (bytes : List ℕ) → is_order_from S c s ts ≡ true → Forbids (after S s ts) kind m
        → Parted s (bytes_of ts ++ (kind ∷ m ∷ bytes))

  -- with an allowed step ahead of it
  parted_behind : (s : State) (t : Step) → allowed S c s t ≡ true → (bytes : List ℕ) → Parted (next S s t) bytes
      → Parted s (kind_of t ∷ message_of_step t ∷ bytes)
  unfolding bytes_of is_order_from after
  parted_behind s t a bytes (whole ts h) = whole (t ∷ ts) (and_both (allowed S c s t) (is_order_from S c (next S s t) ts) a h)
  parted_behind s t a bytes (up_to ts kind m rest h f) =
      up_to (t ∷ ts) kind m rest (and_both (allowed S c s t) (is_order_from S c (next S s t) ts) a h) f

  -- by what the first two bytes tell, given that what is behind them is so
  parted_first : (s : State) (kind m : ℕ) (bytes : List ℕ) → ((u : State) → Parted u bytes) → (o : Option Step) → step_told kind m ≡ o
      → Parted s (kind ∷ m ∷ bytes)
  unfolding bytes_of is_order_from after
  parted_first s kind m bytes behind none i = up_to [] kind m bytes refl (λ t j. let z : ◌≡◌ {A = ℕ} 0 1 = cc in absurd (omega arith))
  parted_first s kind m bytes behind (some t) i = by_rule (which (allowed S c s t))
    where
      by_rule : (allowed S c s t ≡ true) ⊎ (allowed S c s t ≡ false) → Parted s (kind ∷ m ∷ bytes)
      by_rule (inl a) =
          let is = told_is kind m t i in
          subst₂ (λ (k n : ℕ). Parted s (k ∷ n ∷ bytes)) is.0 is.1 (parted_behind s t a bytes (behind (next S s t)))
      by_rule (inr f) =
          up_to [] kind m bytes refl (λ u j. let same : t ≡ u = cc in subst (λ (v : Step). allowed S c s v ≡ false) same f)

  parted : (bytes : List ℕ) → length bytes % 2 ≡ 0 → (s : State) → Parted s bytes
  unfolding bytes_of is_order_from
  parted [] e s = whole [] refl
  parted (kind ∷ []) e s = absurd (omega arith)
  parted (kind ∷ m ∷ bytes) e s = parted_first s kind m bytes (parted bytes (omega arith)) (step_told kind m) refl

  -- the verdict on a trace that is at its end, by its state
  data Stands (s : State) : Replay → Type 0 where
    is_finished : finished S s ≡ true → Stands s finishes
    is_stuck : stuck S c s ≡ true → Stands s sticks
    is_open : finished S s ≡ false → stuck S c s ≡ false → Stands s open'

  stands : (s : State) → Stands s (standing S c s)
  unfolding standing
  stands s = go (finished S s) refl (stuck S c s) refl
    where
      go : (f : Bool) → finished S s ≡ f → (k : Bool) → stuck S c s ≡ k → Stands s (cond f finishes (cond k sticks open'))
      go true e k i = is_finished e
      go false e true i = is_stuck i
      go false e false i = is_open e i

  finished_stands : (s : State) → finished S s ≡ true → standing S c s ≡ finishes
  unfolding standing
  finished_stands s e = rw e

  stuck_stands : (s : State) → stuck S c s ≡ true → standing S c s ≡ sticks
  unfolding standing
  stuck_stands s e = rw (stuck_unfinished S c s e, e)

  open_stands : (s : State) → finished S s ≡ false → stuck S c s ≡ false → standing S c s ≡ open'
  unfolding standing
  open_stands s e i = rw (e, i)

  module _ (trace : List ℕ) where
    -- the verdict, with what it says of the steps
    data Judged : Replay → Type 0 where
      ended : {v : Replay} (ts : List Step) → bytes_of ts ≡ trace → is_order_from S c start ts ≡ true → Stands (after S start ts) v → Judged v
      halted : {i : ℕ} → FirstForbidden S c trace i → Judged (not_allowed i)

    order_judged : (ts : List Step) → bytes_of ts ≡ trace → is_order_from S c start ts ≡ true → replay S c trace ≡ standing S c (after S start ts)
    unfolding replay
    order_judged ts e h = subst (λ (l : List ℕ). replay_from S c 0 start (steps_in l) ≡ standing S c (after S start ts)) e (order_replayed 0 start ts h)

    -- step i is not allowed: the trace taken apart there
    forbidden_judged : (i : ℕ) → FirstForbidden S c trace i → replay S c trace ≡ not_allowed i
    unfolding replay
    forbidden_judged i F =
        let ts = F.steps in
        let rest = drop (2 * i + 2) trace in
        let counted : length ts ≡ i =
        omega (arith, bytes_length ts, ap length F.bytes, length-take (2 * i) trace, F.inside) in
        let behind : drop (2 * i) trace ≡ get_or trace (2 * i) 0 ∷ get_or trace (2 * i + 1) 0 ∷ rest = two_more trace (2 * i) F.inside in
        let apart : bytes_of ts ++ (get_or trace (2 * i) 0 ∷ get_or trace (2 * i + 1) 0 ∷ rest) ≡ trace =
        ap (λ l. bytes_of ts ++ l) (sym behind) ∙ ap (λ l. l ++ drop (2 * i) trace) F.bytes ∙ take-append-drop (2 * i) trace in
        subst (λ (l : List ℕ). replay_from S c 0 start (steps_in l) ≡ not_allowed i) apart
        (forbidden_replayed 0 start ts (get_or trace (2 * i) 0) (get_or trace (2 * i + 1) 0) rest F.is_order F.forbidden
        ∙ ap not_allowed (omega arith))

    from_parts : Parted start trace → Judged (replay S c trace)
    from_parts p = go trace refl p
      where
        go : (l : List ℕ) → l ≡ trace → Parted start l → Judged (replay S c trace)
        go l e (whole ts h) = subst⁻¹ Judged (order_judged ts e h) (ended ts e h (stands (after S start ts)))
        go l e (up_to ts kind m rest h f) = subst⁻¹ Judged (forbidden_judged (length ts) F) (halted F)
          where
            tail : List ℕ
            tail = kind ∷ m ∷ rest

            at : (k : ℕ) → get_or trace (2 * length ts + k) 0 ≡ get_or tail k 0
            at k =
                subst (λ (l : List ℕ). get_or l (2 * length ts + k) 0 ≡ get_or tail k 0) e
                (subst (λ (n : ℕ). get_or (bytes_of ts ++ tail) (n + k) 0 ≡ get_or tail k 0) (bytes_length ts) (get_or-append-add (bytes_of ts) tail k 0))

            F : FirstForbidden S c trace (length ts)
            F =
                record {
                  inside = omega (arith, bytes_length ts, length-append (bytes_of ts) tail, ap length e);
                  steps = ts;
                  bytes =
                      subst (λ (l : List ℕ). bytes_of ts ≡ take (2 * length ts) l) e
                      (sym (take_at (bytes_of ts) tail (2 * length ts) (bytes_length ts)));
                  is_order = h;
                  forbidden = λ t i.
                      f t (subst₂ (λ (a b : ℕ). step_told a b ≡ some t) (rw add-zero at (at 0)) (at 1) i);
                }

    -- what each word says
    finished_said : {v : Replay} → Judged v → word v ≡ finished_word → (ts : List Step) × (bytes_of ts ≡ trace) × EndsFinished S c ts
    finished_said (ended ts b h (is_finished f)) e = (ts, b, record { is_order = h; is_finished = f })
    finished_said (ended ts b h (is_stuck f)) e = absurd (omega arith)
    finished_said (ended ts b h (is_open f k)) e = absurd (omega arith)
    finished_said (halted F) e = absurd (omega arith)

    stuck_said : {v : Replay} → Judged v → word v ≡ stuck_word → (ts : List Step) × (bytes_of ts ≡ trace) × EndsStuck S c ts
    stuck_said (ended ts b h (is_finished f)) e = absurd (omega arith)
    stuck_said (ended ts b h (is_stuck f)) e = (ts, b, record { is_order = h; is_stuck = f })
    stuck_said (ended ts b h (is_open f k)) e = absurd (omega arith)
    stuck_said (halted F) e = absurd (omega arith)

    open_said : {v : Replay} → Judged v → word v ≡ open_word → (ts : List Step) × (bytes_of ts ≡ trace) × EndsOpen S c ts
    open_said (ended ts b h (is_finished f)) e = absurd (omega arith)
    open_said (ended ts b h (is_stuck f)) e = absurd (omega arith)
    open_said (ended ts b h (is_open f k)) e = (ts, b, record { is_order = h; unfinished = f; unstuck = k })
    open_said (halted F) e = absurd (omega arith)

    halted_said : {v : Replay} → Judged v → (n : ℕ) → (word v ≡ not_allowed_word) × ((replay_numbers v).one ≡ n) → FirstForbidden S c trace n
    halted_said (ended ts b h (is_finished f)) n e = absurd (omega (arith, e.0))
    halted_said (ended ts b h (is_stuck f)) n e = absurd (omega (arith, e.0))
    halted_said (ended ts b h (is_open f k)) n e = absurd (omega (arith, e.0))
    halted_said (halted F) n e = subst (FirstForbidden S c trace) e.1 F

    -- every verdict but its own is another number
    pub by_the_rules : length trace % 2 ≡ 0 → ByTheRules S c trace (replay_numbers (replay S c trace))
    by_the_rules even = go (replay S c trace) refl (from_parts (parted trace even start))
      where
        orders : (v w : Replay) (ts : List Step) → replay S c trace ≡ v → bytes_of ts ≡ trace → is_order_from S c start ts ≡ true
            → standing S c (after S start ts) ≡ w → v ≡ w
        orders v w ts i b h e = sym i ∙ order_judged ts b h ∙ e

        go : (v : Replay) → replay S c trace ≡ v → Judged v → ByTheRules S c trace (replay_numbers v)
        go v i j =
            record {
              finished_when = (finished_said j, λ k. ap word (orders v finishes k.0 i k.1 k.2.is_order (finished_stands _ k.2.is_finished)));
              stuck_when = (stuck_said j, λ k. ap word (orders v sticks k.0 i k.1 k.2.is_order (stuck_stands _ k.2.is_stuck)));
              open_when = (open_said j, λ k. ap word (orders v open' k.0 i k.1 k.2.is_order (open_stands _ k.2.unfinished k.2.unstuck)));
              not_allowed_when = λ n. (halted_said j n, λ F. let e : v ≡ not_allowed n = sym i ∙ forbidden_judged n F in (ap word e, ap (λ (w : Replay). (replay_numbers w).one) e));
            }

    -- no trace of an accepted sheet is refused
    unrefused : {C : Type 0} {v : Replay} → Judged v → (number line : ℕ) → v ≡ refused number line → C
    unrefused (ended ts b h (is_finished f)) number line e = let z : ◌≡◌ {A = ℕ} 0 1 = cc in absurd (omega arith)
    unrefused (ended ts b h (is_stuck f)) number line e = let z : ◌≡◌ {A = ℕ} 0 1 = cc in absurd (omega arith)
    unrefused (ended ts b h (is_open f k)) number line e = let z : ◌≡◌ {A = ℕ} 0 1 = cc in absurd (omega arith)
    unrefused (halted F) number line e = let z : ◌≡◌ {A = ℕ} 0 1 = cc in absurd (omega arith)

    replay_unrefused : {C : Type 0} → length trace % 2 ≡ 0 → (number line : ℕ) → replay S c trace ≡ refused number line → C
    replay_unrefused even number line e = unrefused (from_parts (parted trace even start)) number line e

-- the start is finished without messages, and otherwise a step is left
start_stands : (S : Scenario) (c : Channel) → Causal S → word (standing S c start) ≡ cond (eqb S.count 0) finished_word open_word
unfolding finished every_event every
start_stands S c C = go S.count refl
  where
    go : (n : ℕ) → S.count ≡ n → word (standing S c start) ≡ cond (eqb n 0) finished_word open_word
    go zero e = ap word (finished_stands S c start (rw e))
    go (suc n) e = ap word (open_stands S c start unfinished unstuck) ∙ sym (ap (λ b. cond b finished_word open_word) (ne_eqb (suc n) 0 (λ z. omega (arith, z))))
      where
        some_message : 0 < S.count
        some_message = omega (arith, e)

        unfinished : finished S start ≡ false
        unfinished =
            subst⁻¹ (λ (s : State). finished S s ≡ false) (view_start S)
            (⊎_elim (λ f. absurd (omega (arith, finished_use S (λ m. 0) f 0 some_message))) (λ f. f) (which (finished S (view S (λ m. 0)))))

        unstuck : stuck S c start ≡ false
        unstuck =
            subst⁻¹ (λ (s : State). stuck S c s ≡ false) (view_start S)
            (⊎_elim (λ t. let m = start_moves S C c some_message in absurd (stuck_forbids S (λ m. 0) c C t m.0 m.1)) (λ f. f) (which (stuck S c (view S (λ m. 0)))))

-- What the call promises of an accepted sheet, and of the check's own traces.
module _ (text : List ℕ) (code scratch_length : ℕ) (trace : List ℕ) where
  pub replay_parts : (S : Scenario) → replayable text code scratch_length (length trace) ≡ ok S
      → (code < channels) × (is_trace (length trace) ≡ true) × (sheet_of text ≡ ok S)
  unfolding replayable
  replay_parts S e =
      let a = cond_ok (ltb code channels) _ _ _ S e in
      let b = cond_refused (ltb scratch_length scratch_least) _ _ _ S a.1 in
      let d = cond_ok (is_trace (length trace)) _ _ _ S b.1 in
      (ltb-true code channels a.0, d.0, d.1)

  pub replay_by_the_rules : (S : Scenario) → replayable text code scratch_length (length trace) ≡ ok S
      → ByTheRules S (channel_of code) trace (replay_numbers (replay_of text code scratch_length trace))
  unfolding replay_of replay_for is_trace
  replay_by_the_rules S e =
      let p = replay_parts S e in
      let even : length trace % 2 ≡ 0 = eqb-true (length trace % 2) 0 (and_left (eqb (length trace % 2) 0) (leb (length trace) trace_least) p.1) in
      rw e (by_the_rules S (channel_of code) trace even)

  pub empty_trace_holds : (S : Scenario) → replayable text code scratch_length (length trace) ≡ ok S → trace ≡ []
      → word (replay_of text code scratch_length trace) ≡ cond (eqb S.count 0) finished_word open_word
  unfolding replay_of replay_for replay replay_from steps_in
  empty_trace_holds S e t =
      let stands = start_stands S (channel_of code) (sheet_causal text S (replay_parts S e).2) in
      rw e (subst⁻¹ (λ (l : List ℕ). word (replay S (channel_of code) l) ≡ cond (eqb S.count 0) finished_word open_word) t stands)

  pub schedules_stick_holds : (m n e x : ℕ) (ts : List Step) → answer_of text code m n ≡ locked e x ts → trace ≡ bytes_of ts → scratch_least ≤ scratch_length
      → replay_of text code scratch_length trace ≡ sticks
  unfolding replay_of replay_for replayable is_trace
  schedules_stick_holds m n e x ts h t l =
      let k = locked_stuck text code m n e x ts h in
      let S = k.0 in
      let count : S.count ≤ messages_most = sheet_count text S k.1.sheet in
      let long : length trace ≡ 2 * length ts = ap length t ∙ bytes_length ts in
      let few : length trace ≤ trace_least = omega (arith, k.3) in
      let even : length trace % 2 ≡ 0 = omega arith in
      rw (lt-ltb code channels k.1.code_known, le-ltb scratch_length scratch_least l, eq-eqb (length trace % 2) 0 even, le-leb (length trace) trace_least few, k.1.sheet)
      (order_judged S (channel_of code) trace ts (sym t) k.2.is_order ∙ stuck_stands S (channel_of code) (after S start ts) k.2.is_stuck)

-- the two numbers behind the word are small: a refusal's number and its line, or a step's index
module _ (text : List ℕ) (code scratch_length : ℕ) (trace : List ℕ) where
  abbrev SmallPair : ReplayNumbers → Type 0
  SmallPair r = (r.one ≤ trace_least) × (r.two ≤ line_of rows_most)

  refusal_small : (number line : ℕ) → replayable text code scratch_length (length trace) ≡ refusal number line → (number ≤ trace_least) × (line ≤ line_of rows_most)
  unfolding replayable
  refusal_small number line e = go (ltb code channels) (ltb scratch_length scratch_least) (is_trace (length trace)) e
    where
      of_sheet : (o : Out Scenario) → Well (line_of rows_most) o → o ≡ refusal number line → (number ≤ trace_least) × (line ≤ line_of rows_most)
      of_sheet (ok S) w i = not_refused (sym i)
      of_sheet (refusal n l) w i =
          let a : n ≡ number = cc in
          let b : l ≡ line = cc in
          (omega (arith, w.known), omega (arith, w.within))

      fixed : (n : ℕ) → n ≤ trace_refusal → ◌≡◌ {A = Out Scenario} (refusal n 0) (refusal number line) → (number ≤ trace_least) × (line ≤ line_of rows_most)
      fixed n h i =
          let a : n ≡ number = cc in
          let b : 0 ≡ line = cc in
          (omega arith, omega arith)

      go : (a b d : Bool) → cond a (cond b (refusal bench_refusal 0) (cond d (sheet_of text) (refusal trace_refusal 0))) (refusal channel_refusal 0) ≡ refusal number line
          → (number ≤ trace_least) × (line ≤ line_of rows_most)
      go false b d i = fixed channel_refusal (omega arith) i
      go true true d i = fixed bench_refusal (omega arith) i
      go true false true i = of_sheet (sheet_of text) (sheet_well text) i
      go true false false i = fixed trace_refusal (omega arith) i

  pub replay_small : SmallPair (replay_numbers (replay_of text code scratch_length trace))
  unfolding replay_of replay_for is_trace
  replay_small = go (replayable text code scratch_length (length trace)) refl
    where
      by_verdict : (S : Scenario) → length trace % 2 ≡ 0 → length trace ≤ trace_least → (v : Replay) → ByTheRules S (channel_of code) trace (replay_numbers v) → replay S (channel_of code) trace ≡ v → SmallPair (replay_numbers v)
      by_verdict S even l finishes r e = (omega arith, omega arith)
      by_verdict S even l sticks r e = (omega arith, omega arith)
      by_verdict S even l open' r e = (omega arith, omega arith)
      by_verdict S even l (not_allowed i) r e = (omega (arith, ((r.not_allowed_when i).0 (refl, refl)).inside), omega arith)
      by_verdict S even l (refused number line) r e = replay_unrefused S (channel_of code) trace even number line e

      go : (o : Out Scenario) → replayable text code scratch_length (length trace) ≡ o → SmallPair (replay_numbers (replay_for o code trace))
      go (refusal number line) e = refusal_small number line e
      go (ok S) e =
          let p = replay_parts text code scratch_length trace S e in
          let fits = and_right (eqb (length trace % 2) 0) (leb (length trace) trace_least) p.1 in
          let even : length trace % 2 ≡ 0 = eqb-true (length trace % 2) 0 (and_left (eqb (length trace % 2) 0) (leb (length trace) trace_least) p.1) in
          by_verdict S even (leb-true (length trace) trace_least fits) (replay S (channel_of code) trace) (by_the_rules S (channel_of code) trace even) refl
