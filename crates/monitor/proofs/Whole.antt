-- The whole promises, from what the parts of the calls hand on. Assumes nothing.
use Rattle.std.specs.Prelude.{Err}
use mathlib.Core.Logic.{⊎_elim}
use Rattle.outcome.specs.declared.Reason.{Reason}
use Rattle.outcome.specs.declared.Reason.TheVariants.{Channel, Bench}
use Rattle.outcome.specs.declared.Refusal.{Refusal}
use Rattle.outcome.specs.Refusals.{number_in}
use mathlib.Core.Path.{◌≡◌, refl, sym, ◌∙◌, ap, subst, subst⁻¹}
use mathlib.Core.Bool.{Bool, true, false, cond}
use mathlib.Core.List.{List, ◌++◌}
use mathlib.Core.Option.{Option}
use Prim.Native.Nat.{ℕ, ◌<◌, ◌≤◌}
use native.Mathlib.Omega.{arith}
use borrow.Author.Tests.{lt-ltb, le-ltb, le-leb}
use lib.ListN.{length, drop}
use Rattle.model.specs.Limits.{channels, scratch_least}
use Rattle.model.specs.Refusal.{Out, ok, refusal, channel_refusal, bench_refusal, switch_refusal}
use Rattle.model.specs.Order.{Scenario}
use Rattle.model.specs.Run as runs
use Rattle.model.specs.Run.{State}
use Rattle.model.specs.Schedule.{step_told}
use Rattle.model.specs.Answer.{sheet_of, scratch_behind}
use Rattle.model.specs.Monitor as model
use Rattle.model.specs.Monitor.{Held, taken_word, forbidden_word, refused_word, watchable, switchable, is_barred, Call, may_take, taking, word_to, leaving, behind, held_from, fresh, Opened, ByTheRules, Stepped, Switched, WholeLists}
use Rattle.model.proofs.Refusal.{not_refused}
use Rattle.model.proofs.Accepted.{sheet_meets}
use Rattle.model.proofs.Monitor.{Inside, list_inside, held_code, whole_lists}
use Rattle.relation.specs.Rows.{cleared}
use Rattle.relation.proofs.Cleared.{cleared_all}
use Rattle.scenario.proofs.Laws.{scratch_behind_holds}
use Rattle.run.specs.declared.Run.{Run}
use Rattle.run.specs.State.{state_of, OnlySends}
use Rattle.run.proofs.Written.{start_zeros, state_back, only_sends}
use Rattle.monitor.specs.declared.Monitor.{Monitor}
use Rattle.monitor.specs.Bridge.{held_in, monitor_of, zeros, refused_as, answer_of, Lends, Begins, Takes, Steps, Made, Switches}

abbrev Reply : Type 0
Reply = model.MonitorAnswer Monitor

-- the reply to a refusal
unfoldable reply_to : {A : Type 0} → Out A → Monitor → Reply → Reply
reply_to (ok a) m r = r
reply_to (refusal number line) m r = refused_as number line m

-- a reply that refuses with the number and the line does so with any that the call is refused with
same_refusal : {A : Type 0} (number line n l : ℕ) (m : Monitor) (r : Reply) → r ≡ refused_as number line m
    → ◌≡◌ {A = Out A} (refusal number line) (refusal n l) → r ≡ refused_as n l m
unfolding reply_to
same_refusal number line n l m r e i = e ∙ ap (λ o. reply_to o m r) i

-- the answer to a refusal of the call's own
refuses_as : (m : Monitor) (e : Refusal) (reason : Reason) → e ≡ record { reason = reason; line = 0 } → answer_of m (Err e) ≡ refused_as (number_in reason) 0 m
refuses_as m e reason i = ap (λ (q : Refusal). refused_as (number_in q.reason) q.line m) i

-- What a code that is no channel's, and a scratch that is too short, come to.
module _ (text : List ℕ) where
  unknown : (code n : ℕ) → channels ≤ code → watchable text code n ≡ refusal channel_refusal 0
  unfolding watchable
  unknown code n h = rw (le-ltb code channels h)

  short : (code n : ℕ) → code < channels → n < scratch_least → watchable text code n ≡ refusal bench_refusal 0
  unfolding watchable
  short code n h l = rw (lt-ltb code channels h, lt-ltb n scratch_least l)

  lent : (code n : ℕ) → code < channels → scratch_least ≤ n → watchable text code n ≡ sheet_of text
  unfolding watchable
  lent code n h l = rw (lt-ltb code channels h, le-ltb n scratch_least l)

-- refusals 1 and 2 leave the scratch
untouched : (number : ℕ) (words : List ℕ) (o : Out Scenario) → number ≤ bench_refusal → o ≡ refusal number 0 → words ≡ scratch_behind o words
unfolding scratch_behind
untouched number words o l e = sym (rw (e, le-leb number bench_refusal l))

-- what is held inside the limits is read back, and the monitor opened is that of the fresh state
read_back : (h : Held) → Inside h → held_in (monitor_of h) ≡ h
read_back h i = ap (λ (s : State). record { state = s; code = h.code }) (state_back h.state i.done i.way i.boards_hold)

pub all_lists : WholeLists held_in monitor_of zeros
all_lists = whole_lists held_in monitor_of zeros (λ code. ap (λ (q : Run). record { run = q; code = code }) (sym start_zeros)) read_back

-- What is known of a monitor that some list of calls has left: what it holds, that its words are those, and that none has a bit of a receive.
record Left (m : Monitor) (h : Held) : Type 0 where
  holds : held_in m ≡ h
  written : m ≡ monitor_of (held_in m)
  sends : OnlySends m.run

left_by : (m : Monitor) (text : List ℕ) (S : Scenario) → sheet_of text ≡ ok S → (code : ℕ) (cs : List Call) → m ≡ monitor_of (held_from S (fresh code) cs)
    → Left m (held_from S (fresh code) cs)
left_by m text S e code cs i =
    let h = held_from S (fresh code) cs in
    let same : held_in m ≡ h = ap held_in i ∙ read_back h (list_inside text S e code cs) in
    record { holds = same; written = i ∙ ap monitor_of (sym same); sends = subst⁻¹ (λ (q : Monitor). OnlySends q.run) i (only_sends h.state) }

-- ---- opening

module _ (text : List ℕ) (code : ℕ) (scratch : List ℕ) (r : Reply) where
  abbrev Promise : List ℕ → Type 0
  Promise scratch_exit = Opened held_in monitor_of zeros text code scratch scratch_exit r

  refuses : (number : ℕ) → watchable text code (length scratch) ≡ refusal number 0 → r ≡ refused_as number 0 (zeros 0) → number ≤ bench_refusal → Promise scratch
  refuses number w e l =
      record {
        refused_when = λ n k i. same_refusal number 0 n k (zeros 0) r e (sym w ∙ i);
        opened_when = λ S i. not_refused (sym w ∙ i);
        causal_order = λ S i. not_refused (sym w ∙ i);
        scratch_left = untouched number scratch (watchable text code (length scratch)) l w;
      }

  open_unknown : channels ≤ code → r ≡ refused_as channel_refusal 0 (zeros 0) → Promise scratch
  open_unknown h e = refuses channel_refusal (unknown text code (length scratch) h) e (omega arith)

  open_short : code < channels → length scratch < scratch_least → r ≡ refused_as bench_refusal 0 (zeros 0) → Promise scratch
  open_short h l e = refuses bench_refusal (short text code (length scratch) h l) e (omega arith)

pub open_unlent : (text : List ℕ) (code : ℕ) (scratch : List ℕ) (e : Refusal) → Lends code (length scratch) (Err e)
    → Opened held_in monitor_of zeros text code scratch scratch (answer_of (zeros 0) (Err e))
open_unlent text code scratch e u =
    ⊎_elim (λ q. open_unknown text code scratch _ q.0 (refuses_as (zeros 0) e Channel q.1)) (λ q. open_short text code scratch _ q.0 q.1 (refuses_as (zeros 0) e Bench q.2)) u

pub opens : (text : List ℕ) (code : ℕ) (scratch scratch_exit used : List ℕ) (n : ℕ) (r : Reply) (k : ℕ) → code < channels → scratch_least ≤ length scratch
    → length used ≡ n → n ≤ scratch_least → scratch_exit ≡ cleared k (used ++ drop n scratch) → k ≡ scratch_least → Begins (sheet_of text) code r
    → Opened held_in monitor_of zeros text code scratch scratch_exit r
opens text code scratch scratch_exit used n r k h l e m s all b =
    let w = lent text code (length scratch) h l in
    let at : (o : Out Scenario) → watchable text code (length scratch) ≡ o → Begins o code r
    = λ o i. subst (λ (q : Out Scenario). Begins q code r) (sym w ∙ i) b in
    record {
      refused_when = λ number line i. at (refusal number line) i;
      opened_when = λ S i. at (ok S) i;
      causal_order = λ S i. sheet_meets text S (sym w ∙ i);
      scratch_left = cleared_all scratch_least k (used ++ drop n scratch) scratch_exit s all ∙ scratch_behind_holds text scratch used n e m ∙ ap (λ (o : Out Scenario). scratch_behind o scratch) (sym w);
    }

-- ---- a step

module _ (m : Monitor) (kind message : ℕ) (text scratch : List ℕ) (r : Reply) where
  abbrev asked : Call
  asked = model.step kind message (length scratch)

  abbrev StepPromise : List ℕ → Type 0
  StepPromise scratch_exit = Stepped held_in monitor_of zeros m kind message text scratch scratch_exit r

  step_refuses : (number : ℕ) → watchable text m.code (length scratch) ≡ refusal number 0 → r ≡ refused_as number 0 m → number ≤ bench_refusal
      → ((S : Scenario) → m.code < channels → refused_word ≡ word_to S (held_in m) asked) → StepPromise scratch
  unfolding behind
  step_refuses number w e l word =
      record {
        refused_when = λ n k i. same_refusal number 0 n k m r e (sym w ∙ i);
        refused_only = λ S i u. not_refused (sym w ∙ i);
        scratch_left = untouched number scratch (watchable text m.code (length scratch)) l w;
        by_the_rules = λ S code cs is_sheet known left.
            let l = left_by m text S is_sheet code cs left in
            let in_force : m.code < channels = subst⁻¹ (λ (h : Held). h.code < channels) l.holds (held_code S cs (fresh code) known) in
            let two = word S in_force in
            let same : behind S (held_in m) asked ≡ held_in m = rw (← two) in
            subst (λ (h : Held). ByTheRules held_in monitor_of zeros S h m asked r) l.holds
            (record {
              word = ap (λ (a : Reply). a.word) e ∙ two;
              monitor = ap (λ (a : Reply). a.next) e ∙ l.written ∙ ap monitor_of (sym same);
              taken = λ f. let one : refused_word ≡ taken_word = sym (ap (λ (a : Reply). a.word) e) ∙ f in absurd (omega (arith, one));
              forbidden = λ f. let one : refused_word ≡ forbidden_word = sym (ap (λ (a : Reply). a.word) e) ∙ f in absurd (omega (arith, one));
            });
      }

  step_unknown : channels ≤ m.code → r ≡ refused_as channel_refusal 0 m → StepPromise scratch
  step_unknown h e =
      step_refuses channel_refusal (unknown text m.code (length scratch) h) e (omega arith) (λ S k. absurd (omega (arith, h, k)))

  step_short : m.code < channels → length scratch < scratch_least → r ≡ refused_as bench_refusal 0 m → StepPromise scratch
  unfolding word_to
  step_short h l e =
      step_refuses bench_refusal (short text m.code (length scratch) h l) e (omega arith) (λ S k. sym (rw (lt-ltb (length scratch) scratch_least l)))

  -- the rules, from what the step told came to
  word_is : (S : Scenario) (told : Option runs.Step) (b : Bool) → told ≡ step_told kind message → scratch_least ≤ length scratch
      → may_take S (held_in m) told ≡ b → word_to S (held_in m) asked ≡ cond b taken_word forbidden_word
  unfolding word_to
  word_is S told b t l e = rw (le-ltb (length scratch) scratch_least l, ← t, e)

  behind_taken : (S : Scenario) → word_to S (held_in m) asked ≡ taken_word → behind S (held_in m) asked ≡ taking S (held_in m) (step_told kind message)
  unfolding behind leaving
  behind_taken S w = rw w

  behind_same : (S : Scenario) → word_to S (held_in m) asked ≡ forbidden_word → behind S (held_in m) asked ≡ held_in m
  unfolding behind
  behind_same S w = rw w

  step_rules : (S : Scenario) (told : Option runs.Step) → told ≡ step_told kind message → scratch_least ≤ length scratch → Takes S m told r
      → m ≡ monitor_of (held_in m) → OnlySends m.run → ByTheRules held_in monitor_of zeros S (held_in m) m asked r
  step_rules S told t l h written only = go (may_take S (held_in m) told) refl
    where
      go : (b : Bool) → may_take S (held_in m) told ≡ b → ByTheRules held_in monitor_of zeros S (held_in m) m asked r
      go true e =
          let w = word_is S told true t l e in
          let q = h.taken e in
          record {
            word = q.0 ∙ sym w;
            monitor = h.monitor e only ∙ ap (λ told. monitor_of (taking S (held_in m) told)) t ∙ ap monitor_of (sym (behind_taken S w));
            taken = λ f. (q.1, q.2);
            forbidden = λ f. let z : taken_word ≡ forbidden_word = sym q.0 ∙ f in absurd (omega (arith, z));
          }
      go false e =
          let w = word_is S told false t l e in
          let q = h.forbidden e in
          record {
            word = ap (λ (a : Reply). a.word) q ∙ sym w;
            monitor = ap (λ (a : Reply). a.next) q ∙ written ∙ ap monitor_of (sym (behind_same S w));
            taken = λ f. let z : forbidden_word ≡ taken_word = sym (ap (λ (a : Reply). a.word) q) ∙ f in absurd (omega (arith, z));
            forbidden = λ f. q;
          }

  step_unrefused : (S : Scenario) (told : Option runs.Step) → Takes S m told r → r.word ≡ refused_word → ⊥
  step_unrefused S told h u = go (may_take S (held_in m) told) refl
    where
      go : (b : Bool) → may_take S (held_in m) told ≡ b → ⊥
      go true e = let z : taken_word ≡ refused_word = sym (h.taken e).0 ∙ u in omega (arith, z)
      go false e = let z : forbidden_word ≡ refused_word = sym (ap (λ (a : Reply). a.word) (h.forbidden e)) ∙ u in omega (arith, z)

  pub steps : (scratch_exit used : List ℕ) (n : ℕ) (told : Option runs.Step) (k : ℕ) → m.code < channels → scratch_least ≤ length scratch
      → length used ≡ n → n ≤ scratch_least → scratch_exit ≡ cleared k (used ++ drop n scratch) → k ≡ scratch_least → told ≡ step_told kind message
      → Steps (sheet_of text) m told r → StepPromise scratch_exit
  steps scratch_exit used n told k h l e f s all t b =
      let w = lent text m.code (length scratch) h l in
      record {
        refused_when = λ number line i. subst (λ (o : Out Scenario). Steps o m told r) (sym w ∙ i) b;
        refused_only = λ S i. step_unrefused S told (subst (λ (o : Out Scenario). Steps o m told r) (sym w ∙ i) b);
        scratch_left = cleared_all scratch_least k (used ++ drop n scratch) scratch_exit s all ∙ scratch_behind_holds text scratch used n e f ∙ ap (λ (o : Out Scenario). scratch_behind o scratch) (sym w);
        by_the_rules = λ S code cs is_sheet known left.
            let known = left_by m text S is_sheet code cs left in
            subst (λ (h : Held). ByTheRules held_in monitor_of zeros S h m asked r) known.holds
            (step_rules S told t l (subst (λ (o : Out Scenario). Steps o m told r) is_sheet b) known.written known.sends);
      }

pub step_unlent : (m : Monitor) (kind message : ℕ) (text scratch : List ℕ) (e : Refusal) → Lends m.code (length scratch) (Err e)
    → Stepped held_in monitor_of zeros m kind message text scratch scratch (answer_of m (Err e))
step_unlent m kind message text scratch e u =
    ⊎_elim (λ q. step_unknown m kind message text scratch _ q.0 (refuses_as m e Channel q.1)) (λ q. step_short m kind message text scratch _ q.0 q.1 (refuses_as m e Bench q.2)) u

-- ---- a switch

module _ (m : Monitor) (code : ℕ) (text scratch : List ℕ) (r : Reply) where
  abbrev wanted : Call
  wanted = model.switch code (length scratch)

  abbrev SwitchPromise : List ℕ → Type 0
  SwitchPromise scratch_exit = Switched held_in monitor_of zeros m code text scratch scratch_exit r

  -- a switch that is refused changes nothing
  stays : (S : Scenario) → refused_word ≡ word_to S (held_in m) wanted → (number : ℕ) → r ≡ refused_as number 0 m → m ≡ monitor_of (held_in m)
      → ByTheRules held_in monitor_of zeros S (held_in m) m wanted r
  unfolding behind
  stays S two number e written =
      let same : behind S (held_in m) wanted ≡ held_in m = rw (← two) in
      record {
        word = ap (λ (a : Reply). a.word) e ∙ two;
        monitor = ap (λ (a : Reply). a.next) e ∙ written ∙ ap monitor_of (sym same);
        taken = λ f. let one : refused_word ≡ taken_word = sym (ap (λ (a : Reply). a.word) e) ∙ f in absurd (omega (arith, one));
        forbidden = λ f. let one : refused_word ≡ forbidden_word = sym (ap (λ (a : Reply). a.word) e) ∙ f in absurd (omega (arith, one));
      }

  -- 14 behind the sheet's own refusals
  unfoldable judged : Out Scenario → Out Scenario
  judged (ok S) = cond (is_barred code (state_of m.run)) (refusal switch_refusal 0) (ok S)
  judged (refusal number line) = refusal number line

  -- where 1 or 2 applies, 14 is not looked at
  first : (number : ℕ) → watchable text code (length scratch) ≡ refusal number 0 → switchable text code (length scratch) (state_of m.run) ≡ refusal number 0
  unfolding switchable judged
  first number w = ap judged w

  switch_refuses : (number : ℕ) → watchable text code (length scratch) ≡ refusal number 0 → r ≡ refused_as number 0 m → number ≤ bench_refusal
      → ((S : Scenario) → refused_word ≡ word_to S (held_in m) wanted) → SwitchPromise scratch
  switch_refuses number w e l word =
      record {
        refused_when = λ n k i. same_refusal number 0 n k m r e (sym (first number w) ∙ i);
        refused_only = λ S i u. not_refused (sym (first number w) ∙ i);
        scratch_left = untouched number scratch (switchable text code (length scratch) (state_of m.run)) l (first number w);
        by_the_rules = λ S opened cs is_sheet known left.
            let l = left_by m text S is_sheet opened cs left in
            subst (λ (h : Held). ByTheRules held_in monitor_of zeros S h m wanted r) l.holds (stays S (word S) number e l.written);
      }

  switch_unknown : channels ≤ code → r ≡ refused_as channel_refusal 0 m → SwitchPromise scratch
  unfolding word_to
  switch_unknown h e =
      switch_refuses channel_refusal (unknown text code (length scratch) h) e (omega arith) (λ S. sym (rw (le-ltb code channels h)))

  switch_short : code < channels → length scratch < scratch_least → r ≡ refused_as bench_refusal 0 m → SwitchPromise scratch
  unfolding word_to
  switch_short h l e =
      switch_refuses bench_refusal (short text code (length scratch) h l) e (omega arith)
      (λ S. sym (rw (lt-ltb code channels h, lt-ltb (length scratch) scratch_least l)))

  switch_word : (S : Scenario) (b : Bool) → code < channels → scratch_least ≤ length scratch → is_barred code (state_of m.run) ≡ b
      → word_to S (held_in m) wanted ≡ cond b refused_word taken_word
  unfolding word_to
  switch_word S true h l e = rw (lt-ltb code channels h, le-ltb (length scratch) scratch_least l, e)
  switch_word S false h l e = rw (lt-ltb code channels h, le-ltb (length scratch) scratch_least l, e)

  passes : (S : Scenario) → word_to S (held_in m) wanted ≡ taken_word → behind S (held_in m) wanted ≡ record { state = state_of m.run; code = code }
  unfolding behind leaving
  passes S w = rw w

  switch_rules : (S : Scenario) → code < channels → scratch_least ≤ length scratch → Made m code r → m ≡ monitor_of (held_in m)
      → ByTheRules held_in monitor_of zeros S (held_in m) m wanted r
  switch_rules S h l p written = go (is_barred code (state_of m.run)) refl
    where
      go : (b : Bool) → is_barred code (state_of m.run) ≡ b → ByTheRules held_in monitor_of zeros S (held_in m) m wanted r
      go true e = stays S (sym (switch_word S true h l e)) switch_refusal (p.barred e) written
      go false e =
          let w = switch_word S false h l e in
          let q = p.made e in
          record {
            word = ap (λ (a : Reply). a.word) q ∙ sym w;
            monitor = ap (λ (a : Reply). a.next) q ∙ ap (λ (n : Monitor). record { run = n.run; code = code }) written ∙ ap monitor_of (sym (passes S w));
            taken = λ f. (ap (λ (a : Reply). a.one) q, ap (λ (a : Reply). a.two) q);
            forbidden = λ f. let z : taken_word ≡ forbidden_word = sym (ap (λ (a : Reply). a.word) q) ∙ f in absurd (omega (arith, z));
          }

  switch_judged : code < channels → scratch_least ≤ length scratch → switchable text code (length scratch) (state_of m.run) ≡ judged (sheet_of text)
  unfolding switchable judged
  switch_judged h l = ap judged (lent text code (length scratch) h l)

  -- the scratch is cleared on 14 as on a sheet that is accepted
  same_scratch : (o : Out Scenario) → scratch_behind o scratch ≡ scratch_behind (judged o) scratch
  unfolding judged scratch_behind
  same_scratch (ok S) = go (is_barred code (state_of m.run))
    where
      go : (b : Bool) → scratch_behind (ok S) scratch ≡ scratch_behind (cond b (refusal switch_refusal 0) (ok S)) scratch
      go true = refl
      go false = refl
  same_scratch (refusal number line) = refl

  judged_refused : (o : Out Scenario) (number line : ℕ) → Switches o m code r → judged o ≡ refusal number line → r ≡ refused_as number line m
  unfolding judged
  judged_refused (ok S) number line p e = go (is_barred code (state_of m.run)) refl e
    where
      go : (b : Bool) → is_barred code (state_of m.run) ≡ b → cond b (refusal switch_refusal 0) (ok S) ≡ refusal number line → r ≡ refused_as number line m
      go true i f = same_refusal switch_refusal 0 number line m r (p.barred i) f
      go false i f = not_refused (sym f)
  judged_refused (refusal n l) number line p e = same_refusal n l number line m r p e

  judged_unrefused : (o : Out Scenario) (S : Scenario) → Switches o m code r → judged o ≡ ok S → r.word ≡ refused_word → ⊥
  unfolding judged
  judged_unrefused (ok T) S p e u = go (is_barred code (state_of m.run)) refl e
    where
      go : (b : Bool) → is_barred code (state_of m.run) ≡ b → cond b (refusal switch_refusal 0) (ok T) ≡ ok S → ⊥
      go true i f = not_refused f
      go false i f = let z : taken_word ≡ refused_word = sym (ap (λ (a : Reply). a.word) (p.made i)) ∙ u in omega (arith, z)
  judged_unrefused (refusal n l) S p e u = not_refused e

  pub switches : (scratch_exit used : List ℕ) (n k : ℕ) → code < channels → scratch_least ≤ length scratch
      → length used ≡ n → n ≤ scratch_least → scratch_exit ≡ cleared k (used ++ drop n scratch) → k ≡ scratch_least
      → Switches (sheet_of text) m code r → SwitchPromise scratch_exit
  switches scratch_exit used n k h l e f s all b =
      let w = switch_judged h l in
      record {
        refused_when = λ number line i. judged_refused (sheet_of text) number line b (sym w ∙ i);
        refused_only = λ S i. judged_unrefused (sheet_of text) S b (sym w ∙ i);
        scratch_left = cleared_all scratch_least k (used ++ drop n scratch) scratch_exit s all ∙ scratch_behind_holds text scratch used n e f ∙ same_scratch (sheet_of text) ∙ ap (λ (o : Out Scenario). scratch_behind o scratch) (sym w);
        by_the_rules = λ S opened cs is_sheet known left.
            let known = left_by m text S is_sheet opened cs left in
            subst (λ (q : Held). ByTheRules held_in monitor_of zeros S q m wanted r) known.holds
            (switch_rules S h l (subst (λ (o : Out Scenario). Switches o m code r) is_sheet b) known.written);
      }

pub switch_unlent : (m : Monitor) (code : ℕ) (text scratch : List ℕ) (e : Refusal) → Lends code (length scratch) (Err e)
    → Switched held_in monitor_of zeros m code text scratch scratch (answer_of m (Err e))
switch_unlent m code text scratch e u =
    ⊎_elim (λ q. switch_unknown m code text scratch _ q.0 (refuses_as m e Channel q.1)) (λ q. switch_short m code text scratch _ q.0 q.1 (refuses_as m e Bench q.2)) u
