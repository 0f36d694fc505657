-- Request (k), lists of calls: each takes the dispatcher that the last call left. The state, the answers and the numbers given out are those of
-- the calls one after the other. Assumes nothing.
use Prim.Native.Nat.{ℕ, suc, ◌+◌, ◌<◌, ◌≤◌}
use native.Mathlib.Omega.{arith}
use mathlib.Core.Path.{◌≡◌, refl, sym, ◌∙◌, ap, subst, subst⁻¹}
use mathlib.Core.Bool.{true, false}
use mathlib.Core.List.{List, [], ◌∷◌, ◌++◌}
use lib.Dec.{eqb}
use lib.ListN.{length}
use Rattle.model.specs.Limits.{trace_least, job_numbers}
use Rattle.model.specs.Order.{Scenario}
use Rattle.model.specs.Closure.{cells}
use Rattle.model.specs.Answer.{Numbers}
use Rattle.model.specs.Dispatcher.{code_at, Job, DispatcherState, admitting, Call, admit, lent_to, trace_to, Outcome, admitted, idle, taken, answered, cancelled, refused, outcome_of, behind, admitted_word, idle_word, taken_word, answered_word, cancelled_word, refused_word, Told, no_answer, told_as, Served, Serves, Entry, Session, opened, served, calls_of, dispatcher_from, ToldFrom, given_out}
use Rattle.model.proofs.Closure.{cells_same}
use Rattle.model.proofs.CallCases.{Admissible, Does, refuses, idles, admits, takes, answers, cancels, call_does}
use Rattle.model.proofs.Queue.{OneEach, one_each_behind}

-- ---- what the outcome of a call says of the call

-- a call that admits, into place p and with number n
pub record Admission (d : DispatcherState) (c : Call) (n p : ℕ) : Type 0 where
  pub scenario : Scenario
  pub is_admit : c ≡ admit (lent_to c)
  pub is_next : n ≡ d.given
  pub parts : Admissible d (lent_to c) p scenario
  -- the new job stands behind the last
  pub next : behind d c ≡ admitting d p (code_at (lent_to c) p) scenario.count

pub admission_of : (d : DispatcherState) (c : Call) (n p : ℕ) → outcome_of d c ≡ admitted n p → Admission d c n p
admission_of d c n p e = go c (behind d c) (outcome_of d c) (call_does d c) refl e
  where
    go : (b : Call) (next : DispatcherState) (o : Outcome) → Does d b next o → behind d b ≡ next → o ≡ admitted n p → Admission d b n p
    go b next o refuses f i = let z : ◌≡◌ {A = ℕ} 0 1 = cc in absurd (omega arith)
    go b next o (idles h) f i = let z : ◌≡◌ {A = ℕ} 0 1 = cc in absurd (omega arith)
    go b next o (admits {l = l} {p = q} {S = S} a) f i =
        let number : n ≡ d.given = cc in
        let place : q ≡ p = cc in
        subst (λ (k : ℕ). Admission d (admit l) n k) place (record { scenario = S; is_admit = refl; is_next = number; parts = a; next = f })
    go b next o (takes h early) f i = let z : ◌≡◌ {A = ℕ} 0 1 = cc in absurd (omega arith)
    go b next o (answers h due long) f i = let z : ◌≡◌ {A = ℕ} 0 1 = cc in absurd (omega arith)
    go b next o (cancels h) f i = let z : ◌≡◌ {A = ℕ} 0 1 = cc in absurd (omega arith)

-- a job is answered only where the trace lent is long enough
pub trace_enough : (d : DispatcherState) (c : Call) (n : ℕ) → outcome_of d c ≡ answered n → trace_least ≤ length (trace_to c)
trace_enough d c n e = go c (behind d c) (outcome_of d c) (call_does d c) e
  where
    go : (b : Call) (next : DispatcherState) (o : Outcome) → Does d b next o → o ≡ answered n → trace_least ≤ length (trace_to b)
    go b next o refuses i = let z : ◌≡◌ {A = ℕ} 0 1 = cc in absurd (omega arith)
    go b next o (idles h) i = let z : ◌≡◌ {A = ℕ} 0 1 = cc in absurd (omega arith)
    go b next o (admits a) i = let z : ◌≡◌ {A = ℕ} 0 1 = cc in absurd (omega arith)
    go b next o (takes h early) i = let z : ◌≡◌ {A = ℕ} 0 1 = cc in absurd (omega arith)
    go b next o (answers h due long) i = long
    go b next o (cancels h) i = let z : ◌≡◌ {A = ℕ} 0 1 = cc in absurd (omega arith)

-- the answer tells that a call admitted
pub told_admitted : (o : Outcome) (a : Numbers) (n p : ℕ) → told_as o a ≡ told_as (admitted n p) no_answer → o ≡ admitted n p
told_admitted (admitted m q) a n p e =
    let number : m ≡ n = ap (λ (t : Told). t.one) e in
    let place : q ≡ p = ap (λ (t : Told). t.two) e in
    cc
told_admitted idle a n p e = let w : idle_word ≡ admitted_word = ap (λ (t : Told). t.word) e in absurd (omega arith)
told_admitted (taken m) a n p e = let w : taken_word ≡ admitted_word = ap (λ (t : Told). t.word) e in absurd (omega arith)
told_admitted (answered m) a n p e = let w : answered_word ≡ admitted_word = ap (λ (t : Told). t.word) e in absurd (omega arith)
told_admitted (cancelled m) a n p e = let w : cancelled_word ≡ admitted_word = ap (λ (t : Told). t.word) e in absurd (omega arith)
told_admitted (refused number line) a n p e = let w : refused_word ≡ admitted_word = ap (λ (t : Told). t.word) e in absurd (omega arith)

-- ---- the numbers given out

-- a call that admits gives out the next number, and no other call gives one
data Gives (d next : DispatcherState) (o : Outcome) : Type 0 where
  gives : {p : ℕ} → o ≡ admitted d.given p → next.given ≡ suc d.given → d.given < job_numbers → Gives d next o
  gives_none : ((a : Numbers) → eqb (told_as o a).word admitted_word ≡ false) → next.given ≡ d.given → Gives d next o

call_gives : (d : DispatcherState) (c : Call) (next : DispatcherState) (o : Outcome) → Does d c next o → Gives d next o
unfolding admitting
call_gives d c next o refuses = gives_none (λ a. refl) refl
call_gives d c next o (idles e) = gives_none (λ a. refl) refl
call_gives d c next o (admits m) = gives refl refl m.number_left
call_gives d c next o (takes e early) = gives_none (λ a. refl) refl
call_gives d c next o (answers e due long) = gives_none (λ a. refl) refl
call_gives d c next o (cancels held) = gives_none (λ a. refl) refl

-- numbers given out between a first and a last dispatcher, by how many each has given out: one after the other, and none past the limit
pub record Numbered (first last : ℕ) (numbers : List ℕ) : Type 0 where
  pub in_order : numbers ≡ cells (length numbers) (λ k. first + k)
  pub total : last ≡ first + length numbers
  pub most : last ≤ job_numbers

one_more : (first last : ℕ) (numbers : List ℕ) → Numbered (suc first) last numbers → Numbered first last (first ∷ numbers)
unfolding cells
one_more first last numbers h =
    let head : first ≡ first + 0 = omega arith in
    let rest : numbers ≡ cells (length numbers) (λ k. first + suc k) =
    h.in_order ∙ cells_same (length numbers) (λ k. suc first + k) (λ k. first + suc k) (λ k. omega arith) in
    record {
      in_order = ap (λ k. k ∷ numbers) head ∙ ap (λ l. (first + 0) ∷ l) rest;
      total = omega (arith, h.total);
      most = h.most;
    }

pub numbered : (d : DispatcherState) (es : List Entry) → d.given ≤ job_numbers → ToldFrom d es
    → Numbered d.given (dispatcher_from d (calls_of es)).given (given_out es)
unfolding given_out cells dispatcher_from calls_of
numbered d [] le told = record { in_order = refl; total = omega arith; most = le }
numbered d (e ∷ es) le told =
    go (call_gives d e.call next (outcome_of d e.call) (call_does d e.call)) (λ h. numbered next es h told.1)
  where
    next : DispatcherState
    next = behind d e.call

    last : ℕ
    last = (dispatcher_from next (calls_of es)).given

    go : Gives d next (outcome_of d e.call) → (next.given ≤ job_numbers → Numbered next.given last (given_out es))
        → Numbered d.given last (given_out (e ∷ es))
    go (gives {p = p} o one left) more =
        let t = told.0 ∙ ap (λ u. told_as u e.told.answer) o in
        let is_it : eqb e.told.word admitted_word ≡ true = ap (λ (u : Told). eqb u.word admitted_word) t in
        let number : e.told.one ≡ d.given = ap (λ (u : Told). u.one) t in
        let rest = subst (λ (k : ℕ). Numbered k last (given_out es)) one (more (omega arith)) in
        rw (is_it, number) (one_more d.given last (given_out es) rest)
    go (gives_none other same) more =
        let is_not : eqb e.told.word admitted_word ≡ false =
        ap (λ (u : Told). eqb u.word admitted_word) told.0 ∙ other e.told.answer in
        let rest = subst (λ (k : ℕ). Numbered k last (given_out es)) same (more (omega arith)) in
        rw is_not rest

-- ---- calls one after the other

module _ {M : Type 0} (state_in : M → DispatcherState) (Holds : M → List ℕ → Job → Scenario → Type 0) where
  -- one call, from a dispatcher
  pub record Called (d : M) (e : Entry) : Type 0 where
    pub result : Served M
    pub serves : Serves state_in Holds d e.call e.words e.trace result
    pub told : e.told ≡ result.told

  -- calls from a dispatcher to the one that they leave, each from what the last one left
  abbrev pub Ran : M → List Entry → M → Type 0
  Ran d [] last = d ≡ last
  Ran d (e ∷ es) last = (c : Called d e) × Ran c.result.next es last

  ran_more : (es : List Entry) (d last : M) (e : Entry) (c : Called last e) → Ran d es last → Ran d (es ++ (e ∷ [])) c.result.next
  ran_more [] d last e c r =
      subst (λ (m : M). (k : Called m e) → (i : Called d e) × (i.result.next ≡ k.result.next)) r (λ k. (k, refl)) c
  ran_more (f ∷ es) d last e c r = (r.0, ran_more es r.0.result.next last e c r.1)

  pub ran_split : (es fs : List Entry) (d last : M) → Ran d (es ++ fs) last → (m : M) × Ran d es m × Ran m fs last
  ran_split [] fs d last r = (d, refl, r)
  ran_split (e ∷ es) fs d last r = let q = ran_split es fs r.0.result.next last r.1 in (q.0, (r.0, q.1), q.2)

  pub session_ran : (empty : M) {es : List Entry} {d : M} → Session state_in Holds empty es d → Ran empty es d
  session_ran empty opened = refl
  session_ran empty (served {es} {d} {e} {r} s p t) = ran_more es empty d e (record { result = r; serves = p; told = t }) (session_ran empty s)

  -- a call answers as the dispatcher that it was handed says
  pub told_as_holds : (d : M) (e : Entry) (c : Called d e) → e.told ≡ told_as (outcome_of (state_in d) e.call) e.told.answer
  told_as_holds d e c = c.told ∙ c.serves.told ∙ ap (λ (t : Told). told_as (outcome_of (state_in d) e.call) t.answer) (sym c.told)

  pub ran_state : (es : List Entry) (d last : M) → Ran d es last → state_in last ≡ dispatcher_from (state_in d) (calls_of es)
  unfolding dispatcher_from calls_of
  ran_state [] d last r = ap state_in (sym r)
  ran_state (e ∷ es) d last r =
      ran_state es r.0.result.next last r.1 ∙ ap (λ k. dispatcher_from k (calls_of es)) r.0.serves.next

  pub ran_told : (es : List Entry) (d last : M) → Ran d es last → ToldFrom (state_in d) es
  ran_told [] d last r = tt
  ran_told (e ∷ es) d last r =
      (told_as_holds d e r.0, subst (λ (k : DispatcherState). ToldFrom k es) r.0.serves.next (ran_told es r.0.result.next last r.1))

  -- each job has a place and a number of its own, behind one call and behind all
  pub called_one_each : (d : M) (e : Entry) (c : Called d e) → OneEach (state_in d) → OneEach (state_in c.result.next)
  called_one_each d e c o = subst⁻¹ OneEach c.serves.next (one_each_behind (state_in d) e.call o)

  pub ran_one_each : (es : List Entry) (d last : M) → Ran d es last → OneEach (state_in d) → OneEach (state_in last)
  ran_one_each [] d last r o = subst (λ (m : M). OneEach (state_in m)) r o
  ran_one_each (e ∷ es) d last r o = ran_one_each es r.0.result.next last r.1 (called_one_each d e r.0 o)
