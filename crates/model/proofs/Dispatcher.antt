-- Request (k): what the dispatcher's calls promise one by one, over whole lists of calls. Assumes nothing.
use Prim.Native.Nat.{ℕ, ◌+◌, ◌*◌, ◌<◌, ◌≤◌}
use native.Mathlib.Omega.{arith}
use mathlib.Core.Path.{◌≡◌, refl, sym, ◌∙◌, ap, subst, subst⁻¹}
use mathlib.Core.List.{List, [], ◌∷◌, ◌++◌}
use lib.ListN.{length}
use Rattle.model.specs.Limits.{messages_most, channels, scratch_least, trace_least, jobs_most, turns_most}
use Rattle.model.specs.Refusal.{ok}
use Rattle.model.specs.Order.{Scenario}
use Rattle.model.specs.Answer.{sheet_of, Numbers, answer_for, answer_of, numbers_of, trace_after}
use Rattle.model.specs.Verdict.{Verdict}
use Rattle.model.specs.Dispatcher.{code_at, sheet_at, place_words, Job, DispatcherState, empty_dispatcher, admitting, lent_to, trace_to, admitted, outcome_of, no_answer, told_as, Entry, calls_of, dispatcher_from, ToldFrom, given_out, AsTheCheck, JobServed, WholeLists}
use Rattle.model.proofs.Closure.{cells_same}
use Rattle.model.proofs.Accepted.{accepted_from, sheet_count, sheet_meets}
use Rattle.model.proofs.PointThree.{point_three_holds}
use Rattle.model.proofs.Queue.{OneEach, orderly_of, one_each_empty, jobs_most_holds, full_when}
use Rattle.model.proofs.Jobs.{job_at, Stands}
use Rattle.model.proofs.Turns.{position_below, answered_within, Reached, reached, last_turn_holds, leaves, answered_as}
use Rattle.model.proofs.Calls.{Admission, admission_of, told_admitted, numbered, Called, Ran, ran_split, session_ran, told_as_holds, ran_state, ran_told, called_one_each, ran_one_each}

-- the answer for a scenario is that of the check for the sheet's text, with buffers long enough; and point 3 holds of it
check_answer : (text : List ℕ) (code scratch_length : ℕ) (trace trace_exit : List ℕ) (answer : Numbers) (S : Scenario)
    → sheet_of text ≡ ok S → code < channels → scratch_least ≤ scratch_length → trace_least ≤ length trace → AsTheCheck S code trace trace_exit answer
    → (answer ≡ numbers_of (answer_of text code scratch_length (length trace)))
    × (trace_exit ≡ trace_after (answer_of text code scratch_length (length trace)) trace)
    × Verdict S code answer trace_exit
unfolding answer_of
check_answer text code scratch_length trace trace_exit answer S sheet known scratch_enough trace_enough c =
    let accepted = accepted_from text code scratch_length (length trace) S
    (record { code_known = known; scratch_enough = scratch_enough; trace_enough = trace_enough; sheet = sheet }) in
    let numbers : answer ≡ numbers_of (answer_of text code scratch_length (length trace)) =
    c.numbers ∙ ap (λ o. numbers_of (answer_for o code)) (sym accepted) in
    let written : trace_exit ≡ trace_after (answer_of text code scratch_length (length trace)) trace =
    c.trace_left ∙ ap (λ o. trace_after (answer_for o code) trace) (sym accepted) in (
      numbers,
      written,
      subst⁻¹ (λ (r : Numbers). Verdict S code r trace_exit) numbers
          (subst⁻¹ (λ (t : List ℕ). Verdict S code (numbers_of (answer_of text code scratch_length (length trace))) t) written
          (point_three_holds text code scratch_length trace S accepted)),
    )

module _ {M : Type 0} (state_in : M → DispatcherState) (Holds : M → List ℕ → Job → Scenario → Type 0) where
  -- the job that a call admits stands behind all others, with no turn yet
  admitted_stands : (d : M) (a : Entry) (c : Called state_in Holds d a) (p : ℕ) (m : Admission (state_in d) a.call (state_in d).given p)
      → Stands (state_in d).given p (code_at (lent_to a.call) p) m.scenario.count (state_in c.result.next) 0 (length (state_in d).queue)
  unfolding admitting
  admitted_stands d a c p m =
      record {
        ahead = (state_in d).queue;
        rest = [];
        queue = ap (λ (k : DispatcherState). k.queue) (c.serves.next ∙ m.next);
        position = refl;
      }

  job_served : (d : M) (a : Entry) (c : Called state_in Holds d a) (after : List Entry) (last : M) (p : ℕ) → OneEach (state_in d)
      → Ran state_in Holds c.result.next after last → Admission (state_in d) a.call (state_in d).given p → JobServed a (state_in d).given p after
  job_served d a c after last p o r m =
      record {
        scenario = S;
        is_sheet = m.parts.sheet;
        causal_order = sheet_meets (sheet_at (lent_to a.call) p) S m.parts.sheet;
        is_channel = m.parts.code_known;
        last_turn = λ mid e rest i. last_turn_holds state_in Holds n p code S.count next a.words mid e rest last (at mid e rest i);
        leaves = λ mid e rest i. leaves state_in Holds n p code S.count next a.words mid e rest last (at mid e rest i);
        within = λ part rest i quiet enough.
            let parts = ran_split state_in Holds part rest next last (subst (λ (es : List Entry). Ran state_in Holds next es last) i r) in
            answered_within state_in Holds n p code S.count part next parts.0 0 (length (state_in d).queue) (2 * S.count) parts.1 o' stands
            (omega arith) quiet (omega (arith, most, enough));
        answer = λ mid e rest i answers kept scratch enough.
            let t = answered_as state_in Holds n p code S.count next a.words mid e rest last (at mid e rest i) answers kept S admits in
            check_answer (sheet_at (lent_to a.call) p) code (length scratch) (trace_to e.call) e.trace e.told.answer S
            m.parts.sheet m.parts.code_known enough t.1 t.0;
      }
    where
      S : Scenario
      S = m.scenario

      n : ℕ
      n = (state_in d).given

      code : ℕ
      code = code_at (lent_to a.call) p

      next : M
      next = c.result.next

      o' : OneEach (state_in next)
      o' = called_one_each state_in Holds d a c o

      stands : Stands n p code S.count (state_in next) 0 (length (state_in d).queue)
      stands = admitted_stands d a c p m

      admits : Holds next (place_words p a.words) (job_at n p code S.count 0) S
      admits = c.serves.admits (lent_to a.call) p S m.is_admit m.parts.place m.parts.is_ok

      at : (mid : List Entry) (e : Entry) (rest : List Entry) → after ≡ mid ++ (e ∷ rest)
          → Reached state_in Holds n p code S.count next a.words mid e rest last
      at mid e rest i =
          reached state_in Holds n p code S.count next a.words (length (state_in d).queue) mid e rest last
          (subst (λ (es : List Entry). Ran state_in Holds next es last) i r) o' stands

      -- its own turns, each a round of as many jobs as may be held
      most : jobs_most * (2 * S.count) + length (state_in d).queue < turns_most
      most =
          let ahead = position_below state_in Holds n p code S.count next 0 (length (state_in d).queue) o' stands in
          let count : S.count ≤ messages_most = sheet_count (sheet_at (lent_to a.call) p) S m.parts.sheet in
          omega (arith, ahead, count)

  -- every job that a list of calls admits
  jobs_served : (empty : M) → OneEach (state_in empty) → (es : List Entry) (last : M) → Ran state_in Holds empty es last
      → (before : List Entry) (a : Entry) (after : List Entry) (n p : ℕ) → es ≡ before ++ (a ∷ after)
      → a.told ≡ told_as (admitted n p) no_answer → JobServed a n p after
  jobs_served empty o es last r before a after n p i t =
      let parts = ran_split state_in Holds before (a ∷ after) empty last (subst (λ (fs : List Entry). Ran state_in Holds empty fs last) i r) in
      let d = parts.0 in
      let c = parts.2.0 in
      let is = told_admitted (outcome_of (state_in d) a.call) a.told.answer n p (sym (told_as_holds state_in Holds d a c) ∙ t) in
      let number : n ≡ (state_in d).given = (admission_of (state_in d) a.call n p is).is_next in
      subst⁻¹ (λ (k : ℕ). JobServed a k p after) number
      (job_served d a c after last p (ran_one_each state_in Holds before empty d parts.1 o) parts.2.1
      (admission_of (state_in d) a.call (state_in d).given p (is ∙ ap (λ k. admitted k p) number)))

-- One theorem, of every list of calls from the empty dispatcher.
pub whole_lists : {M : Type 0} (state_in : M → DispatcherState) (Holds : M → List ℕ → Job → Scenario → Type 0) (empty : M)
    → state_in empty ≡ empty_dispatcher → WholeLists state_in Holds empty
whole_lists {M} state_in Holds empty is_empty es d s =
    let r = session_ran state_in Holds empty s in
    let o : OneEach (state_in empty) = subst⁻¹ OneEach is_empty one_each_empty in
    let told : ToldFrom empty_dispatcher es = subst (λ (k : DispatcherState). ToldFrom k es) is_empty (ran_told state_in Holds es empty d r) in
    let numbers = numbered empty_dispatcher es (omega arith) told in
    let each = ran_one_each state_in Holds es empty d r o in
    let state = ran_state state_in Holds es empty d r ∙ ap (λ k. dispatcher_from k (calls_of es)) is_empty in
    record {
      state = state;
      answers = told;
      orderly = orderly_of (state_in d) each;
      held_most = jobs_most_holds (state_in d) each;
      all_held = full_when (state_in d) each;
      numbers = numbers.in_order ∙ cells_same (length (given_out es)) (λ k. 0 + k) (λ k. k) (λ k. omega arith);
      numbers_most = omega (arith, numbers.total, numbers.most);
      numbers_given = ap (λ (k : DispatcherState). k.given) state ∙ omega (arith, numbers.total);
      jobs = jobs_served state_in Holds empty o es d r;
    }
