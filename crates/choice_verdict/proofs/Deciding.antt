-- What each part of the call is to show, from what its own parts handed on. Assumes nothing.
use Prim.Native.Nat.{ℕ, ◌*◌, ◌≤◌}
use native.Mathlib.Omega.{arith}
use mathlib.Core.Path.{◌≡◌, refl, sym, ◌∙◌, ap, subst}
use mathlib.Core.Bool.{Bool}
use mathlib.Core.List.{List, [], ◌∷◌}
use mathlib.Core.Option.{Option, none, some}
use lib.ListN.{length, take}
use Rattle.model.specs.Limits.{choices_most, messages_most}
use Rattle.model.specs.Refusal.{Out, ok}
use Rattle.model.specs.Rows.{Row}
use Rattle.model.specs.Order.{Scenario}
use Rattle.model.specs.Race.{race_rule_of, lowest_race}
use Rattle.model.specs.Answer as model
use Rattle.model.specs.Answer.{expanded_with, verdict_of, answer_for, trace_after}
use Rattle.model.specs.Choice.{ChoiceAnswer, first_refused, lists_of, refusal_in, lock_in, judged_over, choices_number, trace_chosen}
use Rattle.model.proofs.Asking.{beginning_most}
use Rattle.model.proofs.Refusal.{not_refused}
use Rattle.relation.specs.Width.{width}
use Rattle.relation.specs.Scenario.{scenario_in}
use Rattle.blocks.specs.Store.{counted_with}
use Rattle.sheet.specs.Bridge.{rows_of}
use Rattle.levels.specs.Options.{options_of}
use Rattle.scenario.specs.Contract.{Fit}
use Rattle.expansion.specs.Lent.{RowsRead}
use Rattle.expansion.specs.Outcome.{counted_of}
use Rattle.expansion.specs.declared.Counted.{Counted}
use Rattle.std.specs.Prelude.{Result, Ok, Err, None}
use Rattle.outcome.specs.declared.Refusal.{Refusal}
use Rattle.outcome.specs.Refusals.{number_in}
use Rattle.verdict.specs.declared.Verdict.{Verdict}
use Rattle.verdict.specs.declared.Verdict.TheVariants as verdict
use Rattle.verdict.specs.Parts as parts
use Rattle.verdict.specs.Parts.{Decides}
use Rattle.choice_lists.specs.Places.{place_of}
use Rattle.choice_lists.specs.Walked.{LockAt, LastList}
use Rattle.choice_lists.specs.declared.Walked.{Walked}
use Rattle.choice_lists.proofs.Places.{options_taken}
use Rattle.choice_lists.proofs.Judging.{list_refused, list_scenario, list_met, list_fit, lock_on, lock_here, verdict_by, rows_fit}
use Rattle.choice_verdict.specs.Judged.{answer_on, Judged}
use Rattle.choice_answer.specs.declared.Choice.{Choice}
use Rattle.choice_answer.specs.declared.Choice.TheVariants.{Free, Locked}
use Rattle.choice_answer.proofs.Numbering.{options_long}

-- The verdict on a list's scenario, case by case.
module _ (l : List Bool) (S : Scenario) (code : ℕ) (trace trace_exit : List ℕ) where
  abbrev Answered : model.Answer → Verdict → Type 0
  Answered v b = (parts.numbers_for (Ok b) ≡ model.numbers_of v) × (trace_exit ≡ trace_after v trace)

  answered : (b : Verdict) → Decides (ok S) code trace trace_exit (Ok b) → Answered (verdict_of S code) b
  unfolding answer_for
  answered b d = (d.answer, d.trace_left)

  word : (b : Verdict) (v : model.Answer) → Answered v b → (parts.numbers_for (Ok b)).word ≡ (model.numbers_of v).word
  word b v p = ap (λ n. n.word) p.0

  pub decided_free : Decides (ok S) code trace trace_exit (Ok verdict.Free) → Judged (answer_on l (verdict_of S code)) trace trace_exit (Ok Free)
  unfolding trace_chosen trace_after
  decided_free d = go (verdict_of S code) (answered verdict.Free d)
    where
      go : (v : model.Answer) → Answered v verdict.Free → Judged (answer_on l v) trace trace_exit (Ok Free)
      go model.free p = record { answer = refl; trace_left = p.1 }
      go (model.locked e x ts) p = absurd (omega (arith, word verdict.Free (model.locked e x ts) p))
      go (model.refused number line) p = absurd (omega (arith, word verdict.Free (model.refused number line) p))

  decided_locked : (e x steps met number : ℕ) → Decides (ok S) code trace trace_exit (Ok (verdict.Locked e x steps)) → met ≡ length l → number ≡ choices_number l
      → Judged (answer_on l (verdict_of S code)) trace trace_exit (Ok (Locked e x steps met number))
  unfolding trace_chosen trace_after
  decided_locked e x steps met number d m c = go (verdict_of S code) (answered (verdict.Locked e x steps) d)
    where
      go : (v : model.Answer) → Answered v (verdict.Locked e x steps) → Judged (answer_on l v) trace trace_exit (Ok (Locked e x steps met number))
      go model.free p = absurd (omega (arith, word (verdict.Locked e x steps) model.free p))
      go (model.locked f y ts) p =
          let one : e ≡ f = ap (λ q. q.one) p.0 in
          let two : x ≡ y = ap (λ q. q.two) p.0 in
          let three : steps ≡ length ts = ap (λ q. q.three) p.0 in
          record { answer = rw (one, two, three, m, c); trace_left = p.1 }
      go (model.refused n k) p = absurd (omega (arith, word (verdict.Locked e x steps) (model.refused n k) p))

-- as `decide_list` needs it, which has the list's place and length
module _ (list met : ℕ) (short : met ≤ choices_most) (S : Scenario) (code : ℕ) (trace trace_exit : List ℕ) where
  pub list_locked : (e x steps number : ℕ) → Decides (ok S) code trace trace_exit (Ok (verdict.Locked e x steps)) → number ≡ choices_number (take met (options_of list))
      → Judged (answer_on (take met (options_of list)) (verdict_of S code)) trace trace_exit (Ok (Locked e x steps met number))
  list_locked e x steps number d c =
      decided_locked (take met (options_of list)) S code trace trace_exit e x steps met number d (sym (options_long list met short)) c

-- an answer known by another name
judged_as : {a b : ChoiceAnswer} {trace trace_exit : List ℕ} {r : Result Choice Refusal} → a ≡ b → Judged a trace trace_exit r → Judged b trace trace_exit r
judged_as {trace = trace} {trace_exit = trace_exit} {r = r} e h = subst (λ (c : ChoiceAnswer). Judged c trace trace_exit r) e h

pub refuses : (e : Refusal) (trace : List ℕ) → Judged (first_refused (number_in e.reason) e.line) trace trace (Err e)
unfolding trace_chosen
refuses e trace = record { answer = refl; trace_left = refl }

-- the options of a list, from its place and length
list_taken : (l : List Bool) (list met : ℕ) → list ≡ place_of l → met ≡ length l → length l ≤ choices_most → take met (options_of list) ≡ l
list_taken l list met p m short = rw (p, m) (options_taken l short)

-- The answer over the lists, by what the way through them found.
module _ (file : List Row) (code : ℕ) where
  over_refused : (number line : ℕ) → refusal_in file (lists_of file) ≡ some (number, line) → judged_over file code (lists_of file) ≡ first_refused number line
  unfolding judged_over
  over_refused number line e =
      ap (λ (r : Option (ℕ × ℕ)). elim r [ none ↦ lock_in file code (lists_of file) | some r ↦ first_refused r.0 r.1 ]) e

  over_locks : refusal_in file (lists_of file) ≡ none → judged_over file code (lists_of file) ≡ lock_in file code (lists_of file)
  unfolding judged_over
  over_locks e = ap (λ (r : Option (ℕ × ℕ)). elim r [ none ↦ lock_in file code (lists_of file) | some r ↦ first_refused r.0 r.1 ]) e

  -- a list alone
  alone : (l : List Bool) (S : Scenario) → expanded_with l file ≡ ok S → answer_on l (verdict_of S code) ≡ lock_in file code (l ∷ [])
  unfolding lock_in
  alone l S e = go (lowest_race S (race_rule_of code)) refl
    where
      go : (o : Option (ℕ × ℕ)) → lowest_race S (race_rule_of code) ≡ o → answer_on l (verdict_of S code) ≡ lock_in file code (l ∷ [])
      go none i = let v = verdict_by S code none i in ap (answer_on l) v ∙ sym (lock_on file code l [] S e v)
      go (some r) i = let v = verdict_by S code (some r) i in ap (answer_on l) v ∙ sym (lock_here file code l [] S r.0 r.1 _ e v)

  pub walked_refused : (e : Refusal) (trace : List ℕ) → refusal_in file (lists_of file) ≡ some (number_in e.reason, e.line)
      → Judged (judged_over file code (lists_of file)) trace trace (Err e)
  walked_refused e trace h = judged_as (sym (over_refused (number_in e.reason) e.line h)) (refuses e trace)

  module _ (boards words : List ℕ) where
    module _ (w : Walked) (h : LastList file code boards words w) where
      pub walked_short : w.met ≤ choices_most
      walked_short = omega (arith, h.size, beginning_most file h.is_list.beginning)

      module _ (trace trace_exit : List ℕ) (r : Result Choice Refusal) where
        -- the last list decides
        pub walked_decides : w.first ≡ None
            → Judged (answer_on (take w.met (options_of w.list)) (verdict_of (scenario_in w.messages boards words) code)) trace trace_exit r
            → Judged (judged_over file code (lists_of file)) trace trace_exit r
        walked_decides f j =
            let S = scenario_in w.messages boards words in
            let taken : take w.met (options_of w.list) ≡ h.options = list_taken h.options w.list w.met h.place h.size (beginning_most file h.is_list.beginning) in
            judged_as
            (ap (λ (l : List Bool). answer_on l (verdict_of S code)) taken ∙ alone h.options S h.scenario ∙ sym (h.last_decides f) ∙ sym (over_locks h.unrefused))
            j

        -- one ahead of it does
        pub walked_ahead : Judged (lock_in file code (lists_of file)) trace trace_exit r → Judged (judged_over file code (lists_of file)) trace trace_exit r
        walked_ahead j = judged_as (sym (over_locks h.unrefused)) j

-- The first locked list, walked once more.
module _ (file : List Row) (code list : ℕ) (k : LockAt file code list) (boards words : List ℕ) (r : Result Counted Refusal)
    (h : counted_of r boards words ≡ counted_with (options_of list) file) where
  pub lock_refused : {C : Type 0} (e : Refusal) → r ≡ Err e → C
  lock_refused e i = not_refused (sym (list_refused file k.options k.is_list list k.place boards words r h e i) ∙ k.is_scenario)

  module _ (m : Counted) (i : r ≡ Ok m) where
    abbrev S : Scenario
    S = scenario_in m.messages boards words

    is_scenario_holds : expanded_with k.options file ≡ ok S
    is_scenario_holds = list_scenario file k.options k.is_list list k.place boards words r h m i

    is_met : m.choices ≡ length k.options
    is_met = list_met file k.options k.is_list list k.place boards words r h m i

    pub lock_short : m.choices ≤ choices_most
    lock_short = omega (arith, is_met, beginning_most file k.is_list.beginning)

    pub lock_decides : (trace trace_exit : List ℕ) (c : Result Choice Refusal)
        → Judged (answer_on (take m.choices (options_of list)) (verdict_of S code)) trace trace_exit c
        → Judged (lock_in file code (lists_of file)) trace trace_exit c
    lock_decides trace trace_exit c j =
        let same : S ≡ k.scenario = one k.is_scenario is_scenario_holds in
        let taken : take m.choices (options_of list) ≡ k.options = list_taken k.options list m.choices k.place is_met (beginning_most file k.is_list.beginning) in
        judged_as
        (ap (λ (l : List Bool). answer_on l (verdict_of S code)) taken
        ∙ ap (λ (T : Scenario). answer_on k.options (verdict_of T code)) same
        ∙ ap (answer_on k.options) k.is_locked ∙ sym k.lock)
        j
      where
        one : {o : Out Scenario} {S T : Scenario} → o ≡ ok T → o ≡ ok S → S ≡ T
        one e d = cc

-- the boards and the words of that list
pub lock_fit : (kind one two : List ℕ) (count : ℕ) (start : List ℕ) (code list : ℕ) (boards words : List ℕ) (m : Counted)
    → LockAt (rows_of kind one two count) code list → counted_of (Ok m) boards words ≡ counted_with (options_of list) (rows_of kind one two count)
    → RowsRead kind one two count start → length boards ≡ 2 * messages_most → length words ≡ 2 * messages_most * width
    → Fit m.messages boards words
lock_fit kind one two count start code list boards words m k h lent b w =
    list_fit (rows_of kind one two count) k.options k.is_list list k.place boards words (Ok m) h m refl (rows_fit kind one two count start lent) b w
