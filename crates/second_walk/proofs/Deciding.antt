-- What is decided of one round and of two, from what their parts handed on. Assumes nothing.
use Prim.Native.Nat.{ℕ, ◌*◌}
use native.Mathlib.Omega.{arith}
use mathlib.Core.Path.{◌≡◌, refl, sym, ◌∙◌, ap, subst, subst⁻¹}
use mathlib.Core.List.{List, []}
use lib.ListN.{length}
use Rattle.model.specs.Limits.{messages_most}
use Rattle.model.specs.Refusal.{Out, ok, and_then}
use Rattle.model.specs.Rows.{Row}
use Rattle.model.specs.Expansion.{expand}
use Rattle.model.specs.Order.{Scenario, Exchange, scenario_of, nothing_met, met_ops, exchange_of}
use Rattle.model.specs.Channel.{channel_of}
use Rattle.model.specs.Schedule.{schedule}
use Rattle.model.specs.Answer as model
use Rattle.model.specs.Answer.{expanded_with, expanded_of, verdict_of, answer_for, numbers_of, trace_after}
use Rattle.model.specs.Rounds.{rounds, walked_again, first_verdict, second_verdict, rounds_verdict, rounds_answer}
use Rattle.model.proofs.Refusal.{not_refused, and_then_ok}
use Rattle.model.proofs.Standing.{read_fits}
use Rattle.model.proofs.Accepted.{walk_count, walk_boards}
use Rattle.relation.specs.Width.{width}
use Rattle.relation.specs.Scenario.{scenario_in}
use Rattle.sheet.specs.Bridge.{rows_of}
use Rattle.expansion.specs.Lent.{RowsRead}
use Rattle.expansion.specs.Outcome.{outcome_of}
use Rattle.std.specs.Prelude.{Result, Ok, Err}
use Rattle.outcome.specs.declared.Refusal.{Refusal}
use Rattle.outcome.specs.Refusals.{refused_in}
use Rattle.scenario.specs.Contract.{Fit}
use Rattle.scenario.proofs.Parts.{fit_from}
use Rattle.verdict.specs.declared.Verdict.{Verdict}
use Rattle.verdict.specs.declared.Verdict.TheVariants as verdict
use Rattle.verdict.specs.Parts as parts
use Rattle.verdict.specs.Parts.{Decides}
use Rattle.verdict.proofs.Parts.{verdict_locked, verdict_free}
use Rattle.second_walk.specs.declared.Rounds.{Rounds}
use Rattle.second_walk.specs.declared.Rounds.TheVariants.{Free, Locked}
use Rattle.second_walk.specs.declared.Twice.{Twice}
use Rattle.second_walk.specs.declared.Twice.TheVariants as twice
use Rattle.second_walk.specs.Walks.{rows_repeatable, OneLocks, OneFrees, Walks}
use Rattle.second_walk.specs.Judged.{times_verdict, Judges}

-- The verdict on a scenario, said of so many rounds, case by case.
module _ (k : ℕ) (S : Scenario) (code : ℕ) (trace trace_exit : List ℕ) where
  abbrev Answered : model.Answer → Verdict → Type 0
  Answered v b = (parts.numbers_for (Ok b) ≡ numbers_of v) × (trace_exit ≡ trace_after v trace)

  answered : (b : Verdict) → Decides (ok S) code trace trace_exit (Ok b) → Answered (verdict_of S code) b
  unfolding answer_for
  answered b d = (d.answer, d.trace_left)

  word : (b : Verdict) (v : model.Answer) → Answered v b → (parts.numbers_for (Ok b)).word ≡ (numbers_of v).word
  word b v p = ap (λ n. n.word) p.0

  pub decided_free : Decides (ok S) code trace trace_exit (Ok verdict.Free) → Judges (times_verdict k (verdict_of S code)) trace trace_exit (Ok Free)
  decided_free d = go (verdict_of S code) (answered verdict.Free d)
    where
      go : (v : model.Answer) → Answered v verdict.Free → Judges (times_verdict k v) trace trace_exit (Ok Free)
      go model.free p = record { answer = refl; how_often = refl; trace_left = p.1 }
      go (model.locked e x ts) p = absurd (omega (arith, word verdict.Free (model.locked e x ts) p))
      go (model.refused number line) p = absurd (omega (arith, word verdict.Free (model.refused number line) p))

  pub decided_locked : (e x steps : ℕ) → Decides (ok S) code trace trace_exit (Ok (verdict.Locked e x steps))
      → Judges (times_verdict k (verdict_of S code)) trace trace_exit (Ok (Locked e x steps k))
  decided_locked e x steps d = go (verdict_of S code) (answered (verdict.Locked e x steps) d)
    where
      go : (v : model.Answer) → Answered v (verdict.Locked e x steps) → Judges (times_verdict k v) trace trace_exit (Ok (Locked e x steps k))
      go model.free p = absurd (omega (arith, word (verdict.Locked e x steps) model.free p))
      go (model.locked f y ts) p = record { answer = p.0; how_often = refl; trace_left = p.1 }
      go (model.refused number line) p = absurd (omega (arith, word (verdict.Locked e x steps) (model.refused number line) p))

-- said of two rounds, one being free
two_times : (v : model.Answer) → times_verdict 2 v ≡ second_verdict v
unfolding second_verdict
two_times model.free = refl
two_times (model.locked e x ts) = refl
two_times (model.refused number line) = refl

module _ (o : Out Exchange) (code : ℕ) where
  pub two_decide : (boards words : List ℕ) (count : ℕ) (trace trace_exit : List ℕ) (q : Result Rounds Refusal) → OneFrees o code boards words count
      → Judges (times_verdict 2 (verdict_of (scenario_in count boards words) code)) trace trace_exit q
      → Judges (rounds_answer o code) trace trace_exit q
  unfolding rounds_answer rounds_verdict first_verdict
  two_decide boards words count trace trace_exit q f j =
      let S = scenario_in count boards words in
      let first : verdict_of (scenario_of f.one) code ≡ model.free = verdict_free (scenario_of f.one) code f.no_race in
      let same : times_verdict 2 (verdict_of S code) ≡ rounds_answer o code =
      two_times (verdict_of S code)
      ∙ ap (λ (T : Scenario). second_verdict (verdict_of T code)) f.is_two
      ∙ ap (λ (v : model.Answer). first_verdict v (verdict_of (scenario_of (rounds f.one 2)) code)) (sym first)
      ∙ ap (λ (p : Out Exchange). rounds_answer p code) (sym f.is_one) in
      subst (λ v. Judges v trace trace_exit q) same j

  pub two_fit : (boards words : List ℕ) (q : Twice) (count : ℕ) → Walks o code boards words (Ok q) → q ≡ twice.OneFree count → OneFrees o code boards words count
  two_fit boards words q count h i = subst (λ (p : Twice). Walks o code boards words (Ok p)) i h

  pub one_locked : (boards words : List ℕ) (q : Twice) → Walks o code boards words (Ok q) → q ≡ twice.OneLocked → OneLocks o code
  one_locked boards words q h i = subst (λ (p : Twice). Walks o code boards words (Ok p)) i h

  pub walks_refused : (e : Refusal) (trace : List ℕ) → o ≡ refused_in e → Judges (rounds_answer o code) trace trace (Err e)
  unfolding rounds_answer trace_after
  walks_refused e trace h =
      subst⁻¹ (λ (p : Out Exchange). Judges (rounds_answer p code) trace trace (Err e)) h
      (record { answer = refl; how_often = refl; trace_left = refl })

-- One round is locked, and walked once more.
module _ (file : List Row) (code : ℕ) (k : OneLocks (rows_repeatable file) code) where
  is_scenario_holds : expanded_of file ≡ ok (scenario_of k.one)
  unfolding rows_repeatable expanded_with and_then
  is_scenario_holds =
      let a = and_then_ok (expand met_ops [] file nothing_met) (λ s. and_then (walked_again file s) (λ t. ok (exchange_of s))) k.one k.is_one in
      let b = and_then_ok (walked_again file a.0) (λ t. ok (exchange_of a.0)) k.one a.2 in
      let same : exchange_of a.0 ≡ k.one = cc b.2 in
      rw a.1 (ap (λ (E : Exchange). ok (scenario_of E)) same)

  pub one_refused : {C : Type 0} (e : Refusal) → refused_in e ≡ expanded_of file → C
  one_refused e h = not_refused (h ∙ is_scenario_holds)

  module _ (boards words : List ℕ) (count : ℕ) (h : outcome_of (Ok count) boards words ≡ expanded_of file) where
    one_scenario : scenario_in count boards words ≡ scenario_of k.one
    one_scenario =
        let e : ok (scenario_in count boards words) ≡ ok (scenario_of k.one) = h ∙ is_scenario_holds in
        cc

    pub one_decides : (trace trace_exit : List ℕ) (q : Result Rounds Refusal)
        → Judges (times_verdict 1 (verdict_of (scenario_in count boards words) code)) trace trace_exit q
        → Judges (rounds_answer (rows_repeatable file) code) trace trace_exit q
    unfolding rounds_answer rounds_verdict first_verdict
    one_decides trace trace_exit q j =
        let S = scenario_of k.one in
        let lock : verdict_of S code ≡ model.locked k.message k.event (schedule S (channel_of code) k.message) =
        verdict_locked S code k.message k.event k.race in
        let same : times_verdict 1 (verdict_of (scenario_in count boards words) code) ≡ rounds_answer (rows_repeatable file) code =
        ap (λ (T : Scenario). times_verdict 1 (verdict_of T code)) one_scenario
        ∙ ap (times_verdict 1) lock
        ∙ ap (λ (v : model.Answer). first_verdict v (verdict_of (scenario_of (rounds k.one 2)) code)) (sym lock)
        ∙ ap (λ (p : Out Exchange). rounds_answer p code) (sym k.is_one) in
        subst (λ v. Judges v trace trace_exit q) same j

-- the boards and the words of the rows walked once
pub one_fit : (kind one two : List ℕ) (count : ℕ) (start : List ℕ) → RowsRead kind one two count start → (boards words : List ℕ) (messages : ℕ)
    → outcome_of (Ok messages) boards words ≡ expanded_of (rows_of kind one two count)
    → length boards ≡ 2 * messages_most → length words ≡ 2 * messages_most * width → Fit messages boards words
one_fit kind one two count start lent boards words messages h b w =
    let file = rows_of kind one two count in
    let S = scenario_in messages boards words in
    let e : expanded_with [] file ≡ ok S = sym h in
    let fits = read_fits lent.read.0 lent.read.1 file lent.read.2 in
    fit_from messages boards words b w (walk_count [] file fits S e) (walk_boards [] file fits S e)
