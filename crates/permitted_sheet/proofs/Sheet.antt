-- The messages that the sets forbid are those that the rules forbid, and what is decided of a sheet by them. Assumes nothing.
use Prim.Native.Nat.{ℕ, ◌+◌, ◌*◌, ◌<◌}
use native.Mathlib.Omega.{arith}
use mathlib.Core.Path.{◌≡◌, refl, sym, ◌∙◌, ap, subst⁻¹}
use mathlib.Core.Bool.{not}
use mathlib.Core.List.{List}
use mathlib.Core.Option.{none, some}
use lib.ListN.{length, get_or}
use Rattle.model.specs.Limits.{messages_most}
use Rattle.model.specs.Bounded.{lowest}
use Rattle.model.specs.Refusal.{Out, ok, refusal, and_then, forbidden_refusal}
use Rattle.model.specs.Order.{Scenario}
use Rattle.model.specs.Answer.{answer_for, trace_after}
use Rattle.model.specs.Senders.{Rule, is_forbidden, lines_met, permitted}
use Rattle.model.proofs.Bounded.{lowest_within, lowest_some}
use Rattle.relation.specs.Scenario.{scenario_in}
use Rattle.scenario.specs.Contract.{SheetIn}
use Rattle.scenario.proofs.Laws.{sheet_refused, sheet_is}
use Rattle.message_lines.proofs.Counted.{lines_count}
use Rattle.receivers.specs.Permitted.{PermittedBy, is_forbidden_in}
use Rattle.verdict.specs.declared.Verdict.{Verdict}
use Rattle.outcome.specs.declared.Reason.TheVariants.{Forbidden}
use Rattle.outcome.specs.declared.Refusal.{Refusal}
use Rattle.outcome.specs.Refusals.{refused_in}
use Rattle.std.specs.Prelude.{Ok, Err}
use Rattle.verdict.specs.Parts.{Decides}
use Rattle.permitted_sheet.specs.Sheet.{sheet_by}

-- a refusal handed on
pub refuses : (o : Out Scenario) (r : Refusal) (code : ℕ) (trace : List ℕ) → o ≡ refused_in r → Decides o code trace trace (Err r)
unfolding answer_for trace_after
refuses o r code trace e = subst⁻¹ (λ (p : Out Scenario). Decides p code trace trace (Err r)) e (record { answer = refl; trace_left = refl })

-- What the way to the scenario hands on.
module _ (text boards words : List ℕ) where
  pub sheet_not_read : (rules : List Rule) (r : Refusal) (code : ℕ) (trace : List ℕ) → SheetIn text boards words (Err r)
      → Decides (sheet_by text rules) code trace trace (Err r)
  unfolding and_then
  sheet_not_read rules r code trace p =
      refuses (sheet_by text rules) r code trace
      (ap (λ (o : Out Scenario). and_then o (permitted rules (lines_met text))) (sheet_refused text boards words _ p r refl))

  module _ (count : ℕ) (p : SheetIn text boards words (Ok count)) where
    abbrev S : Scenario
    S = scenario_in count boards words

    module _ (rules : List Rule) (sets : List ℕ) (b : PermittedBy rules sets) where
      by_rules : sheet_by text rules ≡ permitted rules (lines_met text) S
      unfolding and_then
      by_rules = ap (λ (o : Out Scenario). and_then o (permitted rules (lines_met text))) (sheet_is text boards words _ p count refl)

      same : (m : ℕ) → m < count → is_forbidden rules S m ≡ is_forbidden_in sets boards m
      unfolding is_forbidden_in
      same m l =
          ap not (sym ((b.each (get_or boards (2 * m) 0) (p.fit.boards_below (2 * m) (omega arith))).says (get_or boards (2 * m + 1) 0) (p.fit.boards_below (2 * m + 1) (omega arith))))

      first : lowest count (is_forbidden rules S) ≡ lowest count (is_forbidden_in sets boards)
      first = lowest_within count count (is_forbidden rules S) (is_forbidden_in sets boards) (omega arith) same (λ k l h. absurd (omega arith))

      -- no message is forbidden
      pub nothing_forbidden : none ≡ lowest count (is_forbidden_in sets boards) → (code : ℕ) (trace trace_exit : List ℕ) (r : Verdict) → Decides (ok S) code trace trace_exit (Ok r)
          → Decides (sheet_by text rules) code trace trace_exit (Ok r)
      unfolding permitted
      nothing_forbidden e code trace trace_exit r d =
          let n : lowest count (is_forbidden rules S) ≡ none = first ∙ sym e in
          subst⁻¹ (λ (o : Out Scenario). Decides o code trace trace_exit (Ok r)) (by_rules ∙ rw (n, permitted)) d

      -- message m is the first that is forbidden
      module _ (m : ℕ) (e : some m ≡ lowest count (is_forbidden_in sets boards)) where
        is : lowest count (is_forbidden rules S) ≡ some m
        is = first ∙ sym e

        pub forbidden_met : m < length (lines_met text)
        forbidden_met =
            let l : m < count = (lowest_some count (is_forbidden rules S) m is).below in
            omega (arith, lines_count text S (sheet_is text boards words _ p count refl))

        pub forbidden_few : m < messages_most
        forbidden_few = let l : m < count = (lowest_some count (is_forbidden rules S) m is).below in omega (arith, p.fit.few)

        pub message_refused : (line code : ℕ) (trace : List ℕ) → line ≡ get_or (lines_met text) m 0
            → Decides (sheet_by text rules) code trace trace (Err (record { reason = Forbidden; line = line }))
        unfolding permitted
        message_refused line code trace l =
            let o : permitted rules (lines_met text) S ≡ refusal forbidden_refusal (get_or (lines_met text) m 0) = rw (is, permitted) in
            refuses (sheet_by text rules) (record { reason = Forbidden; line = line }) code trace (by_rules ∙ o ∙ ap (refusal forbidden_refusal) (sym l))
