-- The lines of an accepted sheet are as many as its messages. Assumes nothing.
use Prim.Native.Nat.{ℕ}
use mathlib.Core.Path.{◌≡◌, refl, ◌∙◌, ap, subst}
use mathlib.Core.List.{List, []}
use lib.ListN.{length}
use Rattle.model.specs.Refusal.{Out, ok, refusal, and_then}
use Rattle.model.specs.Expansion.{Progress, expand}
use Rattle.model.specs.Order.{Met, Scenario, exchange_of, scenario_of}
use Rattle.model.specs.Answer.{sheet_of}
use Rattle.model.specs.Senders.{with_lines, line_ops, lines_met}
use Rattle.model.proofs.Accepted.{SheetParts, sheet_parts}
use Rattle.model.proofs.MessageLines.{Both, expand_alike}

-- each message of the walk has a line
pub lines_count : (text : List ℕ) (S : Scenario) → sheet_of text ≡ ok S → length (lines_met text) ≡ S.count
unfolding lines_met and_then scenario_of exchange_of
lines_count text S e =
    let a = sheet_parts text S e in
    go a (expand line_ops [] (with_lines 0 a.rows) []) refl
    (subst (λ (o : Out (Progress Met)). Both a.rows o (expand line_ops [] (with_lines 0 a.rows) [])) a.parts.expanded (expand_alike a.rows))
  where
    go : (a : SheetParts text S) (o : Out (Progress (List ℕ))) → expand line_ops [] (with_lines 0 a.rows) [] ≡ o → Both a.rows (ok a.parts.walked) o
        → length (lines_met text) ≡ S.count
    go a (refusal number line) f k = absurd k
    go a (ok q) f k =
        let lines : lines_met text ≡ q.kept = rw (a.read, f, lines_met) in
        ap length lines ∙ k.lines ∙ ap (λ (T : Scenario). T.count) a.parts.scenario
