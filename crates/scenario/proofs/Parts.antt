-- What the reading and the expansion hand on, as the scenario of the text. Assumes nothing.
use mathlib.Core.Path.{◌≡◌, refl, sym, subst, subst⁻¹}
use mathlib.Core.Bool.{false}
use mathlib.Core.List.{List}
use Prim.Native.Nat.{ℕ, ◌*◌, ◌<◌, ◌≤◌}
use native.Mathlib.Omega.{arith}
use lib.ListN.{length}
use Rattle.model.specs.Limits as limits
use Rattle.model.specs.Limits.{messages_most}
use Rattle.model.specs.Refusal.{Out, and_then}
use Rattle.model.specs.Rows.{Row}
use Rattle.model.specs.Order.{Event, event, board}
use Rattle.model.specs.Answer.{expanded_of, sheet_of}
use Rattle.model.specs.Choice.{Plain}
use Rattle.model.proofs.WithoutChoices.{read_plain}
use Rattle.model.proofs.Accepted.{sheet_count, sheet_boards}
use Rattle.relation.specs.Width.{width}
use Rattle.relation.specs.Scenario.{scenario_in}
use Rattle.relation.proofs.Scenario.{board_at}
use Rattle.sheet.specs.Bridge.{rows_of, ReadAs}
use Rattle.sheet.proofs.Bridge.{refused_is, rows_are, starts_are, count_most, kind_long_holds, one_long_holds, two_long_holds}
use Rattle.std.specs.Prelude.{Result, Ok, Err}
use Rattle.outcome.specs.declared.Refusal.{Refusal}
use Rattle.outcome.specs.Refusals.{refused_in}
use Rattle.expansion.specs.Outcome.{outcome_of}
use Rattle.expansion.specs.Lent.{RowsRead}
use Rattle.scenario.specs.Contract.{Fit, FitOn, SheetIn}

-- a scenario that keeps to the paper's limits, in boards and words
pub fit_from : (m : ℕ) (boards words : List ℕ) → length boards ≡ 2 * messages_most → length words ≡ 2 * messages_most * width → m ≤ messages_most
    → ((x : Event) → board (scenario_in m boards words) x < limits.boards)
    → Fit m boards words
fit_from m boards words boards_long words_long few below =
    record {
      few = few;
      boards_long = boards_long;
      words_long = words_long;
      boards_below = λ x l. subst (λ (b : ℕ). b < limits.boards) (board_at m boards words x) (below (event x));
    }

-- the scenario of a text fits the paper's limits
module _ (text boards words : List ℕ) (boards_long : length boards ≡ 2 * messages_most) (words_long : length words ≡ 2 * messages_most * width) where
  fits : (r : Result ℕ Refusal) → outcome_of r boards words ≡ sheet_of text → FitOn r boards words
  fits (Err r) e = tt
  fits (Ok m) e =
      fit_from m boards words boards_long words_long (sheet_count text (scenario_in m boards words) (sym e))
      (sheet_boards text (scenario_in m boards words) (sym e))

module _ (text kind one two start : List ℕ) (v : Result ℕ Refusal) (p : ReadAs false text kind one two start v) where
  pub reading_refuses : (e : Refusal) (boards words : List ℕ) → v ≡ Err e → SheetIn text boards words (Err e)
  unfolding sheet_of and_then
  reading_refuses e boards words i =
      record {
        outcome =
            subst⁻¹ (λ (o : Out (List Row)). refused_in e ≡ and_then o expanded_of)
            (refused_is false text kind one two start v p e i) refl;
        fit = tt;
      }

  module _ (count : ℕ) (i : v ≡ Ok count) where
    pub rows_read : RowsRead kind one two count start
    rows_read =
        let few = count_most false text kind one two start v p count i in
        record {
          read = (false, text, rows_are false text kind one two start v p count i);
          starts = starts_are false text kind one two start v p count i;
          kind_long = omega (arith, kind_long_holds false text kind one two start v p count i);
          one_long = omega (arith, one_long_holds false text kind one two start v p count i);
          two_long = omega (arith, two_long_holds false text kind one two start v p count i);
        }

    pub rows_plain : Plain (rows_of kind one two count)
    rows_plain = read_plain text (rows_of kind one two count) (rows_are false text kind one two start v p count i)

    pub rows_expanded : (boards words : List ℕ) (r : Result ℕ Refusal) → outcome_of r boards words ≡ expanded_of (rows_of kind one two count)
        → length boards ≡ 2 * messages_most → length words ≡ 2 * messages_most * width → SheetIn text boards words r
    unfolding sheet_of and_then
    rows_expanded boards words r h b w =
        let e : outcome_of r boards words ≡ sheet_of text =
        subst⁻¹ (λ (o : Out (List Row)). outcome_of r boards words ≡ and_then o expanded_of) (rows_are false text kind one two start v p count i) h in
        record { outcome = e; fit = fits text boards words b w r e }
