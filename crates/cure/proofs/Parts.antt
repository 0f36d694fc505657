-- What the parts of the call hand on to each other, and the whole promise from it. Assumes nothing.
use mathlib.Core.Path.{◌≡◌, refl, sym, ◌∙◌, ap, subst}
use mathlib.Core.Bool.{Bool, true, false, cond, or-true}
use mathlib.Core.List.{List, ◌++◌}
use Prim.Native.Nat.{ℕ, ◌+◌, ◌*◌, ◌<◌, ◌≤◌}
use native.Mathlib.Omega.{arith}
use lib.Dec.{ltb}
use lib.ListN.{length, drop}
use borrow.Author.Tests.{lt-ltb, le-ltb}
use Rattle.model.specs.Limits.{rows_most, scratch_least, sheet_output_least}
use Rattle.model.specs.Refusal.{Out, ok, refusal, and_then, bench_refusal, cured_rows_refusal}
use Rattle.model.specs.Order.{Scenario}
use Rattle.model.specs.Answer.{sheet_of, scratch_behind}
use Rattle.model.specs.Cure.{Written, heading_text, rows_text, cured_rows, cured_text, cured_of, cure_of, output_with, cure_numbers, CureChecked}
use Rattle.model.proofs.Accepted.{sheet_causal, sheet_count}
use Rattle.model.proofs.Cure.{cure_promised}
use Rattle.relation.specs.Rows.{cleared}
use Rattle.relation.proofs.Cleared.{cleared_all}
use Rattle.relation.specs.Scenario.{scenario_in}
use Rattle.std.specs.Prelude.{Result, Ok, Err}
use Rattle.outcome.specs.declared.Refusal.{Refusal}
use Rattle.outcome.specs.declared.Reason.TheVariants.{Bench, CuredRows}
use Rattle.outcome.specs.Refusals.{number_in}
use Rattle.scenario.specs.Contract.{SheetIn}
use Rattle.scenario.proofs.Laws.{sheet_refused, sheet_is, scratch_behind_holds}
use Rattle.sheet_text.specs.Writing.{Writes}
use Rattle.covers.specs.Covers.{CoverRows}
use Rattle.order_count.specs.Orders.{orders_to}
use Rattle.cured_sheet.specs.Sheet.{rows_in, text_in}
use Rattle.cured_sheet.proofs.Rows.{rows_count}
use Rattle.cure.specs.Parts.{numbers_for, outcome_in, Decides}
use Rattle.cure.proofs.Bridge.{rows_same}

-- The rows are counted, and the sheet is written or not.
module _ (boards made : List ℕ) (count orders : ℕ) (counts : orders ≡ length (orders_to made count (2 * count))) where
  whole : length (rows_in count boards made) ≡ 1 + count + orders
  whole = rows_count boards made count ∙ ap (λ (k : ℕ). 1 + count + k) (sym counts)

  pub rows_fit : 1 + count + orders ≤ rows_most → length (rows_in count boards made) ≤ rows_most
  rows_fit h = omega (arith, whole)

  pub too_many : (output : List ℕ) → rows_most < 1 + count + orders → (r : Refusal) → r ≡ record { reason = CuredRows; line = 0 }
      → Decides (outcome_in count boards made) output output (Err r)
  unfolding outcome_in output_with
  too_many output h r i =
      let l : rows_most < length (rows_in count boards made) = omega (arith, whole) in
      record { answer = rw (i, lt-ltb rows_most (length (rows_in count boards made)) l); output_left = rw (lt-ltb rows_most (length (rows_in count boards made)) l) }

  pub sheet_decides : (output exit : List ℕ) (n : ℕ) → 1 + count + orders ≤ rows_most → Writes (text_in count boards made) output exit n
      → Decides (outcome_in count boards made) output exit (Ok n)
  unfolding outcome_in output_with
  sheet_decides output exit n h w =
      let l : length (rows_in count boards made) ≤ rows_most = rows_fit h in
      record {
        answer = rw (le-ltb rows_most (length (rows_in count boards made)) l, ← w.long);
        output_left = rw (le-ltb rows_most (length (rows_in count boards made)) l) w.bytes;
      }

-- What the way to the scenario hands on.
module _ (text boards words : List ℕ) (v : Result ℕ Refusal) (p : SheetIn text boards words v) (output : List ℕ) where
  pub scenario_refused : (f : Refusal) → v ≡ Err f → Decides (and_then (sheet_of text) cured_of) output output (Err f)
  unfolding and_then output_with
  scenario_refused f i =
      let e = sheet_refused text boards words v p f i in
      record { answer = rw e; output_left = rw e }

  pub scenario_decided : (count : ℕ) → v ≡ Ok count → (made exit : List ℕ) (r : Result ℕ Refusal) → CoverRows count boards words made
      → Decides (outcome_in count boards made) output exit r → Decides (and_then (sheet_of text) cured_of) output exit r
  unfolding and_then outcome_in cured_of text_in cured_text
  scenario_decided count i made exit r R d =
      let S = scenario_in count boards words in
      let e : sheet_of text ≡ ok S = sheet_is text boards words v p count i in
      let rows = rows_same count boards words (sheet_count text S e) (sheet_causal text S e) made R in
      let outcome : outcome_in count boards made ≡ cured_of S =
      ap (λ (rs : List Written). cond (ltb rows_most (length rs)) (refusal cured_rows_refusal 0) (ok (heading_text ++ rows_text rs))) rows in
      subst (λ (o : Out (List ℕ)). Decides o output exit r) (outcome ∙ sym (ap (λ (o : Out Scenario). and_then o cured_of) e)) d

-- What each return of `cure` is to show: refusal 2 for a short buffer, else what the sheet decides.
module _ (text scratch output : List ℕ) where
  refuses : (r : Refusal) → r ≡ record { reason = Bench; line = 0 } → cure_of text (length scratch) (length output) ≡ refusal bench_refusal 0
      → CureChecked text scratch scratch output output (numbers_for (Err r))
  unfolding scratch_behind output_with
  refuses r i e = cure_promised text scratch scratch output output _ (rw (e, i)) (rw e) (rw e)

  pub refuses_scratch : (r : Refusal) → r ≡ record { reason = Bench; line = 0 } → length scratch < scratch_least
      → CureChecked text scratch scratch output output (numbers_for (Err r))
  unfolding cure_of
  refuses_scratch r i l = refuses r i (rw (lt-ltb (length scratch) scratch_least l))

  pub refuses_output : (r : Refusal) → r ≡ record { reason = Bench; line = 0 } → length output < sheet_output_least
      → CureChecked text scratch scratch output output (numbers_for (Err r))
  unfolding cure_of
  refuses_output r i l = refuses r i (rw (lt-ltb (length output) sheet_output_least l, or-true (ltb (length scratch) scratch_least)))

  -- refusal 15 is behind the sheet's, so the rows do not change what is left in the scratch
  scratch_same : (o : Out Scenario) → scratch_behind o scratch ≡ scratch_behind (and_then o cured_of) scratch
  unfolding scratch_behind and_then cured_of
  scratch_same (refusal number line) = refl
  scratch_same (ok S) = go (ltb rows_most (length (cured_rows S)))
    where
      go : (b : Bool) → scratch_behind (ok S) scratch ≡ scratch_behind (cond b (refusal cured_rows_refusal 0) (ok (cured_text S))) scratch
      go true = refl
      go false = refl

  pub answers : (scratch_exit output_exit used : List ℕ) (n : ℕ) (r : Result ℕ Refusal) (w : ℕ) → scratch_least ≤ length scratch → sheet_output_least ≤ length output → length used ≡ n
      → n ≤ scratch_least → scratch_exit ≡ cleared w (used ++ drop n scratch) → w ≡ scratch_least → Decides (and_then (sheet_of text) cured_of) output output_exit r
      → CureChecked text scratch scratch_exit output output_exit (numbers_for r)
  unfolding cure_of
  answers scratch_exit output_exit used n r w l k e m s all d =
      let outcome : cure_of text (length scratch) (length output) ≡ and_then (sheet_of text) cured_of =
      rw (le-ltb (length scratch) scratch_least l, le-ltb (length output) sheet_output_least k) in
      cure_promised text scratch scratch_exit output output_exit (numbers_for r)
      (d.answer ∙ ap cure_numbers (sym outcome))
      (cleared_all scratch_least w (used ++ drop n scratch) scratch_exit s all ∙ scratch_behind_holds text scratch used n e m ∙ scratch_same (sheet_of text) ∙ ap (λ (o : Out (List ℕ)). scratch_behind o scratch) (sym outcome))
      (d.output_left ∙ ap (λ (o : Out (List ℕ)). output_with o output) (sym outcome))
