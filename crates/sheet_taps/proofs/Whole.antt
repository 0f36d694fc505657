-- The whole promise, from what the parts of the call hand on. Assumes nothing.
use mathlib.Core.Path.{◌≡◌, refl, sym, ◌∙◌, ap, subst⁻¹}
use mathlib.Core.Bool.{Bool, true, false, cond, or-true}
use mathlib.Core.List.{List, ◌++◌}
use Prim.Native.Nat.{ℕ, ◌*◌, ◌<◌, ◌≤◌}
use borrow.Author.Tests.{lt-ltb, le-ltb}
use lib.Dec.{ltb}
use lib.ListN.{length, drop}
use Rattle.model.specs.Limits.{scratch_least, tap_numbers_least}
use Rattle.model.specs.Refusal.{Out, ok, refusal, and_then, bench_refusal, tap_refusal}
use Rattle.model.specs.Order.{Scenario}
use Rattle.model.specs.Answer.{refused_word, sheet_of, scratch_behind}
use Rattle.model.specs.Bounded.{each_once}
use Rattle.model.specs.Taps.{TapNumbers, with_lists, taps_accepted_of, tapped_for, tapped_of, tap_numbers_of, output_after, Fitted, TapsChecked}
use Rattle.model.proofs.Accepted.{sheet_meets}
use Rattle.model.proofs.Taps.{taps_accepted_parts, taps_course}
use Rattle.relation.specs.Rows.{cleared}
use Rattle.relation.proofs.Cleared.{cleared_all}
use Rattle.scenario.proofs.Laws.{scratch_behind_holds}
use Rattle.taps.specs.declared.Taps.{Taps}
use Rattle.std.specs.Prelude.{Result, Ok, Err}
use Rattle.outcome.specs.declared.Refusal.{Refusal}
use Rattle.outcome.specs.declared.Reason.TheVariants.{Bench}
use Rattle.outcome.specs.Refusals.{number_in}
use Rattle.taps.specs.Parts.{numbers_for, Decides}

-- What is answered, and left in the buffers, as the model says of the call accepted or refused: then all that it says of the course holds.
checked_from : (text scratch scratch_exit first second output output_exit : List ℕ) (r : TapNumbers) (o : Out Scenario)
    → taps_accepted_of text (length scratch) first second (length output) ≡ o → r ≡ tap_numbers_of (tapped_for first second o)
    → scratch_exit ≡ scratch_behind o scratch → output_exit ≡ output_after (tapped_for first second o) output
    → TapsChecked text scratch scratch_exit first second output output_exit r
unfolding tapped_of
checked_from text scratch scratch_exit first second output output_exit r o e i s t =
    let answered : r ≡ tap_numbers_of (tapped_of text (length scratch) first second (length output)) =
    i ∙ ap (λ p. tap_numbers_of (tapped_for first second p)) (sym e) in
    let written : output_exit ≡ output_after (tapped_of text (length scratch) first second (length output)) output =
    t ∙ ap (λ p. output_after (tapped_for first second p) output) (sym e) in
    record {
      answer = answered;
      scratch_left = s ∙ ap (λ p. scratch_behind p scratch) (sym e);
      output_left = written;
      causal_order = λ S h. sheet_meets text S (taps_accepted_parts text (length scratch) first second (length output) S h).sheet;
      course = λ S h.
          subst⁻¹ (λ (n : TapNumbers). Fitted S first second n output_exit) answered
          (subst⁻¹ (λ (l : List ℕ). Fitted S first second (tap_numbers_of (tapped_of text (length scratch) first second (length output))) l) written
          (taps_course text (length scratch) first second output S h));
    }

-- What each return of `fit` is to show: refusal 2 for a short buffer, else what the sheet and the lists decide.
module _ (text scratch first second output : List ℕ) where
  refuses_bench : (r : Refusal) → r ≡ record { reason = Bench; line = 0 } → taps_accepted_of text (length scratch) first second (length output) ≡ refusal bench_refusal 0
      → TapsChecked text scratch scratch first second output output (numbers_for (Err r))
  unfolding scratch_behind tapped_for output_after
  refuses_bench r i e =
      checked_from text scratch scratch first second output output _ (refusal bench_refusal 0) e (ap (λ (q : Refusal). numbers_for (Err q)) i) refl refl

  pub refuses_scratch : (r : Refusal) → r ≡ record { reason = Bench; line = 0 } → length scratch < scratch_least
      → TapsChecked text scratch scratch first second output output (numbers_for (Err r))
  unfolding taps_accepted_of
  refuses_scratch r i l = refuses_bench r i (rw (lt-ltb (length scratch) scratch_least l))

  pub refuses_output : (r : Refusal) → r ≡ record { reason = Bench; line = 0 } → length output < tap_numbers_least
      → TapsChecked text scratch scratch first second output output (numbers_for (Err r))
  unfolding taps_accepted_of
  refuses_output r i l =
      refuses_bench r i (rw (lt-ltb (length output) tap_numbers_least l, or-true (ltb (length scratch) scratch_least)))

  -- refusal 20 is behind the sheet's, so the lists do not change what is left in the scratch
  scratch_same : (o : Out Scenario) → scratch_behind o scratch ≡ scratch_behind (and_then o (with_lists first second)) scratch
  unfolding scratch_behind and_then with_lists
  scratch_same (refusal number line) = refl
  scratch_same (ok S) = go (each_once (2 * S.count) first) (each_once (2 * S.count) second)
    where
      go : (a b : Bool) → scratch_behind (ok S) scratch ≡ scratch_behind (cond a (cond b (ok S) (refusal tap_refusal 2)) (refusal tap_refusal 1)) scratch
      go true true = refl
      go true false = refl
      go false b = refl

  pub answers : (scratch_exit output_exit used : List ℕ) (n : ℕ) (r : Result Taps Refusal) (w : ℕ) → scratch_least ≤ length scratch → tap_numbers_least ≤ length output
      → length used ≡ n → n ≤ scratch_least → scratch_exit ≡ cleared w (used ++ drop n scratch) → w ≡ scratch_least
      → Decides first second (and_then (sheet_of text) (with_lists first second)) output output_exit r
      → TapsChecked text scratch scratch_exit first second output output_exit (numbers_for r)
  unfolding taps_accepted_of
  answers scratch_exit output_exit used n r w l k e m s all d =
      checked_from text scratch scratch_exit first second output output_exit (numbers_for r) (and_then (sheet_of text) (with_lists first second))
      (rw (le-ltb (length scratch) scratch_least l, le-ltb (length output) tap_numbers_least k))
      d.answer (cleared_all scratch_least w (used ++ drop n scratch) scratch_exit s all ∙ scratch_behind_holds text scratch used n e m ∙ scratch_same (sheet_of text)) d.output_left
