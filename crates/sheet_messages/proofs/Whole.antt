-- The whole promise, from what the parts of the call hand on. Assumes nothing.
use mathlib.Core.Path.{◌≡◌, refl, sym, ◌∙◌, ap}
use mathlib.Core.Bool.{or-true}
use mathlib.Core.List.{List, ◌++◌}
use Prim.Native.Nat.{ℕ, ◌<◌, ◌≤◌}
use borrow.Author.Tests.{lt-ltb, le-ltb}
use lib.Dec.{ltb}
use lib.ListN.{length, drop}
use Rattle.model.specs.Limits.{scratch_least, message_numbers_least}
use Rattle.model.specs.Refusal.{Out, refusal, bench_refusal}
use Rattle.model.specs.Order.{Scenario}
use Rattle.model.specs.Answer.{sheet_of, scratch_behind}
use Rattle.model.specs.Senders.{lines_met}
use Rattle.model.specs.Holdings.{HoldingNumbers, listable, messages_answer, messages_left, MessagesListed}
use Rattle.model.proofs.Holdings.{messages_listed}
use Rattle.relation.specs.Rows.{cleared}
use Rattle.relation.proofs.Cleared.{cleared_all}
use Rattle.scenario.proofs.Laws.{scratch_behind_holds}
use Rattle.std.specs.Prelude.{Err}
use Rattle.outcome.specs.declared.Reason.TheVariants.{Bench}
use Rattle.outcome.specs.declared.Refusal.{Refusal}
use Rattle.sheet_messages.specs.Listing.{numbers_for, Lists}

-- What is answered, and left in the buffers, as the model says of the call accepted or refused.
listed_from : (text scratch scratch_exit output output_exit : List ℕ) (r : HoldingNumbers) (o : Out Scenario)
    → listable text (length scratch) (length output) ≡ o → r ≡ messages_answer o → scratch_exit ≡ scratch_behind o scratch
    → output_exit ≡ messages_left o (lines_met text) output → MessagesListed text scratch scratch_exit output output_exit r
listed_from text scratch scratch_exit output output_exit r o e a s l =
    messages_listed text scratch scratch_exit output output_exit r (a ∙ ap messages_answer (sym e)) (s ∙ ap (λ (p : Out Scenario). scratch_behind p scratch) (sym e))
    (l ∙ ap (λ (p : Out Scenario). messages_left p (lines_met text) output) (sym e))

-- What each return is to show: refusal 2 for a short buffer, else what the sheet gives.
module _ (text scratch output : List ℕ) where
  refuses_bench : (r : Refusal) → r ≡ record { reason = Bench; line = 0 } → listable text (length scratch) (length output) ≡ refusal bench_refusal 0
      → MessagesListed text scratch scratch output output (numbers_for (Err r))
  unfolding scratch_behind messages_answer messages_left
  refuses_bench r a e =
      rw a (listed_from text scratch scratch output output (numbers_for (Err (record { reason = Bench; line = 0 }))) (refusal bench_refusal 0) e refl refl refl)

  pub refuses_scratch : (r : Refusal) → r ≡ record { reason = Bench; line = 0 } → length scratch < scratch_least
      → MessagesListed text scratch scratch output output (numbers_for (Err r))
  unfolding listable
  refuses_scratch r a l = refuses_bench r a (rw (lt-ltb (length scratch) scratch_least l))

  pub refuses_output : (r : Refusal) → r ≡ record { reason = Bench; line = 0 } → length output < message_numbers_least
      → MessagesListed text scratch scratch output output (numbers_for (Err r))
  unfolding listable
  refuses_output r a l = refuses_bench r a (rw (lt-ltb (length output) message_numbers_least l, or-true (ltb (length scratch) scratch_least)))

  pub answers : (scratch_exit output_exit used : List ℕ) (n : ℕ) (r : HoldingNumbers) (w : ℕ) → scratch_least ≤ length scratch → message_numbers_least ≤ length output
      → length used ≡ n → n ≤ scratch_least → scratch_exit ≡ cleared w (used ++ drop n scratch) → w ≡ scratch_least
      → Lists text output output_exit r → MessagesListed text scratch scratch_exit output output_exit r
  unfolding listable
  answers scratch_exit output_exit used n r w l k e m s all d =
      listed_from text scratch scratch_exit output output_exit r (sheet_of text)
      (rw (le-ltb (length scratch) scratch_least l, le-ltb (length output) message_numbers_least k))
      d.answer (cleared_all scratch_least w (used ++ drop n scratch) scratch_exit s all ∙ scratch_behind_holds text scratch used n e m) d.output_left
