-- What the table decides of a sheet, ahead of the sheet's own rows. Assumes nothing.
use Prim.Native.Nat.{ℕ, ◌<◌, ◌≤◌}
use native.Mathlib.Omega.{arith}
use mathlib.Core.Path.{◌≡◌, sym, ◌∙◌, ap, subst}
use mathlib.Core.Logic.{◌⊎◌, inl, inr}
use mathlib.Core.Bool.{Bool, true, false, and-false}
use mathlib.Core.List.{List}
use lib.Dec.{eqb, ltb}
use lib.ListN.{length, take}
use borrow.Author.Tests.{eqb-true, eq-eqb, lt-ltb, le-leb, lt-leb}
use Rattle.model.proofs.Bounded.{not_both}
use Rattle.model.specs.Limits.{text_most}
use Rattle.model.specs.Refusal.{Out, refusal, and_then, sender_table_refusal}
use Rattle.model.specs.Order.{Scenario}
use Rattle.model.specs.Senders.{Rule, soundness_of, sound_rules, sound_table}
use Rattle.model.proofs.Senders.{Agrees, agrees}
use Rattle.coverage.specs.Rules.{rules_as}
use Rattle.std.specs.Prelude.{Result, Ok, Err}
use Rattle.outcome.specs.declared.Reason.TheVariants.{Length, SenderTable}
use Rattle.outcome.specs.declared.Refusal.{Refusal}
use Rattle.sender_table.specs.Table.{outcome_of, TableAs}
use Rattle.sender_table.specs.declared.Table.{Table}
use Rattle.senders.specs.Judgement.{judgement_as}
use Rattle.senders.specs.declared.Judgement.{Judgement}
use Rattle.senders.specs.declared.Judgement.TheVariants.{Sound, Gap, Clash}
use Rattle.verdict.specs.declared.Verdict.{Verdict}
use Rattle.verdict.specs.Parts.{Decides}
use Rattle.permitted_sheet.specs.Sheet.{sheet_by}
use Rattle.permitted.specs.Parts.{sheet_with}
use Rattle.permitted_sheet.proofs.Sheet.{refuses}

-- a table that is not sound, and a text that is empty or too long
abbrev pub bad_table : Refusal
bad_table = record { reason = SenderTable; line = 0 }

abbrev pub bad_length : Refusal
bad_length = record { reason = Length; line = 0 }

-- By the judgement of the rules.
module _ (text : List ℕ) (rules : List Rule) where
  by_judgement : (j : Judgement) → judgement_as j ≡ soundness_of rules → Agrees rules (judgement_as j)
  by_judgement j e = subst (Agrees rules) (sym e) (agrees rules)

  pub rules_sound : judgement_as Sound ≡ soundness_of rules → (code : ℕ) (trace trace_exit : List ℕ) (r : Result Verdict Refusal) → Decides (sheet_by text rules) code trace trace_exit r
      → Decides (and_then (sound_rules rules) (sheet_by text)) code trace trace_exit r
  unfolding and_then
  rules_sound e code trace trace_exit r d =
      subst (λ (o : Out Scenario). Decides o code trace trace_exit r) (sym (ap (λ (o : Out (List Rule)). and_then o (sheet_by text)) (by_judgement Sound e))) d

  unsound : sound_rules rules ≡ refusal sender_table_refusal 0 → (code : ℕ) (trace : List ℕ)
      → Decides (and_then (sound_rules rules) (sheet_by text)) code trace trace (Err bad_table)
  unfolding and_then
  unsound h code trace =
      refuses (and_then (sound_rules rules) (sheet_by text)) bad_table code trace (ap (λ (o : Out (List Rule)). and_then o (sheet_by text)) h)

  pub rules_gap : (pair : ℕ) → judgement_as (Gap pair) ≡ soundness_of rules → (code : ℕ) (trace : List ℕ)
      → Decides (and_then (sound_rules rules) (sheet_by text)) code trace trace (Err bad_table)
  rules_gap pair e = unsound (by_judgement (Gap pair) e)

  pub rules_clash : (pair a b : ℕ) → judgement_as (Clash pair a b) ≡ soundness_of rules → (code : ℕ) (trace : List ℕ)
      → Decides (and_then (sound_rules rules) (sheet_by text)) code trace trace (Err bad_table)
  rules_clash pair a b e = unsound (by_judgement (Clash pair a b) e)

-- The text's length, ahead of the table.
module _ (text table : List ℕ) (code : ℕ) (trace : List ℕ) where
  text_empty : length text ≡ 0 → Decides (sheet_with text table) code trace trace (Err bad_length)
  unfolding sheet_with
  text_empty e = refuses (sheet_with text table) bad_length code trace (rw e)

  text_long : text_most < length text → Decides (sheet_with text table) code trace trace (Err bad_length)
  unfolding sheet_with
  text_long l = refuses (sheet_with text table) bad_length code trace (rw (lt-leb (length text) text_most l, and-false (ltb 0 (length text))))

  pub text_unmeasured : (r : Bool) → r ≡ eqb (length text) 0 → (r ≡ true) ⊎ ((r ≡ false) × (text_most < length text))
      → Decides (sheet_with text table) code trace trace (Err bad_length)
  text_unmeasured r e (inl h) = text_empty (eqb-true (length text) 0 (sym e ∙ h))
  text_unmeasured r e (inr h) = text_long h.1

  -- and then what was read of the table
  module _ (r : Bool) (measured : r ≡ eqb (length text) 0) (some : r ≡ false) (fits : length text ≤ text_most) where
    some_bytes : length text ≡ 0 → ⊥
    some_bytes e = not_both r (measured ∙ eq-eqb (length text) 0 e) some

    whole : (t : Result Table Refusal) → TableAs table t → sheet_with text table ≡ and_then (and_then (outcome_of t) sound_rules) (sheet_by text)
    unfolding sheet_with sound_table
    whole t a =
        let l : 0 < length text = omega (arith, some_bytes) in
        rw (lt-ltb 0 (length text) l, le-leb (length text) text_most fits, ← a.outcome)

    pub table_refused : (f : Refusal) → TableAs table (Err f) → Decides (sheet_with text table) code trace trace (Err f)
    unfolding and_then
    table_refused f a = refuses (sheet_with text table) f code trace (whole (Err f) a)

    pub table_decides : (t : Table) → TableAs table (Ok t) → (trace_exit : List ℕ) (v : Result Verdict Refusal)
        → Decides (and_then (sound_rules (rules_as (take t.count t.rules))) (sheet_by text)) code trace trace_exit v
        → Decides (sheet_with text table) code trace trace_exit v
    unfolding and_then
    table_decides t a trace_exit v d = subst (λ (o : Out Scenario). Decides o code trace trace_exit v) (sym (whole (Ok t) a)) d
