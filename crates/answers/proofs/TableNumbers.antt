-- The numbers answered are small, and handing them on keeps the promise. Assumes nothing.
use mathlib.Core.Path.{◌≡◌, refl, ap, subst, subst⁻¹}
use mathlib.Core.Bool.{Bool, true, false, cond, ◌||◌}
use mathlib.Core.List.{List}
use Prim.Native.Nat.{ℕ, ◌^◌, ◌<◌}
use native.Mathlib.Omega.{arith}
use lib.Dec.{ltb}
use lib.ListN.{length}
use Rattle.model.specs.Limits.{channels, scratch_least, trace_least}
use Rattle.model.specs.Refusal.{Out, ok, refusal, channel_refusal, bench_refusal}
use Rattle.model.specs.Order.{Scenario}
use Rattle.model.specs.Answer.{Numbers, answer_for, answer_of, numbers_of}
use Rattle.model.specs.Senders.{TableJudged, permitted_of, PermittedCheck}
use Rattle.model.proofs.Senders.{table_within}
use Rattle.model.proofs.Permitted.{permitted_accepted}
use Rattle.permitted.specs.Parts.{sheet_with}
use Rattle.permitted.proofs.Well.{WellNamed, with_well}
use Rattle.answers.specs.Numbers.{Small}
use Rattle.answers.proofs.Small.{answer_small}

-- the numbers of a judgement are small, and handing them on keeps the promise
pub small_judged : (table : List ℕ) (r : Numbers) → TableJudged table r → Small r
small_judged table r h =
    let w = table_within table in
    subst⁻¹ Small h.answer (record { one = omega (arith, w.0); two = omega (arith, w.1); three = omega (arith, w.2) })

pub same_judged : (table : List ℕ) (r q : Numbers) → TableJudged table r → q ≡ r → TableJudged table q
same_judged table r q h i = subst⁻¹ (TableJudged table) i h

-- the same of the check with a table
permitted_small : (text : List ℕ) (code m n : ℕ) (table : List ℕ) → Small (numbers_of (answer_for (permitted_of text code m n table) code))
unfolding permitted_of answer_for answer_of sheet_with
permitted_small text code m n table = go (permitted_of text code m n table) refl
  where
    named : (a b : Bool) (o : Out Scenario) → WellNamed o → (number line : ℕ)
        → cond a (cond b (refusal bench_refusal 0) o) (refusal channel_refusal 0) ≡ refusal number line → (number < 2 ^ 32) × (line < 2 ^ 32)
    named true true o w number line e = let d : ◌≡◌ {A = Out Scenario} (refusal bench_refusal 0) (refusal number line) = e in let p : number ≡ bench_refusal = cc in let q : line ≡ 0 = cc in (omega arith, omega arith)
    named true false (ok S) w number line e = let z : ◌≡◌ {A = ℕ} 0 1 = cc in absurd (omega arith)
    named true false (refusal number' line') w number line e = let p : number ≡ number' = cc in let q : line ≡ line' = cc in (omega (arith, w.known), omega (arith, w.within))
    named false b o w number line e = let p : number ≡ channel_refusal = cc in let q : line ≡ 0 = cc in (omega arith, omega arith)

    go : (o : Out Scenario) → permitted_of text code m n table ≡ o → Small (numbers_of (answer_for o code))
    go (ok S) e =
        let same : answer_of text code m n ≡ answer_for (ok S) code = ap (λ (o : Out Scenario). answer_for o code) (permitted_accepted text code m n table S e) in
        subst (λ a. Small (numbers_of a)) same (answer_small text code m n)
    go (refusal number line) e =
        let p = named (ltb code channels) (ltb m scratch_least || ltb n trace_least) (sheet_with text table) (with_well text table) number line e in
        record { one = p.0; two = p.1; three = omega arith }

pub small_permitted : (text : List ℕ) (code : ℕ) (scratch scratch_exit trace trace_exit table : List ℕ) (r : Numbers)
    → PermittedCheck text code scratch scratch_exit trace trace_exit table r → Small r
small_permitted text code scratch scratch_exit trace trace_exit table r h =
    subst⁻¹ Small h.answer (permitted_small text code (length scratch) (length trace) table)

pub same_permitted : (text : List ℕ) (code : ℕ) (scratch scratch_exit trace trace_exit table : List ℕ) (r q : Numbers)
    → PermittedCheck text code scratch scratch_exit trace trace_exit table r → q ≡ r → PermittedCheck text code scratch scratch_exit trace trace_exit table q
same_permitted text code scratch scratch_exit trace trace_exit table r q h i =
    subst⁻¹ (λ (n : Numbers). PermittedCheck text code scratch scratch_exit trace trace_exit table n) i h
