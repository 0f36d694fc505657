-- Refusals of a repeated sheet are named well, and the numbers of its answer fit 32 bits. Assumes nothing.
use Prim.Native.Nat.{ℕ, ◌*◌, ◌≤◌}
use native.Mathlib.Nat.{mul-le-mul_right}
use native.Mathlib.Omega.{arith}
use mathlib.Core.Path.{◌≡◌, refl, ◌∙◌, ap, subst, subst⁻¹}
use mathlib.Core.Logic.{⊎_elim}
use mathlib.Core.Bool.{Bool, true, false, cond, ◌||◌}
use mathlib.Core.List.{List, []}
use lib.Dec.{ltb}
use lib.ListN.{length}
use Rattle.model.specs.Limits.{channels, messages_most, rows_most, scratch_least, trace_least}
use Rattle.model.specs.Refusal.{Out, ok, refusal, and_then, channel_refusal, bench_refusal, choices_refusal}
use Rattle.model.specs.Rows.{Row}
use Rattle.model.specs.Place.{line_of, read_of}
use Rattle.model.specs.Expansion.{Progress, block_opened, expand}
use Rattle.model.specs.Order.{Exchange, scenario_of, Met, nothing_met, met_ops, exchange_of}
use Rattle.model.specs.Answer as model
use Rattle.model.specs.Answer.{Numbers, free_word, locked_word, refused_word, exchange_with, exchange_met, expanded_with, sheet_of, verdict_of, numbers_of}
use Rattle.model.specs.Channel.{channel_of}
use Rattle.model.specs.Schedule.{schedule}
use Rattle.model.specs.Rounds.{rounds, scenario_in, walked_again, walked_twice, repeatable, first_verdict, second_verdict, rounds_verdict, rounds_answer, RoundsJudged, RoundsChecked}
use Rattle.model.proofs.Accepted.{sheet_count}
use Rattle.model.proofs.Lines.{Well, Reads, read_well, expand_well}
use Rattle.model.proofs.WithoutChoices.{read_plain}
use Rattle.second_walk.specs.Walks.{rows_repeatable}
use Rattle.second_walk.proofs.Plain.{walked_well}
use Rattle.rounds.specs.Numbers.{Small, text_repeatable}

well_then : {A B : Type 0} (o : Out A) (f : A → Out B) → Well (line_of rows_most) o → ((a : A) → Well (line_of rows_most) (f a)) → Well (line_of rows_most) (and_then o f)
unfolding and_then
well_then (ok a) f w g = g a
well_then (refusal number line) f w g = w

-- the exchange of one round, or a refusal named well
pub repeatable_well : (text : List ℕ) → Well (line_of rows_most) (text_repeatable text)
unfolding text_repeatable rows_repeatable walked_again Reads and_then
repeatable_well text = go (read_of text) refl (read_well false text)
  where
    go : (o : Out (List Row)) → read_of text ≡ o → Reads o → Well (line_of rows_most) (and_then o rows_repeatable)
    go (refusal number line) i w = w
    go (ok file) i w =
        well_then (expand met_ops [] file nothing_met) (λ s. and_then (walked_again file s) (λ t. ok (exchange_of s))) (expand_well met_ops [] file w nothing_met)
        (λ s. well_then (walked_again file s) (λ t. ok (exchange_of s)) (walked_well met_ops [] file (read_plain text file i) w (block_opened met_ops s)) (λ t. tt))

-- the exchange of one round, of the two that are met
pub first_met : (text : List ℕ) → and_then (walked_twice text) (λ twice. ok twice.0) ≡ text_repeatable text
unfolding walked_twice text_repeatable rows_repeatable and_then
first_met text = go (read_of text)
  where
    first : Out (Exchange × Exchange) → Out Exchange
    first o = and_then o (λ twice. ok twice.0)

    again : (s : Progress Met) (o : Out (Progress Met)) → first (and_then o (λ t. ok (exchange_of s, exchange_of t))) ≡ and_then o (λ t. ok (exchange_of s))
    again s (ok t) = refl
    again s (refusal number line) = refl

    walked : (file : List Row) (o : Out (Progress Met))
        → first (and_then o (λ s. and_then (walked_again file s) (λ t. ok (exchange_of s, exchange_of t)))) ≡ and_then o (λ s. and_then (walked_again file s) (λ t. ok (exchange_of s)))
    walked file (ok s) = again s (walked_again file s)
    walked file (refusal number line) = refl

    go : (o : Out (List Row))
        → first (and_then o (λ file. and_then (expand met_ops [] file nothing_met) (λ s. and_then (walked_again file s) (λ t. ok (exchange_of s, exchange_of t)))))
        ≡ and_then o rows_repeatable
    go (ok file) = walked file (expand met_ops [] file nothing_met)
    go (refusal number line) = refl

-- one round has at most so many messages as a walk may meet
one_count : (text : List ℕ) (E : Exchange) → exchange_met text ≡ ok E → E.count ≤ messages_most
unfolding exchange_met exchange_with sheet_of expanded_with and_then scenario_of
one_count text E e = go (read_of text) refl e
  where
    sheet_is : (file : List Row) → read_of text ≡ ok file → (o : Out (Progress Met)) → expand met_ops [] file nothing_met ≡ o
        → and_then o (λ s. ok (exchange_of s)) ≡ ok E → E.count ≤ messages_most
    sheet_is file i (ok s) j k =
        let same : exchange_of s ≡ E = cc in
        let met : sheet_of text ≡ ok (scenario_of (exchange_of s)) = rw (i, j) in
        subst (λ (F : Exchange). F.count ≤ messages_most) same (sheet_count text (scenario_of (exchange_of s)) met)
    sheet_is file i (refusal number line) j k = let z : ◌≡◌ {A = ℕ} 0 1 = cc in absurd (omega arith)

    go : (o : Out (List Row)) → read_of text ≡ o → and_then o (exchange_with []) ≡ ok E → E.count ≤ messages_most
    go (ok file) i k = sheet_is file i (expand met_ops [] file nothing_met) refl k
    go (refusal number line) i k = let z : ◌≡◌ {A = ℕ} 0 1 = cc in absurd (omega arith)

-- a refusal of the call has a small number, and a line of the file
abbrev Bounded : Out Exchange → Type 0
Bounded (ok E) = Unit {0}
Bounded (refusal number line) = (number ≤ choices_refusal) × (line ≤ line_of rows_most)

bounded : (text : List ℕ) (code m n : ℕ) → Bounded (repeatable text code m n)
unfolding repeatable
bounded text code m n = go (ltb code channels) (ltb m scratch_least || ltb n trace_least)
  where
    walked : (o : Out Exchange) → Well (line_of rows_most) o → Bounded o
    walked (ok E) w = tt
    walked (refusal number line) w = (w.known, w.within)

    go : (a b : Bool) → Bounded (cond a (cond b (refusal bench_refusal 0) (and_then (walked_twice text) (λ twice. ok twice.0))) (refusal channel_refusal 0))
    go true true = (omega arith, omega arith)
    go true false = subst⁻¹ Bounded (first_met text) (walked (text_repeatable text) (repeatable_well text))
    go false b = (omega arith, omega arith)

-- there are at most two rounds
first_few : (a b : model.Answer) → (first_verdict a b).0 ≤ 2
unfolding first_verdict second_verdict
first_few model.free model.free = omega arith
first_few model.free (model.locked e x ts) = omega arith
first_few model.free (model.refused number line) = omega arith
first_few (model.locked e x ts) b = omega arith
first_few (model.refused number line) b = omega arith

rounds_few : (o : Out Exchange) (code : ℕ) → (rounds_answer o code).0 ≤ 2
unfolding rounds_answer rounds_verdict
rounds_few (ok E) code = first_few (verdict_of (scenario_of E) code) (verdict_of (scenario_of (rounds E 2)) code)
rounds_few (refusal number line) code = omega arith

judged_small : (E : Exchange) (code number : ℕ) (a : model.Answer) → E.count ≤ messages_most → number ≤ 2 → RoundsJudged E code number (numbers_of a)
    → Small (numbers_of a) number
unfolding scenario_of rounds
judged_small E code number model.free few most j = record { one = omega arith; two = omega arith; three = omega arith; rounds = omega arith }
judged_small E code number (model.locked e x ts) few most j =
    let inside = (j.locked_race refl).in_scenario in
    let S = scenario_in E number in
    let all : number * E.count ≤ 2 * E.count = mul-le-mul_right E.count most in
    let short = j.none_longer number (schedule S (channel_of code) e) (j.locked_steps refl).is_order in
    record {
      one = omega (arith, inside.0);
      two = omega (arith, inside.1);
      three = omega (arith, short, j.locked_count refl);
      rounds = omega arith;
    }
judged_small E code number (model.refused m line) few most j =
    absurd (⊎_elim (λ (e : refused_word ≡ free_word). omega (arith, e)) (λ (e : refused_word ≡ locked_word). omega (arith, e)) j.free_or_locked)

-- the numbers answered are small
pub small_checked : (text : List ℕ) (code : ℕ) (scratch scratch_exit trace trace_exit : List ℕ) (number : ℕ) (r : Numbers)
    → RoundsChecked text code scratch scratch_exit trace trace_exit number r → Small r number
unfolding repeatable rounds_answer
small_checked text code scratch scratch_exit trace trace_exit number r h =
    go (repeatable text code (length scratch) (length trace)) refl
  where
    o : Out Exchange
    o = repeatable text code (length scratch) (length trace)

    most : number ≤ 2
    most = omega (arith, h.how_often, rounds_few o code)

    refused_small : (m line : ℕ) → o ≡ refusal m line → Small (numbers_of (model.refused m line)) number
    refused_small m line i =
        let w = subst (Bounded) i (bounded text code (length scratch) (length trace)) in
        record { one = omega (arith, w.0); two = omega (arith, w.1); three = omega arith; rounds = omega (arith, most) }

    go : (p : Out Exchange) → o ≡ p → Small r number
    go (refusal m line) i = subst⁻¹ (λ (q : Numbers). Small q number) (h.answer ∙ ap (λ (q : Out Exchange). numbers_of (rounds_answer q code).1) i) (refused_small m line i)
    go (ok E) i =
        let same : r ≡ numbers_of (rounds_verdict E code).1 = h.answer ∙ ap (λ (q : Out Exchange). numbers_of (rounds_answer q code).1) i in
        subst⁻¹ (λ (q : Numbers). Small q number) same
        (judged_small E code number (rounds_verdict E code).1 (one_count text E (h.one_walk E i)) most
        (subst (λ (q : Numbers). RoundsJudged E code number q) same (h.every_round E i)))
