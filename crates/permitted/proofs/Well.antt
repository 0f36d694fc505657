-- With a table every refusal behind 1 and 2 is one of those, with a line of the sheet or of the table. Assumes nothing.
use Prim.Native.Nat.{ℕ, ◌<◌, ◌≤◌}
use native.Mathlib.Decide.{dec_lt}
use native.Mathlib.Omega.{arith}
use mathlib.Core.Path.{◌≡◌, refl, sym, ◌∙◌, subst, subst⁻¹}
use mathlib.Core.Bool.{Bool, true, false, cond, ◌&&◌}
use mathlib.Core.List.{List}
use mathlib.Core.Option.{Option, none, some}
use lib.Dec.{leb, ltb}
use lib.ListN.{length, get_or, get_or-eq_default}
use Rattle.model.specs.Limits.{rows_most, text_most}
use Rattle.model.specs.Bounded.{lowest}
use Rattle.model.specs.Refusal.{Out, ok, refusal, and_then, bench_refusal, sender_table_refusal, forbidden_refusal, length_refusal}
use Rattle.model.specs.Rows.{message, block}
use Rattle.model.specs.Place.{line_of}
use Rattle.model.specs.Order.{Scenario}
use Rattle.model.specs.Answer.{sheet_of}
use Rattle.model.specs.Senders.{Rule, rules_of, Soundness, sound, gap, clash, malformed, soundness_of, judged_table, table_answer, table_numbers, table_refused_word, sound_rules, sound_table, is_forbidden, lines_met, permitted, MessageRow}
use Rattle.model.proofs.Bounded.{lowest_some}
use Rattle.model.proofs.Lines.{Well, sheet_well, Reads, read_well}
use Rattle.model.proofs.Senders.{Agrees, agrees, table_within, table_judged}
use Rattle.model.proofs.Permitted.{line_met}
use Rattle.permitted_sheet.specs.Sheet.{sheet_by}
use Rattle.permitted.specs.Parts.{sheet_with}

pub record Named (number line : ℕ) : Type 0 where
  pub behind : bench_refusal < number
  pub known : number ≤ forbidden_refusal
  pub within : line ≤ line_of rows_most

abbrev pub WellNamed : {A : Type 0} → Out A → Type 0
WellNamed (ok a) = Unit {0}
WellNamed (refusal number line) = Named number line

well_then : {A B : Type 0} (o : Out A) (f : A → Out B) → WellNamed o → ((a : A) → o ≡ ok a → WellNamed (f a)) → WellNamed (and_then o f)
unfolding and_then
well_then (ok a) f h g = g a refl
well_then (refusal number line) f h g = h

well_cond : {A : Type 0} (t : Bool) (o p : Out A) → WellNamed o → WellNamed p → WellNamed (cond t o p)
well_cond true o p h k = h
well_cond false o p h k = k

-- the table
rules_well : (table : List ℕ) → WellNamed (rules_of table)
unfolding table_answer judged_table
rules_well table = go (rules_of table) refl
  where
    go : (o : Out (List Rule)) → rules_of table ≡ o → WellNamed o
    go (ok rules) e = tt
    go (refusal number line) e =
        let n = table_numbers (table_answer table) in
        let two : n.two ≡ line = rw (e, table_answer) in
        let word : n.word ≡ table_refused_word = rw (e, table_answer) in
        let same : rules_of table ≡ refusal sender_table_refusal n.two = (table_judged table n refl).refused_when.0 word in
        let d : refusal number line ≡ refusal sender_table_refusal n.two = sym e ∙ same in
        let number_is : number ≡ sender_table_refusal = cc in
        record { behind = omega arith; known = omega arith; within = omega (arith, (table_within table).1) }

sound_well : (rules : List Rule) → WellNamed (sound_rules rules)
sound_well rules = go (soundness_of rules) (agrees rules)
  where
    unsound : sound_rules rules ≡ refusal sender_table_refusal 0 → WellNamed (sound_rules rules)
    unsound h = subst⁻¹ (λ (o : Out (List Rule)). WellNamed o) h (record { behind = omega arith; known = omega arith; within = omega arith })

    go : (s : Soundness) → Agrees rules s → WellNamed (sound_rules rules)
    go sound h = subst⁻¹ (λ (o : Out (List Rule)). WellNamed o) h tt
    go (gap q) h = unsound h
    go (clash q a b) h = unsound h
    go (malformed number line) h = absurd h

table_well : (table : List ℕ) → WellNamed (sound_table table)
unfolding sound_table
table_well table = well_then (rules_of table) sound_rules (rules_well table) (λ rules e. sound_well rules)

-- the sheet
sheet_named : (text : List ℕ) → WellNamed (sheet_of text)
sheet_named text = go (sheet_of text) (sheet_well text)
  where
    go : (o : Out Scenario) → Well (line_of rows_most) o → WellNamed o
    go (ok S) w = tt
    go (refusal number line) w = record { behind = w.behind; known = omega (arith, w.known); within = w.within }

-- the line of an M row
line_within : (text : List ℕ) (k line a b : ℕ) → MessageRow text k line a b → line ≤ line_of rows_most
unfolding Reads
line_within text k line a b m = go (dec_lt m.row (length m.file))
  where
    few : length m.file ≤ rows_most
    few = subst Reads m.read (read_well false text)

    go : Dec (m.row < length m.file) → line ≤ line_of rows_most
    go (yes l) = omega (arith, m.at_line, few)
    go (no n) =
        let none : get_or m.file m.row block ≡ block = get_or-eq_default m.file block {n = m.row} (omega arith) in
        let both : block ≡ message a b = sym none ∙ m.is_message in
        let z : ◌≡◌ {A = ℕ} 0 1 = cc in absurd (omega arith)

permitted_well : (text : List ℕ) (S : Scenario) → sheet_of text ≡ ok S → (rules : List Rule) → WellNamed (permitted rules (lines_met text) S)
unfolding permitted
permitted_well text S e rules = go (lowest S.count (is_forbidden rules S)) refl
  where
    go : (o : Option ℕ) → lowest S.count (is_forbidden rules S) ≡ o
        → WellNamed {A = Scenario} (elim o [ none ↦ ok S | some m ↦ refusal forbidden_refusal (get_or (lines_met text) m 0) ])
    go none d = tt
    go (some m) d =
        let l : m < S.count = (lowest_some S.count (is_forbidden rules S) m d).below in
        record {
          behind = omega arith;
          known = omega arith;
          within = line_within text m (get_or (lines_met text) m 0) (S.source m) (S.target m) (line_met text S e m l);
        }

pub with_well : (text table : List ℕ) → WellNamed (sheet_with text table)
unfolding sheet_with
with_well text table =
    well_cond (ltb 0 (length text) && leb (length text) text_most) (and_then (sound_table table) (sheet_by text)) (refusal length_refusal 0)
    (well_then (sound_table table) (sheet_by text) (table_well table)
    (λ rules e. well_then (sheet_of text) (permitted rules (lines_met text)) (sheet_named text) (λ S d. permitted_well text S d rules)))
    (record { behind = omega arith; known = omega arith; within = omega arith })
