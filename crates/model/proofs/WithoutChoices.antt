-- A file without A rows: it is read as the check reads it, its walk asks for no option, and so the call gives what the check gives.
-- Assumes nothing.
use Prim.Native.Nat.{ℕ, zero, suc}
use mathlib.Core.Path.{◌≡◌, refl, sym, ◌∙◌, ap, subst, subst⁻¹}
use mathlib.Core.Bool.{Bool, true, false, cond, ◌&&◌, ◌||◌}
use mathlib.Core.List.{List, [], ◌∷◌, ◌++◌}
use mathlib.Core.Option.{Option, none, some}
use lib.Dec.{eqb, ltb}
use lib.ListN.{length, drop, get_or}
use borrow.Author.Tests.{lt-leb}
use Rattle.model.specs.Limits.{rows_most, messages_most, levels, calls_most, channels, scratch_least, trace_least}
use Rattle.model.specs.Refusal.{Out, ok, refusal, and_then, channel_refusal, bench_refusal, heading_refusal, row_refusal, place_refusal, circle_refusal, calls_refusal, messages_refusal}
use Rattle.model.specs.Text.{Line, Columns, fields_of, number_of, lines_of, heading_of}
use Rattle.model.specs.Rows.{Row, sheet, message, order, block, call, choice, formed, from_fields, row_of}
use Rattle.model.specs.Place.{Place, outside, placed, circle_at, line_of, judged, rows_from, complete, body_of, read_with, read_of}
use Rattle.model.specs.Expansion.{Ops, Progress, start_of, fresh_walk, block_opened, call_made, message_met, order_met, walk_rows, call_at, expand}
use Rattle.model.specs.Order.{Scenario, Met, met_ops, nothing_met}
use Rattle.model.specs.Channel.{channel_of}
use Rattle.model.specs.Race.{race_rule_of, lowest_race}
use Rattle.model.specs.Schedule.{schedule}
use Rattle.model.specs.Answer.{scratch_cleared, Answer, free, locked, refused, expanded_with, sheet_of, accepted_of, answer_for, answer_of, verdict_of, numbers_of, scratch_behind, trace_after}
use Rattle.model.specs.Choice.{is_asked, asks, lists_from, lists_of, ChoiceAnswer, each_free, first_locked, first_refused, refusal_in, lock_in, judged_over, choosable, choice_answer_for, choice_answer_of, choices_number, ChoiceNumbers, choice_numbers, first_four, trace_chosen, is_choice, Plain, reads_as_choice, any_choice, choices_behind, has_choices, ChoiceVerdict, ChoiceChecked}
use Rattle.model.proofs.Bounded.{not_both, or_neither}
use Rattle.model.proofs.Refusal.{not_refused, passed}
use Rattle.model.proofs.Standing.{read_parts}
use Rattle.model.proofs.Lines.{Well, Reads, read_well, expanded_well}
use Rattle.model.proofs.Asking.{walk_on, asks_walk, Follows, same, asked, expand_follows}
use Rattle.model.proofs.PointThree.{checked_from}
use Rattle.model.proofs.Choices.{choice_right}

-- Reading. A row that is read with A rows let through, and is none, is read without them too; and without them none is an A row.
abbrev Chosen : Option Row → Bool
Chosen o = elim o [ none ↦ false | some r ↦ is_choice r ]

formed_same : (kind one two : ℕ) → Chosen (formed true kind one two) ≡ false → formed true kind one two ≡ formed false kind one two
unfolding formed is_choice
formed_same kind one two = go (eqb kind 83 && eqb two 0) (eqb kind 77) (eqb kind 80) (eqb kind 66 && eqb one 0 && eqb two 0) (eqb kind 67 && eqb two 0) (eqb kind 65)
  where
    row_by : Bool → Bool → Bool → Bool → Bool → Bool → Option Row
    row_by s m p b c a =
        cond s (some (sheet one)) (cond m (some (message one two)) (cond p (some (order one two)) (cond b (some block) (cond c (some (call one)) (cond a (some (choice one two)) none)))))

    go : (s m p b c a : Bool) → Chosen (row_by s m p b c a) ≡ false → row_by s m p b c a ≡ row_by s m p b c false
    go true m p b c a e = refl
    go false true p b c a e = refl
    go false false true b c a e = refl
    go false false false true c a e = refl
    go false false false false true a e = refl
    go false false false false false true e = not_both true refl e
    go false false false false false false e = refl

formed_plain : (kind one two : ℕ) → Chosen (formed false kind one two) ≡ false
unfolding formed is_choice
formed_plain kind one two = go (eqb kind 83 && eqb two 0) (eqb kind 77) (eqb kind 80) (eqb kind 66 && eqb one 0 && eqb two 0) (eqb kind 67 && eqb two 0)
  where
    go : (s m p b c : Bool)
        → Chosen (cond s (some (sheet one)) (cond m (some (message one two)) (cond p (some (order one two)) (cond b (some block) (cond c (some (call one)) none))))) ≡ false
    go true m p b c = refl
    go false true p b c = refl
    go false false true b c = refl
    go false false false true c = refl
    go false false false false true = refl
    go false false false false false = refl

fields_same : (k : List ℕ) (one two : Option ℕ) → Chosen (from_fields true k one two) ≡ false → from_fields true k one two ≡ from_fields false k one two
unfolding from_fields
fields_same [] one two e = refl
fields_same (k ∷ []) none two e = refl
fields_same (k ∷ []) (some a) none e = refl
fields_same (k ∷ []) (some a) (some b) e = formed_same k a b e
fields_same (k ∷ l ∷ ls) one two e = refl

fields_plain : (k : List ℕ) (one two : Option ℕ) → Chosen (from_fields false k one two) ≡ false
unfolding from_fields
fields_plain [] one two = refl
fields_plain (k ∷ []) none two = refl
fields_plain (k ∷ []) (some a) none = refl
fields_plain (k ∷ []) (some a) (some b) = formed_plain k a b
fields_plain (k ∷ l ∷ ls) one two = refl

row_same : (c : Columns) (l : Line) → reads_as_choice c l ≡ false → row_of true c l ≡ row_of false c l
unfolding row_of reads_as_choice
row_same c l = go (l.ended && eqb (length (fields_of l.bytes)) 3)
  where
    fs : List (List ℕ)
    fs = fields_of l.bytes

    read : Bool → Option Row
    read t = from_fields t (get_or fs c.kind []) (number_of (get_or fs c.one [])) (number_of (get_or fs c.two []))

    go : (t : Bool) → Chosen (cond t (read true) none) ≡ false → cond t (read true) none ≡ cond t (read false) none
    go true e = fields_same (get_or fs c.kind []) (number_of (get_or fs c.one [])) (number_of (get_or fs c.two [])) e
    go false e = refl

row_plain : (c : Columns) (l : Line) → Chosen (row_of false c l) ≡ false
unfolding row_of
row_plain c l = go (l.ended && eqb (length (fields_of l.bytes)) 3)
  where
    fs : List (List ℕ)
    fs = fields_of l.bytes

    go : (t : Bool) → Chosen (cond t (from_fields false (get_or fs c.kind []) (number_of (get_or fs c.one [])) (number_of (get_or fs c.two []))) none) ≡ false
    go true = fields_plain (get_or fs c.kind []) (number_of (get_or fs c.one [])) (number_of (get_or fs c.two []))
    go false = refl

judged_same : (c : Columns) (i : ℕ) (p : Place) (l : Line) → reads_as_choice c l ≡ false → judged true c i p l ≡ judged false c i p l
unfolding judged
judged_same c i p l e =
    ap (λ (o : Option Row). elim (cond (ltb i rows_most) o none) [
      | none ↦ refusal row_refusal (line_of i)
      | some r ↦ elim (placed p r) [
        | none ↦ refusal place_refusal (line_of i)
        | some q ↦ cond (circle_at r q) (refusal circle_refusal (line_of i)) (ok (r, q))
      ]
    ]) (row_same c l e)

rows_same : (c : Columns) (i : ℕ) (p : Place) (ls : List Line) → any_choice c ls ≡ false → rows_from true c i p ls ≡ rows_from false c i p ls
unfolding rows_from any_choice
rows_same c i p [] e = refl
rows_same c i p (l ∷ ls) e =
    let d = or_neither (reads_as_choice c l) (any_choice c ls) e in
    ap (λ (o : Out (Row × Place)). elim o [
      | refusal number line ↦ refusal number line
      | ok rp ↦ elim (rows_from true c (suc i) rp.1 ls) [ refusal number line ↦ refusal number line | ok rs ↦ ok (rp.0 ∷ rs) ]
    ]) (judged_same c i p l d.0)
    ∙ go (judged false c i p l) (λ q. rows_same c (suc i) q ls d.1)
  where
    go : (o : Out (Row × Place)) → ((q : Place) → rows_from true c (suc i) q ls ≡ rows_from false c (suc i) q ls)
        → ◌≡◌ {A = Out (List Row)} (elim o [
          | refusal number line ↦ refusal number line
          | ok rp ↦ elim (rows_from true c (suc i) rp.1 ls) [ refusal number line ↦ refusal number line | ok rs ↦ ok (rp.0 ∷ rs) ]
        ])
        (elim o [
          | refusal number line ↦ refusal number line
          | ok rp ↦ elim (rows_from false c (suc i) rp.1 ls) [ refusal number line ↦ refusal number line | ok rs ↦ ok (rp.0 ∷ rs) ]
        ])
    go (refusal number line) f = refl
    go (ok rp) f = ap (λ (o : Out (List Row)). elim o [ refusal number line ↦ refusal number line | ok rs ↦ ok (rp.0 ∷ rs) ]) (f rp.1)

body_same : (ls : List Line) → choices_behind ls ≡ false → body_of true ls ≡ body_of false ls
unfolding body_of choices_behind
body_same [] e = refl
body_same (h ∷ ls) e = go (heading_of h) e
  where
    go : (o : Option Columns) → elim o [ none ↦ false | some c ↦ any_choice c ls ] ≡ false
        → ◌≡◌ {A = Out (List Row)} (elim o [ none ↦ refusal heading_refusal 1 | some c ↦ and_then (rows_from true c 0 outside ls) complete ])
        (elim o [ none ↦ refusal heading_refusal 1 | some c ↦ and_then (rows_from false c 0 outside ls) complete ])
    go none e = refl
    go (some c) e = ap (λ (o : Out (List Row)). and_then o complete) (rows_same c 0 outside ls e)

pub read_same : (text : List ℕ) → has_choices text ≡ false → read_with true text ≡ read_of text
unfolding read_with has_choices
read_same text e = rw (body_same (lines_of text) e)

judged_plain : (c : Columns) (i : ℕ) (p : Place) (l : Line) (rp : Row × Place) → judged false c i p l ≡ ok rp → is_choice rp.0 ≡ false
unfolding judged
judged_plain c i p l rp e = go (ltb i rows_most) (row_of false c l) (row_plain c l) e
  where
    place : (r : Row) (o : Option Place) → is_choice r ≡ false
        → elim o [ none ↦ refusal place_refusal (line_of i) | some q ↦ cond (circle_at r q) (refusal circle_refusal (line_of i)) (ok (r, q)) ] ≡ ok rp
        → is_choice rp.0 ≡ false
    place r none f e = not_refused e
    place r (some q) f e = circle (circle_at r q) e
      where
        circle : (b : Bool) → cond b (refusal circle_refusal (line_of i)) (ok (r, q)) ≡ ok rp → is_choice rp.0 ≡ false
        circle true e = not_refused e
        circle false e = let t : ◌≡◌ {A = Row × Place} (r, q) rp = cc in subst (λ (z : Row × Place). is_choice z.0 ≡ false) t f

    go : (b : Bool) (o : Option Row) → Chosen o ≡ false
        → elim (cond b o none) [
          | none ↦ refusal row_refusal (line_of i)
          | some r ↦ elim (placed p r) [
            | none ↦ refusal place_refusal (line_of i)
            | some q ↦ cond (circle_at r q) (refusal circle_refusal (line_of i)) (ok (r, q))
          ]
        ] ≡ ok rp
        → is_choice rp.0 ≡ false
    go false o f e = not_refused e
    go true none f e = not_refused e
    go true (some r) f e = place r (placed p r) f e

rows_plain : (c : Columns) (i : ℕ) (p : Place) (ls : List Line) (rs : List Row) → rows_from false c i p ls ≡ ok rs → Plain rs
unfolding rows_from
rows_plain c i p [] rs e = let t : [] ≡ rs = cc in subst Plain t tt
rows_plain c i p (l ∷ ls) rs e =
    let s = passed (judged false c i p l) (λ rp. elim (rows_from false c (suc i) rp.1 ls) [ refusal number line ↦ refusal number line | ok rs' ↦ ok (rp.0 ∷ rs') ]) rs e in
    let rp = s.0 in
    let t = passed (rows_from false c (suc i) rp.1 ls) (λ rs'. ok (rp.0 ∷ rs')) rs s.2 in
    let e' : rp.0 ∷ t.0 ≡ rs = cc t.2 in
    subst Plain e' (judged_plain c i p l rp s.1, rows_plain c (suc i) rp.1 ls t.0 t.1)

pub read_plain : (text : List ℕ) (rs : List Row) → read_of text ≡ ok rs → Plain rs
read_plain text rs e = let p = read_parts false text rs e in rows_plain p.columns 0 outside p.lines rs p.read

-- The walk of such rows asks for nothing.
asked_then : {A B : Type 0} (o : Out A) (f : A → Out B) → is_asked o ≡ false → ((a : A) → is_asked (f a) ≡ false) → is_asked (and_then o f) ≡ false
unfolding is_asked and_then
asked_then (ok a) f e g = g a
asked_then (refusal number line) f e g = e

drop_plain : (k : ℕ) (rs : List Row) → Plain rs → Plain (drop k rs)
drop_plain zero rs p = p
drop_plain (suc k) [] p = tt
drop_plain (suc k) (r ∷ rs) p = drop_plain k rs p.1

module _ {T : Type 0} (ops : Ops T) (options : List Bool) where
  rows_unasked : (C : Bool → ℕ → ℕ → Progress T → Out (Progress T)) → ((n line : ℕ) (s : Progress T) → is_asked (C false n line s) ≡ false)
      → (rs : List Row) → Plain rs → (line : ℕ) (s : Progress T) → is_asked (walk_rows ops options C rs line s) ≡ false
  unfolding walk_rows is_asked is_choice
  rows_unasked C calls [] p line s = refl
  rows_unasked C calls (sheet n ∷ rs) p line s = refl
  rows_unasked C calls (message a b ∷ rs) p line s = go (ltb s.walk.count messages_most) (rows_unasked C calls rs p.1 (suc line) (message_met ops a b s))
    where
      go : (c : Bool) → is_asked (walk_rows ops options C rs (suc line) (message_met ops a b s)) ≡ false
          → is_asked {T = Progress T} (elim c [ true ↦ walk_rows ops options C rs (suc line) (message_met ops a b s) | false ↦ refusal messages_refusal line ]) ≡ false
      go true e = e
      go false e = refl
  rows_unasked C calls (order x y ∷ rs) p line s = rows_unasked C calls rs p.1 (suc line) (order_met ops x y s)
  rows_unasked C calls (block ∷ rs) p line s = rows_unasked C calls rs p.1 (suc line) (block_opened ops s)
  rows_unasked C calls (call n ∷ rs) p line s =
      asked_then (C false n line s) (λ s'. walk_rows ops options C rs (suc line) (block_opened ops s')) (calls n line s)
      (λ s'. rows_unasked C calls rs p.1 (suc line) (block_opened ops s'))
  rows_unasked C calls (choice m n ∷ rs) p line s = not_both true refl p.0

  module _ (file : List Row) (plain : Plain file) where
    calls_unasked : (left n line : ℕ) (s : Progress T) → is_asked (call_at ops options left file false n line s) ≡ false
    unfolding call_at is_asked
    calls_unasked zero n line s = refl
    calls_unasked (suc left) n line s =
        go (ltb s.walk.calls calls_most)
        (rows_unasked (call_at ops options left file) (calls_unasked left) (drop (start_of n file) file) (drop_plain (start_of n file) file plain) (line_of (start_of n file))
        (block_opened ops (call_made ops false s)))
      where
        body : Out (Progress T)
        body = walk_rows ops options (call_at ops options left file) (drop (start_of n file) file) (line_of (start_of n file)) (block_opened ops (call_made ops false s))

        go : (c : Bool) → is_asked body ≡ false → is_asked {T = Progress T} (elim c [ true ↦ body | false ↦ refusal calls_refusal line ]) ≡ false
        go true e = e
        go false e = refl

    pub expand_unasked : (t : T) → is_asked (expand ops options file t) ≡ false
    unfolding expand
    expand_unasked t =
        rows_unasked (call_at ops options levels file) (calls_unasked levels) (drop (start_of 0 file) file) (drop_plain (start_of 0 file) file plain) (line_of (start_of 0 file))
        (record { walk = fresh_walk; kept = t })

-- so it is the same on every list
pub walk_plain : (file : List Row) → Plain file → (l : List Bool) → walk_on file l ≡ walk_on file []
unfolding is_asked
walk_plain file plain l = go (expand_follows met_ops [] l file nothing_met) (expand_unasked met_ops [] file plain nothing_met)
  where
    go : {o o' : Out (Progress Met)} → Follows met_ops [] l o o' → is_asked o ≡ false → o' ≡ o
    go same f = refl
    go (asked b) f = not_both true refl f

pub expanded_plain : (file : List Row) → Plain file → (l : List Bool) → expanded_with l file ≡ expanded_with [] file
unfolding expanded_with
expanded_plain file plain l = rw (walk_plain file plain l)

-- The one list of such rows is the empty one, and the answer is that of the check.
one_list : (file : List Row) → Plain file → lists_of file ≡ [] ∷ []
unfolding lists_of lists_from asks
one_list file plain =
    ap (λ (b : Bool). elim b [ true ↦ lists_from file 7 (false ∷ []) ++ lists_from file 7 (true ∷ []) | false ↦ [] ∷ [] ])
    (asks_walk file [] ∙ expand_unasked met_ops [] file plain nothing_met)

as_choice : Answer → ChoiceAnswer
as_choice free = each_free
as_choice (locked e x ts) = first_locked [] e x ts
as_choice (refused number line) = first_refused number line

judged_alone : (file : List Row) (code : ℕ) → judged_over file code ([] ∷ []) ≡ as_choice (answer_for (expanded_with [] file) code)
unfolding judged_over refusal_in lock_in answer_for verdict_of as_choice
judged_alone file code = go (expanded_with [] file)
  where
    alone : Answer → ChoiceAnswer
    alone a = elim a [ free ↦ each_free | locked e x ts ↦ first_locked [] e x ts | refused number line ↦ each_free ]

    named : Scenario → Option (ℕ × ℕ) → Answer
    named S o = elim o [ none ↦ free | some race ↦ locked race.0 race.1 (schedule S (channel_of code) race.0) ]

    first : Out Scenario → Option (ℕ × ℕ)
    first w = elim w [ ok S ↦ none | refusal number line ↦ some (number, line) ]

    race : (S : Scenario) (o : Option (ℕ × ℕ)) → alone (named S o) ≡ as_choice (named S o)
    race S none = refl
    race S (some r) = refl

    go : (w : Out Scenario)
        → ◌≡◌ {A = ChoiceAnswer} (elim (first w) [ none ↦ alone (answer_for w code) | some r ↦ first_refused r.0 r.1 ]) (as_choice (answer_for w code))
    go (refusal number line) = refl
    go (ok S) = race S (lowest_race S (race_rule_of code))

module _ (text : List ℕ) (without : has_choices text ≡ false) (code m n : ℕ) where
  same_answer : choice_answer_of text code m n ≡ as_choice (answer_of text code m n)
  unfolding choice_answer_of choosable answer_of accepted_of sheet_of and_then choice_answer_for answer_for as_choice
  same_answer =
      ap (λ (o : Out (List Row)). choice_answer_for (cond (ltb code channels) (cond (ltb m scratch_least || ltb n trace_least) (refusal bench_refusal 0) o) (refusal channel_refusal 0)) code)
      (read_same text without)
      ∙ go (ltb code channels) (ltb m scratch_least || ltb n trace_least) (read_of text) refl
    where
      go : (b d : Bool) (o : Out (List Row)) → read_of text ≡ o
          → choice_answer_for (cond b (cond d (refusal bench_refusal 0) o) (refusal channel_refusal 0)) code
          ≡ as_choice (answer_for (cond b (cond d (refusal bench_refusal 0) (and_then o (expanded_with []))) (refusal channel_refusal 0)) code)
      go false d o e = refl
      go true true o e = refl
      go true false (refusal number line) e = refl
      go true false (ok file) e = ap (judged_over file code) (one_list file (read_plain text file e)) ∙ judged_alone file code

  same_scratch : (scratch : List ℕ) → scratch_behind (choosable text code m n) scratch ≡ scratch_behind (accepted_of text code m n) scratch
  unfolding choosable accepted_of sheet_of and_then scratch_behind Reads
  same_scratch scratch =
      ap (λ (o : Out (List Row)). scratch_behind (cond (ltb code channels) (cond (ltb m scratch_least || ltb n trace_least) (refusal bench_refusal 0) o) (refusal channel_refusal 0)) scratch)
      (read_same text without)
      ∙ go (ltb code channels) (ltb m scratch_least || ltb n trace_least) (read_of text) (read_well false text)
    where
      expanded : (w : Out Scenario) → Well (line_of rows_most) w → scratch_cleared scratch ≡ scratch_behind w scratch
      expanded (ok S) h = refl
      expanded (refusal number line) h = rw (lt-leb number bench_refusal h.behind)

      go : (b d : Bool) (o : Out (List Row)) → Reads o
          → scratch_behind (cond b (cond d (refusal bench_refusal 0) o) (refusal channel_refusal 0)) scratch
          ≡ scratch_behind (cond b (cond d (refusal bench_refusal 0) (and_then o (expanded_with []))) (refusal channel_refusal 0)) scratch
      go false d o h = refl
      go true true o h = refl
      go true false (refusal number line) h = refl
      go true false (ok file) h = expanded (expanded_with [] file) (expanded_well [] file h)

as_numbers : (a : Answer) → first_four (choice_numbers (as_choice a)) ≡ numbers_of a
unfolding as_choice
as_numbers free = refl
as_numbers (locked e x ts) = refl
as_numbers (refused number line) = refl

no_list : (a : Answer) → ((choice_numbers (as_choice a)).options ≡ 0) × ((choice_numbers (as_choice a)).choices ≡ 0)
unfolding as_choice choices_number
no_list free = (refl, refl)
no_list (locked e x ts) = (refl, refl)
no_list (refused number line) = (refl, refl)

as_trace : (a : Answer) (trace : List ℕ) → trace_chosen (as_choice a) trace ≡ trace_after a trace
unfolding as_choice trace_chosen trace_after
as_trace free trace = refl
as_trace (locked e x ts) trace = refl
as_trace (refused number line) trace = refl

-- What is answered, and left in the buffers, as the model says of the rows read or refused: then the whole promise holds of it.
pub choice_checked_from : (text : List ℕ) (code : ℕ) (scratch scratch_exit trace trace_exit : List ℕ) (r : ChoiceNumbers) (o : Out (List Row))
    → choosable text code (length scratch) (length trace) ≡ o → r ≡ choice_numbers (choice_answer_for o code) → scratch_exit ≡ scratch_behind o scratch
    → trace_exit ≡ trace_chosen (choice_answer_for o code) trace → ChoiceChecked text code scratch scratch_exit trace trace_exit r
unfolding choice_answer_of answer_of
choice_checked_from text code scratch scratch_exit trace trace_exit r o e i s t =
    let m = length scratch in
    let n = length trace in
    let a = choice_answer_of text code m n in
    let answered : r ≡ choice_numbers a = i ∙ ap (λ p. choice_numbers (choice_answer_for p code)) (sym e) in
    let written : trace_exit ≡ trace_chosen a trace = t ∙ ap (λ p. trace_chosen (choice_answer_for p code) trace) (sym e) in
    let left : scratch_exit ≡ scratch_behind (choosable text code m n) scratch = s ∙ ap (λ p. scratch_behind p scratch) (sym e) in
    record {
      answer = answered;
      scratch_left = left;
      trace_left = written;
      verdict = λ file h.
          subst⁻¹ (λ (q : ChoiceNumbers). ChoiceVerdict file code q trace_exit) answered
          (subst⁻¹ (λ (l : List ℕ). ChoiceVerdict file code (choice_numbers a) l) written (choice_right text code m trace file h));
      without_choices = λ without.
          let b = answer_of text code m n in
          let same : a ≡ as_choice b = same_answer text without code m n in
          let numbers : r ≡ choice_numbers (as_choice b) = answered ∙ ap choice_numbers same in (
            checked_from text code scratch scratch_exit trace trace_exit (first_four r) (accepted_of text code m n) refl
                (ap first_four numbers ∙ as_numbers b) (left ∙ same_scratch text without code m n scratch)
                (written ∙ ap (λ (c : ChoiceAnswer). trace_chosen c trace) same ∙ as_trace b trace),
            ap (λ (q : ChoiceNumbers). q.options) numbers ∙ (no_list b).0,
            ap (λ (q : ChoiceNumbers). q.choices) numbers ∙ (no_list b).1,
          );
    }
