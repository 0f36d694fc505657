-- Refusals 3 to 11, and 13, come behind 1 and 2, and report a line of the file, at most that of row 513. Assumes nothing.
use Prim.Native.Nat.{ℕ, zero, suc, ◌+◌, ◌<◌, ◌≤◌}
use native.Mathlib.Omega.{arith}
use mathlib.Core.Path.{◌≡◌, refl, subst}
use mathlib.Core.Bool.{Bool, true, false, cond, ◌&&◌}
use mathlib.Core.List.{List, [], ◌∷◌}
use mathlib.Core.Option.{Option, none, some}
use borrow.Author.Tests.{ltb-true}
use lib.Dec.{eqb, leb, ltb}
use lib.ListN.{length, drop, length-drop}
use Rattle.model.specs.Limits.{text_most, rows_most, messages_most, levels, calls_most}
use Rattle.model.specs.Bounded.{among}
use Rattle.model.specs.Refusal.{Out, ok, refusal, and_then, bench_refusal, circle_refusal, row_refusal, place_refusal, absent_refusal, length_refusal, heading_refusal, calls_refusal, messages_refusal, choices_refusal}
use Rattle.model.specs.Text.{Line, Columns, lines_of, heading_of}
use Rattle.model.specs.Rows.{Row, sheet, message, order, block, call, choice, row_of}
use Rattle.model.specs.Place.{Place, outside, placed, circle_at, line_of, judged, rows_from, opens, absent_call, complete, body_of, read_with, read_of}
use Rattle.model.specs.Expansion.{Ops, Progress, start_of, block_opened, taken, call_made, message_met, order_met, walk_rows, call_at, expand}
use Rattle.model.specs.Order.{met_ops, nothing_met, exchange_of, scenario_of}
use Rattle.model.specs.Answer.{expanded_with, expanded_of, sheet_of}
use Rattle.model.proofs.Refusal.{not_refused}

-- a refusal's number is over 2 and at most 13, and its line at most the one given
pub record Named (most number line : ℕ) : Type 0 where
  pub behind : bench_refusal < number
  pub known : number ≤ choices_refusal
  pub within : line ≤ most

-- what is handed on, if it is a refusal, is named well
abbrev pub Well : {A : Type 0} → ℕ → Out A → Type 0
Well most (ok a) = Unit {0}
Well most (refusal number line) = Named most number line

well_then : {A B : Type 0} (most : ℕ) (o : Out A) (f : A → Out B) → Well most o → ((a : A) → o ≡ ok a → Well most (f a)) → Well most (and_then o f)
unfolding and_then
well_then most (ok a) f w g = g a refl
well_then most (refusal number line) f w g = w

well_cond : {A : Type 0} (most : ℕ) (t : Bool) (o p : Out A) → (t ≡ true → Well most o) → (t ≡ false → Well most p) → Well most (cond t o p)
well_cond most true o p f g = f refl
well_cond most false o p f g = g refl

-- The reading: every line judged is at most that of row 513, and there are at most 512 rows.
Read : Columns → ℕ → Out (List Row) → Type 0
Read c i (ok rs) = i + length rs ≤ rows_most
Read c i (refusal number line) = Named (line_of rows_most) number line

module _ (choices : Bool) (c : Columns) where
  Judged : ℕ → Out (Row × Place) → Type 0
  Judged i (ok rp) = i < rows_most
  Judged i (refusal number line) = Named (line_of rows_most) number line

  judged_well : (i : ℕ) (p : Place) (l : Line) → i ≤ rows_most → Judged i (judged choices c i p l)
  unfolding judged Judged
  judged_well i p l h = form (ltb i rows_most) refl
    where
      circle : (r : Row) (q : Place) → i < rows_most → (b : Bool) → Judged i (cond b (refusal circle_refusal (line_of i)) (ok (r, q)))
      circle r q u true = record { behind = omega arith; known = omega arith; within = omega arith }
      circle r q u false = u

      place : (r : Row) → i < rows_most → (o : Option Place)
          → Judged i (elim o [ none ↦ refusal place_refusal (line_of i) | some q ↦ cond (circle_at r q) (refusal circle_refusal (line_of i)) (ok (r, q)) ])
      place r u none = record { behind = omega arith; known = omega arith; within = omega arith }
      place r u (some q) = circle r q u (circle_at r q)

      row : i < rows_most → (o : Option Row)
          → Judged i (elim o [
            | none ↦ refusal row_refusal (line_of i)
            | some r ↦ elim (placed p r) [
              | none ↦ refusal place_refusal (line_of i)
              | some q ↦ cond (circle_at r q) (refusal circle_refusal (line_of i)) (ok (r, q))
            ]
          ])
      row u none = record { behind = omega arith; known = omega arith; within = omega arith }
      row u (some r) = place r u (placed p r)

      form : (b : Bool) → ltb i rows_most ≡ b
          → Judged i (elim (cond b (row_of choices c l) none) [
            | none ↦ refusal row_refusal (line_of i)
            | some r ↦ elim (placed p r) [
              | none ↦ refusal place_refusal (line_of i)
              | some q ↦ cond (circle_at r q) (refusal circle_refusal (line_of i)) (ok (r, q))
            ]
          ])
      form true e = row (ltb-true i rows_most e) (row_of choices c l)
      form false e = record { behind = omega arith; known = omega arith; within = omega arith }

  rows_well : (i : ℕ) (p : Place) (ls : List Line) → i ≤ rows_most → Read c i (rows_from choices c i p ls)
  unfolding rows_from Read Judged
  rows_well i p [] h = omega arith
  rows_well i p (l ∷ ls) h = first (judged choices c i p l) (judged_well i p l h) (λ q u. rows_well (suc i) q ls u)
    where
      rest : (r : Row) → (o : Out (List Row)) → Read c (suc i) o → Read c i (elim o [ refusal number line ↦ refusal number line | ok rs ↦ ok (r ∷ rs) ])
      rest r (ok rs) w = omega arith
      rest r (refusal number line) w = w

      first : (o : Out (Row × Place)) → Judged i o → ((q : Place) → suc i ≤ rows_most → Read c (suc i) (rows_from choices c (suc i) q ls))
          → Read c i (elim o [ refusal number line ↦ refusal number line | ok rp ↦ elim (rows_from choices c (suc i) rp.1 ls) [ refusal number line ↦ refusal number line | ok rs ↦ ok (rp.0 ∷ rs) ] ])
      first (refusal number line) w later = w
      first (ok rp) w later = rest rp.0 (rows_from choices c (suc i) rp.1 ls) (later rp.1 w)

-- a call to an absent sheet is a row of the file
AbsentLine : ℕ → Option ℕ → Type 0
AbsentLine most none = Unit {0}
AbsentLine most (some line) = line ≤ most

absent_well : (present : List ℕ) (i : ℕ) (rs : List Row) (most : ℕ) → line_of (i + length rs) ≤ most → AbsentLine most (absent_call present i rs)
unfolding absent_call AbsentLine
absent_well present i [] most h = tt
absent_well present i (sheet n ∷ rs) most h = absent_well present (suc i) rs most (omega arith)
absent_well present i (message a b ∷ rs) most h = absent_well present (suc i) rs most (omega arith)
absent_well present i (order x y ∷ rs) most h = absent_well present (suc i) rs most (omega arith)
absent_well present i (block ∷ rs) most h = absent_well present (suc i) rs most (omega arith)
absent_well present i (call n ∷ rs) most h = go (among n present) (absent_well present (suc i) rs most (omega arith))
  where
    go : (b : Bool) → AbsentLine most (absent_call present (suc i) rs) → AbsentLine most (cond b (absent_call present (suc i) rs) (some (line_of i)))
    go true w = w
    go false w = omega arith
absent_well present i (choice m n ∷ rs) most h = go (among m present && among n present) (absent_well present (suc i) rs most (omega arith))
  where
    go : (b : Bool) → AbsentLine most (absent_call present (suc i) rs) → AbsentLine most (cond b (absent_call present (suc i) rs) (some (line_of i)))
    go true w = w
    go false w = omega arith

complete_well : (rs : List Row) → length rs ≤ rows_most → Well (line_of rows_most) (complete rs)
unfolding complete AbsentLine
complete_well rs h =
    well_cond (line_of rows_most) (among 0 (opens rs)) (elim (absent_call (opens rs) 0 rs) [ none ↦ ok rs | some line ↦ refusal absent_refusal line ])
    (refusal absent_refusal 0) (λ t. go (absent_call (opens rs) 0 rs) (absent_well (opens rs) 0 rs (line_of rows_most) (omega arith)))
    (λ f. record { behind = omega arith; known = omega arith; within = omega arith })
  where
    go : (o : Option ℕ) → AbsentLine (line_of rows_most) o → Well {A = List Row} (line_of rows_most) (elim o [ none ↦ ok rs | some line ↦ refusal absent_refusal line ])
    go none w = tt
    go (some line) w = record { behind = omega arith; known = omega arith; within = w }

complete_same : (rs ks : List Row) → complete rs ≡ ok ks → rs ≡ ks
unfolding complete
complete_same rs ks e = go (among 0 (opens rs)) (absent_call (opens rs) 0 rs) e
  where
    go : (b : Bool) (o : Option ℕ) → cond b (elim o [ none ↦ ok rs | some line ↦ refusal absent_refusal line ]) (refusal absent_refusal 0) ≡ ok ks → rs ≡ ks
    go true none h = cc
    go true (some line) h = not_refused h
    go false o h = not_refused h

-- what reading hands on: at most 512 rows, or a refusal named well
unfoldable pub Reads : Out (List Row) → Type 0
Reads (ok rs) = length rs ≤ rows_most
Reads (refusal number line) = Named (line_of rows_most) number line

reads_cond : (t : Bool) (o p : Out (List Row)) → Reads o → Reads p → Reads (cond t o p)
reads_cond true o p f g = f
reads_cond false o p f g = g

reads_complete : (c : Columns) (o : Out (List Row)) → Read c 0 o → Reads (and_then o complete)
unfolding and_then Read Reads
reads_complete c (refusal number line) w = w
reads_complete c (ok rs) w = go (complete rs) refl (complete_well rs (omega arith))
  where
    go : (o : Out (List Row)) → complete rs ≡ o → Well (line_of rows_most) o → Reads o
    go (refusal number line) e v = v
    go (ok ks) e v = subst (λ (l : List Row). length l ≤ rows_most) (complete_same rs ks e) (omega arith)

reads_body : (choices : Bool) (ls : List Line) → Reads (body_of choices ls)
unfolding body_of Reads
reads_body choices [] = record { behind = omega arith; known = omega arith; within = omega arith }
reads_body choices (h ∷ ls) = go (heading_of h)
  where
    go : (o : Option Columns) → Reads (elim o [ none ↦ refusal heading_refusal 1 | some c ↦ and_then (rows_from choices c 0 outside ls) complete ])
    go none = record { behind = omega arith; known = omega arith; within = omega arith }
    go (some c) = reads_complete c (rows_from choices c 0 outside ls) (rows_well choices c 0 outside ls (omega arith))

pub read_well : (choices : Bool) (text : List ℕ) → Reads (read_with choices text)
unfolding read_with Reads
read_well choices text =
    reads_cond (ltb 0 (length text) && leb (length text) text_most) (body_of choices (lines_of text)) (refusal length_refusal 0)
    (reads_body choices (lines_of text))
    (record { behind = omega arith; known = omega arith; within = omega arith })

-- The walk: every line met is one of the file.
start_within : (n : ℕ) (file : List Row) → start_of n file ≤ length file
unfolding start_of
start_within n [] = omega arith
start_within n (sheet m ∷ rs) = go (eqb m n) (start_within n rs)
  where
    go : (b : Bool) → start_of n rs ≤ length rs → elim b [ true ↦ 1 | false ↦ suc (start_of n rs) ] ≤ suc (length rs)
    go true h = omega arith
    go false h = omega arith
start_within n (message a b ∷ rs) = omega (arith, start_within n rs)
start_within n (order x y ∷ rs) = omega (arith, start_within n rs)
start_within n (block ∷ rs) = omega (arith, start_within n rs)
start_within n (call m ∷ rs) = omega (arith, start_within n rs)
start_within n (choice k m ∷ rs) = omega (arith, start_within n rs)

module _ {T : Type 0} (ops : Ops T) (options : List Bool) (file : List Row) (few : length file ≤ rows_most) where
  abbrev Calls : (Bool → ℕ → ℕ → Progress T → Out (Progress T)) → Type 0
  Calls call_of = (by_choice : Bool) (n line : ℕ) (s : Progress T) → line ≤ line_of rows_most → Well (line_of rows_most) (call_of by_choice n line s)

  walk_well : (call_of : Bool → ℕ → ℕ → Progress T → Out (Progress T)) → Calls call_of → (rs : List Row) (line : ℕ) (s : Progress T)
      → line + length rs ≤ line_of rows_most → Well (line_of rows_most) (walk_rows ops options call_of rs line s)
  unfolding walk_rows
  walk_well call_of C [] line s h = tt
  walk_well call_of C (sheet n ∷ rs) line s h = tt
  walk_well call_of C (message a b ∷ rs) line s h = go (ltb s.walk.count messages_most) (walk_well call_of C rs (suc line) (message_met ops a b s) (omega arith))
    where
      go : (b' : Bool) → Well (line_of rows_most) (walk_rows ops options call_of rs (suc line) (message_met ops a b s))
          → Well {A = Progress T} (line_of rows_most) (elim b' [ true ↦ walk_rows ops options call_of rs (suc line) (message_met ops a b s) | false ↦ refusal messages_refusal line ])
      go true w = w
      go false w = record { behind = omega arith; known = omega arith; within = omega arith }
  walk_well call_of C (order x y ∷ rs) line s h = walk_well call_of C rs (suc line) (order_met ops x y s) (omega arith)
  walk_well call_of C (block ∷ rs) line s h = walk_well call_of C rs (suc line) (block_opened ops s) (omega arith)
  walk_well call_of C (call n ∷ rs) line s h =
      well_then (line_of rows_most) (call_of false n line s) (λ t. walk_rows ops options call_of rs (suc line) (block_opened ops t)) (C false n line s (omega arith))
      (λ t e. walk_well call_of C rs (suc line) (block_opened ops t) (omega arith))
  walk_well call_of C (choice m n ∷ rs) line s h =
      let k = taken options s.walk.choices m n in
      well_then (line_of rows_most) (call_of true k line s) (λ t. walk_rows ops options call_of rs (suc line) (block_opened ops t)) (C true k line s (omega arith))
      (λ t e. walk_well call_of C rs (suc line) (block_opened ops t) (omega arith))

  body_within : (n : ℕ) → line_of (start_of n file) + length (drop (start_of n file) file) ≤ line_of rows_most
  body_within n = omega (arith, length-drop (start_of n file) file, start_within n file)

  calls_well : (left : ℕ) → Calls (call_at ops options left file)
  unfolding call_at
  calls_well zero by_choice n line s h = record { behind = omega arith; known = omega arith; within = h }
  calls_well (suc left) by_choice n line s h =
      go (ltb s.walk.calls calls_most) (by_choice && leb (length options) s.walk.choices)
      (walk_well (call_at ops options left file) (calls_well left) (drop (start_of n file) file) (line_of (start_of n file))
      (block_opened ops (call_made ops by_choice s)) (body_within n))
    where
      body : Out (Progress T)
      body = walk_rows ops options (call_at ops options left file) (drop (start_of n file) file) (line_of (start_of n file)) (block_opened ops (call_made ops by_choice s))

      go : (b d : Bool) → Well (line_of rows_most) body
          → Well {A = Progress T} (line_of rows_most) (elim b [ true ↦ elim d [ true ↦ refusal choices_refusal line | false ↦ body ] | false ↦ refusal calls_refusal line ])
      go true true w = record { behind = omega arith; known = omega arith; within = h }
      go true false w = w
      go false d w = record { behind = omega arith; known = omega arith; within = h }

  pub expand_well : (t : T) → Well (line_of rows_most) (expand ops options file t)
  unfolding expand
  expand_well t = walk_well (call_at ops options levels file) (calls_well levels) (drop (start_of 0 file) file) (line_of (start_of 0 file)) _ (body_within 0)

pub expanded_well : (options : List Bool) (file : List Row) → length file ≤ rows_most → Well (line_of rows_most) (expanded_with options file)
unfolding expanded_with
expanded_well options file h =
    well_then (line_of rows_most) (expand met_ops options file nothing_met) (λ s. ok (scenario_of (exchange_of s)))
    (expand_well met_ops options file h nothing_met) (λ s e. tt)

-- the scenario of a text, or a refusal named well
pub sheet_well : (text : List ℕ) → Well (line_of rows_most) (sheet_of text)
unfolding sheet_of Reads and_then
sheet_well text = go (read_of text) (read_well false text)
  where
    go : (o : Out (List Row)) → Reads o → Well (line_of rows_most) (and_then o expanded_of)
    go (ok rs) w = expanded_well [] rs w
    go (refusal number line) w = w
