-- The rows of a text that is read stand where they may: each M row has boards and room, and each P row two events of one
-- board of the open block. So do the rows behind every S row, from an empty block on. Assumes nothing.
use Prim.Native.Nat.{ℕ, suc, ◌<◌}
use mathlib.Core.Path.{◌≡◌, refl, sym, subst}
use mathlib.Core.Bool.{Bool, true, false, not, cond, ◌&&◌, ◌||◌}
use mathlib.Core.List.{List, [], ◌∷◌}
use mathlib.Core.Option.{Option, none, some}
use native.Mathlib.Omega.{arith}
use lib.Dec.{eqb, leb, ltb}
use lib.ListN.{length, drop}
use borrow.Author.Tests.{ltb-true}
use Rattle.model.specs.Limits.{text_most, rows_most, sheets}
use Rattle.model.specs.Bounded.{among}
use Rattle.model.specs.Refusal.{ok, refusal, and_then, heading_refusal, row_refusal, place_refusal, absent_refusal, circle_refusal}
use Rattle.model.specs.Text.{Line, Columns, lines_of, heading_of}
use Rattle.model.specs.Rows.{Row, sheet, message, order, block, call, choice, row_of}
use Rattle.model.specs.Place.{Place, outside, with_message, message_fits, order_fits, moved, is_sheet, placed, circle_at, line_of, judged, rows_from, opens, absent_call, complete, body_of, read_with}
use Rattle.model.specs.Expansion.{start_of}
use Rattle.model.proofs.Refusal.{not_refused, and_then_ok, passed, cond_ok, cond_refused}

-- the rows may stand behind the open block's events, given by their boards; S, B, C and A rows open a block
abbrev pub Fits : List ℕ → List Row → Type 0
Fits events [] = Unit {0}
Fits events (sheet n ∷ rs) = Fits [] rs
Fits events (message a b ∷ rs) = (message_fits events a b ≡ true) × Fits (with_message events a b) rs
Fits events (order x y ∷ rs) = (order_fits events x y ≡ true) × Fits events rs
Fits events (block ∷ rs) = Fits [] rs
Fits events (call n ∷ rs) = Fits [] rs
Fits events (choice m n ∷ rs) = Fits [] rs

-- a value that is there only on a test
pub cond_some : {A : Type 0} (t : Bool) (a b : A) → cond t (some a) none ≡ some b → (t ≡ true) × (a ≡ b)
cond_some true a b e = (refl, cc)
cond_some false a b e = let z : ◌≡◌ {A = ℕ} 0 1 = cc in absurd (omega arith)

-- a row that is moved over fits, if the rows behind it fit behind the place that it leaves
moved_fits : (p q : Place) (r : Row) (rs : List Row) → moved p r ≡ some q → Fits q.events rs → Fits p.events (r ∷ rs)
unfolding moved
moved_fits p q (sheet n) rs e f =
    let t = cond_some (ltb n sheets && not (among n p.opened)) _ q e in subst (λ (z : Place). Fits z.events rs) (sym t.1) f
moved_fits p q (message a b) rs e f =
    let t = cond_some (message_fits p.events a b) _ q e in (t.0, subst (λ (z : Place). Fits z.events rs) (sym t.1) f)
moved_fits p q (order x y) rs e f =
    let t = cond_some (order_fits p.events x y) _ q e in (t.0, subst (λ (z : Place). Fits z.events rs) (sym t.1) f)
moved_fits p q block rs e f =
    let t = cond_some true _ q e in subst (λ (z : Place). Fits z.events rs) (sym t.1) f
moved_fits p q (call n) rs e f =
    let t = cond_some (ltb n sheets) _ q e in subst (λ (z : Place). Fits z.events rs) (sym t.1) f
moved_fits p q (choice m n) rs e f =
    let t = cond_some (ltb m sheets && ltb n sheets) _ q e in subst (λ (z : Place). Fits z.events rs) (sym t.1) f

-- What the judgement of a row says of it: it is one of the first 512, its place allows it, and it makes no circle.
pub record Judged (i : ℕ) (p q : Place) (r : Row) : Type 0 where
  pub few : i < rows_most
  pub allowed : moved p r ≡ some q
  pub no_circle : circle_at r q ≡ false

pub placed_moved : (p q : Place) (r : Row) → placed p r ≡ some q → moved p r ≡ some q
unfolding placed
placed_moved p q r e = go (is_sheet r || not (eqb (length p.opened) 0)) e
  where
    go : (b : Bool) → cond b (moved p r) none ≡ some q → moved p r ≡ some q
    go true h = h
    go false h = let z : ◌≡◌ {A = ℕ} 0 1 = cc in absurd (omega arith)

pub judged_row : (choices : Bool) (c : Columns) (i : ℕ) (p : Place) (l : Line) (rp : Row × Place) → judged choices c i p l ≡ ok rp → Judged i p rp.1 rp.0
unfolding judged
judged_row choices c i p l rp e = form (ltb i rows_most) refl (row_of choices c l) e
  where
    place : (r : Row) (o : Option Place) → placed p r ≡ o → i < rows_most
        → elim o [ none ↦ refusal place_refusal (line_of i) | some q ↦ cond (circle_at r q) (refusal circle_refusal (line_of i)) (ok (r, q)) ] ≡ ok rp
        → Judged i p rp.1 rp.0
    place r none h k e = not_refused e
    place r (some q) h k e =
        let u = cond_refused (circle_at r q) (ok (r, q)) _ _ rp e in
        let t : ◌≡◌ {A = Row × Place} (r, q) rp = cc u.1 in
        subst (λ (z : Row × Place). Judged i p z.1 z.0) t (record { few = k; allowed = placed_moved p q r h; no_circle = u.0 })

    form : (b : Bool) → ltb i rows_most ≡ b → (o : Option Row)
        → elim (cond b o none) [
          | none ↦ refusal row_refusal (line_of i)
          | some r ↦ elim (placed p r) [
            | none ↦ refusal place_refusal (line_of i)
            | some q ↦ cond (circle_at r q) (refusal circle_refusal (line_of i)) (ok (r, q))
          ]
        ] ≡ ok rp
        → Judged i p rp.1 rp.0
    form false k o e = not_refused e
    form true k none e = not_refused e
    form true k (some r) e = place r (placed p r) refl (ltb-true i rows_most k) e

rows_fit : (choices : Bool) (c : Columns) (i : ℕ) (p : Place) (ls : List Line) (rs : List Row) → rows_from choices c i p ls ≡ ok rs → Fits p.events rs
unfolding rows_from
rows_fit choices c i p [] rs e = let t : [] ≡ rs = cc in subst (λ (z : List Row). Fits p.events z) t tt
rows_fit choices c i p (l ∷ ls) rs e =
    let s = passed (judged choices c i p l) (λ rp. elim (rows_from choices c (suc i) rp.1 ls) [ refusal number line ↦ refusal number line | ok rs' ↦ ok (rp.0 ∷ rs') ]) rs e in
    let rp = s.0 in
    let t = passed (rows_from choices c (suc i) rp.1 ls) (λ rs'. ok (rp.0 ∷ rs')) rs s.2 in
    let e' : rp.0 ∷ t.0 ≡ rs = cc t.2 in
    subst (λ (z : List Row). Fits p.events z) e'
    (moved_fits p rp.1 rp.0 t.0 (judged_row choices c i p l rp s.1).allowed (rows_fit choices c (suc i) rp.1 ls t.0 t.1))

-- a file that is complete is the rows read
complete_same : (rs rs' : List Row) → complete rs ≡ ok rs' → rs ≡ rs'
unfolding complete
complete_same rs rs' e = go (absent_call (opens rs) 0 rs) (cond_ok (among 0 (opens rs)) _ _ _ rs' e).1
  where
    go : (o : Option ℕ) → elim o [ none ↦ ok rs | some line ↦ refusal absent_refusal line ] ≡ ok rs' → rs ≡ rs'
    go none h = cc
    go (some line) h = not_refused h

-- What a text that is read has: a heading, and behind it the rows, judged one by one and complete.
pub record Parts (choices : Bool) (rs : List Row) : Type 0 where
  pub columns : Columns
  pub lines : List Line
  pub read : rows_from choices columns 0 outside lines ≡ ok rs
  pub whole : complete rs ≡ ok rs

body_parts : (choices : Bool) (ls : List Line) (rs : List Row) → body_of choices ls ≡ ok rs → Parts choices rs
unfolding body_of
body_parts choices [] rs e = not_refused e
body_parts choices (h ∷ ls) rs e = go (heading_of h) e
  where
    go : (o : Option Columns)
        → elim o [ none ↦ refusal heading_refusal 1 | some c ↦ and_then (rows_from choices c 0 outside ls) complete ] ≡ ok rs
        → Parts choices rs
    go none e = not_refused e
    go (some c) e =
        let t = and_then_ok (rows_from choices c 0 outside ls) complete rs e in
        let same = complete_same t.0 rs t.2 in
        record {
          columns = c;
          lines = ls;
          read = subst (λ (z : List Row). rows_from choices c 0 outside ls ≡ ok z) same t.1;
          whole = subst (λ (z : List Row). complete z ≡ ok rs) same t.2;
        }

pub read_parts : (choices : Bool) (text : List ℕ) (rs : List Row) → read_with choices text ≡ ok rs → Parts choices rs
unfolding read_with
read_parts choices text rs e =
    body_parts choices (lines_of text) rs
    (cond_ok (ltb 0 (length text) && leb (length text) text_most) (body_of choices (lines_of text)) _ _ rs e).1

-- the rows of a text that is read fit
pub read_fits : (choices : Bool) (text : List ℕ) (rs : List Row) → read_with choices text ≡ ok rs → Fits [] rs
read_fits choices text rs e = let p = read_parts choices text rs e in rows_fit choices p.columns 0 outside p.lines rs p.read

-- and so do the rows behind each sheet's S row
pub sheet_fits : (n : ℕ) (events : List ℕ) (rs : List Row) → Fits events rs → Fits [] (drop (start_of n rs) rs)
unfolding start_of
sheet_fits n events [] f = tt
sheet_fits n events (sheet m ∷ rs) f = go (eqb m n) (sheet_fits n [] rs f)
  where
    go : (b : Bool) → Fits [] (drop (start_of n rs) rs)
        → Fits [] (drop (elim b [ true ↦ 1 | false ↦ suc (start_of n rs) ]) (sheet m ∷ rs))
    go true g = f
    go false g = g
sheet_fits n events (message a b ∷ rs) f = sheet_fits n (with_message events a b) rs f.1
sheet_fits n events (order x y ∷ rs) f = sheet_fits n events rs f.1
sheet_fits n events (block ∷ rs) f = sheet_fits n [] rs f
sheet_fits n events (call m ∷ rs) f = sheet_fits n [] rs f
sheet_fits n events (choice k m ∷ rs) f = sheet_fits n [] rs f
