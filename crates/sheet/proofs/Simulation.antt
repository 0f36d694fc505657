-- The code's reading, with its table of starts, is the model's, with its list of opened sheets. Assumes nothing.
use Prim.Native.Nat.{ℕ, suc, ◌+◌, ◌*◌, ◌/◌, ◌<◌}
use native.Mathlib.Nat.{zero-add}
use native.Mathlib.Omega.{arith}
use mathlib.Core.Path.{◌≡◌, refl, sym, ◌∙◌, ap, subst}
use mathlib.Core.Bool.{Bool, true, false, not, cond, ◌&&◌, ◌||◌, or-true}
use mathlib.Core.List.{List, [], ◌∷◌, ◌++◌}
use mathlib.Core.Option.{Option, none, some}
use borrow.Author.Tests.{lt-ltb, le-ltb, eq-eqb, ne_eqb, ltb-true, eqb-true, eqb-false, not-true, not-false}
use lib.Dec.{eqb, ltb}
use lib.ListN.{length, get_or, set, replicate, length-set, length-replicate}
use lib.Seq.{get_or-set_same, get_or-set_other, ext_get_or}
use Rattle.model.specs.Limits.{sheets, rows_most, messages_most}
use Rattle.model.specs.Bounded.{among}
use Rattle.model.specs.Refusal.{Out, ok, refusal, row_refusal, place_refusal, circle_refusal}
use Rattle.model.specs.Text.{Line, Columns}
use Rattle.model.specs.Rows.{Row, sheet, message, order, block, call, choice, row_of}
use Rattle.model.specs.Place.{Place, block_next, outside, with_message, message_fits, order_fits, moved, is_sheet, placed, circle_at, line_of, judged, rows_from, opens}
use Rattle.model.specs.Expansion.{start_of}
use Rattle.model.proofs.Bounded.{and_left, and_right, not_both}
use Rattle.model.proofs.Lists.{replicate_at}
use Rattle.model.proofs.Closure.{cells_length}
use Rattle.model.proofs.Standing.{placed_moved}
use Rattle.model.proofs.Clean.{Ordered, ordered_empty, judged_ordered}
use Rattle.sheet.specs.Bridge.{start_in, starts_of}
use Rattle.sheet.proofs.Bridge.{start_at}
use Rattle.row.specs.Judged.{Reader, reader_behind, judged_by}
use Rattle.relation.specs.Width.{width}
use Rattle.block_order.specs.Noted.{noted, circles}
use Rattle.block_order.proofs.Held.{held_empty}
use Rattle.block_order.proofs.Rows.{HeldAt, circle_same, held_behind}
use Rattle.place.specs.Stand.{Stand, is_open, may_open, moved_to, stood_at}
use Rattle.sheet.proofs.Reading.{Kept, ahead_of, read_from, fresh}

-- a sheet has a start exactly when it is among those opened
abbrev Agree : List ℕ → List ℕ → Type 0
Agree starts opened = (n : ℕ) → is_open starts n ≡ among n opened

open_set : (starts : List ℕ) (n i : ℕ) → n < length starts → is_open (set starts n (i + 1)) n ≡ true
unfolding is_open
open_set starts n i h = rw (get_or-set_same starts n (i + 1) 0 h, ne_eqb (i + 1) 0 (λ e. omega arith))

open_other : (starts : List ℕ) (n i m : ℕ) → (m ≡ n → ⊥) → is_open (set starts n (i + 1)) m ≡ is_open starts m
unfolding is_open
open_other starts n i m h = rw (get_or-set_other starts n m (i + 1) 0 h)

agree_set : (starts opened : List ℕ) (n i : ℕ) → Agree starts opened → n < length starts → Agree (set starts n (i + 1)) (n ∷ opened)
unfolding among
agree_set starts opened n i h l m = go (eqb m n) refl
  where
    go : (t : Bool) → eqb m n ≡ t → is_open (set starts n (i + 1)) m ≡ (t || among m opened)
    go true e = subst (λ (x : ℕ). is_open (set starts n (i + 1)) x ≡ true) (sym (eqb-true m n e)) (open_set starts n i l)
    go false e = open_other starts n i m (eqb-false m n e) ∙ h m

-- the place behind a row in the model, and where the code stands: both are there, and agree, or neither is
record Alike (p : Place) (s : Stand) : Type 0 where
  pub agree : Agree s.starts p.opened
  pub long : length s.starts ≡ sheets
  pub events : s.events ≡ p.events

data Moves : Option Place → Option Stand → Type 0 where
  neither : Moves none none
  both : (p : Place) (s : Stand) → Alike p s → (length p.opened ≡ 0 → ⊥) → Moves (some p) (some s)

module _ (opened starts events : List ℕ) (orders : List (ℕ × ℕ)) (i : ℕ) (agree : Agree starts opened) (long : length starts ≡ sheets) where
  abbrev here : Place
  here = record { opened = opened; events = events; orders = orders }

  abbrev stand : Stand
  stand = record { starts = starts; events = events }

  move_sheet : (n : ℕ) → Moves (moved here (sheet n)) (moved_to i stand (sheet n))
  unfolding moved moved_to may_open
  move_sheet n = rw (← agree n) (go (ltb n sheets && not (is_open starts n)) refl)
    where
      go : (t : Bool) → (ltb n sheets && not (is_open starts n)) ≡ t
          → Moves (cond t (some (block_next (n ∷ opened))) none) (cond t (some (record { starts = set starts n (i + 1); events = [] })) none)
      go true e =
          let l : n < length starts = rw long (ltb-true n sheets (and_left (ltb n sheets) (not (is_open starts n)) e)) in
          both _ _ (record { agree = agree_set starts opened n i agree l; long = length-set starts n (i + 1) ∙ long; events = refl }) (λ z. omega arith)
      go false e = neither

  module _ (some-open : (length opened ≡ 0 → ⊥)) where
    -- a row that is no S row, allowed or not: the sheets opened stay
    moves : (t : Bool) (now : List ℕ) (more : List (ℕ × ℕ))
        → Moves (cond t (some (record { opened = opened; events = now; orders = more })) none) (cond t (some (record { starts = starts; events = now })) none)
    moves true now more = both _ _ (record { agree = agree; long = long; events = refl }) some-open
    moves false now more = neither

    move : (r : Row) → Moves (moved here r) (moved_to i stand r)
    unfolding moved moved_to
    move (sheet n) = move_sheet n
    move (message a b) = moves (message_fits events a b) (with_message events a b) orders
    move (order x y) = moves (order_fits events x y) events ((x, y) ∷ orders)
    move block = moves true [] []
    move (call n) = moves (ltb n sheets) [] []
    move (choice m n) = moves (ltb m sheets && ltb n sheets) [] []

  -- a sheet is open exactly behind the first row
  place_first : (r : Row) → eqb (length opened) 0 ≡ true → ltb 0 i ≡ false → Moves (placed here r) (stood_at i stand r)
  unfolding placed stood_at is_sheet
  place_first (sheet n) e f = move_sheet n
  place_first (message a b) e f = rw (e, f) neither
  place_first (order x y) e f = rw (e, f) neither
  place_first block e f = rw (e, f) neither
  place_first (call n) e f = rw (e, f) neither
  place_first (choice m n) e f = rw (e, f) neither

  place_later : (r : Row) → eqb (length opened) 0 ≡ false → ltb 0 i ≡ true → Moves (placed here r) (stood_at i stand r)
  unfolding placed stood_at
  place_later r e f = rw (e, f, or-true (is_sheet r)) (move (eqb-false (length opened) 0 e) r)

  place : (r : Row) → eqb (length opened) 0 ≡ eqb i 0 → Moves (placed here r) (stood_at i stand r)
  place r h = go (eqb i 0) refl
    where
      go : (t : Bool) → eqb i 0 ≡ t → Moves (placed here r) (stood_at i stand r)
      go true e = place_first r (h ∙ e) (le-ltb 0 i (let k : i ≡ 0 = eqb-true i 0 e in omega arith))
      go false e = place_later r (h ∙ e) (lt-ltb 0 i (let k : (i ≡ 0 → ⊥) = eqb-false i 0 e in omega arith))

-- What the reader holds beside the model's place: the same sheets and events, and the open block's order in its words.
record Same (p : Place) (s : Reader) : Type 0 where
  pub alike : Alike p s.stand
  pub ordered : Ordered (length p.events) p.orders
  pub held : HeldAt p s.words

place_same : (p : Place) (s : Stand) (i : ℕ) (r : Row) → Alike p s → eqb (length p.opened) 0 ≡ eqb i 0 → Moves (placed p r) (stood_at i s r)
place_same p s i r h z =
    subst (λ (l : List ℕ). Moves (placed p r) (stood_at i (record { starts = s.starts; events = l }) r)) (sym h.events)
    (place p.opened s.starts p.events p.orders i h.agree h.long r z)

-- the rows of what the code keeps
rows_kept : Out Kept → Out (List Row)
rows_kept (ok k) = ok k.rows
rows_kept (refusal number line) = refusal number line

-- a row judged by both: refused alike, or placed alike
data Judges : Out (Row × Place) → Out (Row × Reader) → Type 0 where
  refused : (number line : ℕ) → Judges (refusal number line) (refusal number line)
  stands : (r : Row) (p : Place) (s : Reader) → Same p s → (length p.opened ≡ 0 → ⊥) → Judges (ok (r, p)) (ok (r, s))

module _ (choices : Bool) (c : Columns) where
  judge : (i : ℕ) (line : Line) (p : Place) (s : Reader) → Same p s → eqb (length p.opened) 0 ≡ eqb i 0
      → Judges (judged choices c i p line) (judged_by choices c i s line)
  unfolding judged judged_by
  judge i line p s h z = form (cond (ltb i rows_most) (row_of choices c line) none)
    where
      behind : (r : Row) (q : Place) (t : Stand) → moved p r ≡ some q → Alike q t → (length q.opened ≡ 0 → ⊥) → (b : Bool) → circle_at r q ≡ b
          → Judges (cond b (refusal circle_refusal (line_of i)) (ok (r, q))) (cond b (refusal circle_refusal (line_of i)) (ok (r, reader_behind s r t)))
      behind r q t m a o true e = refused circle_refusal (line_of i)
      behind r q t m a o false e =
          stands r q (reader_behind s r t)
          (record {
            alike = a;
            ordered = judged_ordered p q r m e h.ordered;
            held = subst (λ (l : List ℕ). HeldAt q (noted s.words (length l / 2) r)) (sym h.alike.events)
                (held_behind p s.words h.ordered h.held r q m);
          })
          o

      stood : (r : Row) (q : Option Place) (t : Option Stand) → Moves q t → placed p r ≡ q
          → Judges (elim q [ none ↦ refusal place_refusal (line_of i) | some x ↦ cond (circle_at r x) (refusal circle_refusal (line_of i)) (ok (r, x)) ])
          (elim t [ none ↦ refusal place_refusal (line_of i) | some x ↦ cond (circles s.words r) (refusal circle_refusal (line_of i)) (ok (r, reader_behind s r x)) ])
      stood r none (some t) x4 e = elim x4 [ ]
      stood r (some q) none x4 e = elim x4 [ ]
      stood r none none neither e = refused place_refusal (line_of i)
      stood r (some q) (some t) (both x y a o) e =
          let m : moved p r ≡ some q = placed_moved p q r e in
          subst
          (λ (b : Bool). Judges (cond (circle_at r q) (refusal circle_refusal (line_of i)) (ok (r, q))) (cond b (refusal circle_refusal (line_of i)) (ok (r, reader_behind s r t))))
          (circle_same p s.words h.ordered h.held r q m)
          (behind r q t m a o (circle_at r q) refl)

      form : (o : Option Row)
          → Judges (elim o [
            | none ↦ refusal row_refusal (line_of i)
            | some r ↦ elim (placed p r) [
              | none ↦ refusal place_refusal (line_of i)
              | some x ↦ cond (circle_at r x) (refusal circle_refusal (line_of i)) (ok (r, x))
            ]
          ])
          (elim o [
            | none ↦ refusal row_refusal (line_of i)
            | some r ↦ elim (stood_at i s.stand r) [
              | none ↦ refusal place_refusal (line_of i)
              | some x ↦ cond (circles s.words r) (refusal circle_refusal (line_of i)) (ok (r, reader_behind s r x))
            ]
          ])
      form none = refused row_refusal (line_of i)
      form (some r) = stood r (placed p r) (stood_at i s.stand r) (place_same p s.stand i r h.alike z) refl

  -- a row and what is behind it, in the model and in the code
  ahead_same : (r : Row) (o : Out Kept) (m : Out (List Row)) → m ≡ rows_kept o
      → elim m [ refusal number line ↦ refusal number line | ok rs ↦ ok (r ∷ rs) ] ≡ rows_kept (ahead_of r o)
  unfolding rows_kept ahead_of
  ahead_same r (ok k) m e = rw e
  ahead_same r (refusal number line) m e = rw e

  rows_same : (ls : List Line) (i : ℕ) (p : Place) (s : Reader) → Same p s → eqb (length p.opened) 0 ≡ eqb i 0
      → rows_from choices c i p ls ≡ rows_kept (read_from choices c i s ls)
  unfolding rows_from read_from rows_kept
  rows_same [] i p s h z = refl
  rows_same (line ∷ ls) i p s h z = go (judged choices c i p line) (judged_by choices c i s line) (judge i line p s h z) refl refl (λ q t. rows_same ls (suc i) q t)
    where
      go : (x : Out (Row × Place)) (y : Out (Row × Reader)) → Judges x y → judged choices c i p line ≡ x → judged_by choices c i s line ≡ y
          → ((q : Place) (t : Reader) → Same q t → eqb (length q.opened) 0 ≡ eqb (suc i) 0 → rows_from choices c (suc i) q ls ≡ rows_kept (read_from choices c (suc i) t ls))
          → rows_from choices c i p (line ∷ ls) ≡ rows_kept (read_from choices c i s (line ∷ ls))
      go x y (refused number line') e f rest = rw (e, f, rows_from, read_from)
      go x y (stands r q t a o) e f rest =
          rw (e, f, rows_from, read_from)
          (ahead_same r (read_from choices c (suc i) t ls) (rows_from choices c (suc i) q ls)
          (rest q t a (ne_eqb (length q.opened) 0 o ∙ sym (ne_eqb (suc i) 0 (λ w. omega arith)))))

-- The table behind rows i, i + 1, ..: what it held before, and the start of each sheet that they open.
start_after : ℕ → List ℕ → List Row → ℕ → ℕ
start_after i starts rs n = cond (is_open starts n) (get_or starts n 0) (cond (among n (opens rs)) (i + start_of n rs) 0)

Finals : ℕ → List ℕ → Out Kept → Type 0
Finals i starts (ok k) = (length k.starts ≡ sheets) × ((n : ℕ) → get_or k.starts n 0 ≡ start_after i starts k.rows n)
Finals i starts (refusal number line) = Unit {0}

-- what a row does to the table
data Tabled (i : ℕ) (starts : List ℕ) : Row → List ℕ → Type 0 where
  opened : (n : ℕ) → n < length starts → is_open starts n ≡ false → Tabled i starts (sheet n) (set starts n (i + 1))
  kept : (r : Row) → is_sheet r ≡ false → Tabled i starts r starts

Stood : ℕ → List ℕ → Out (Row × Reader) → Type 0
Stood i starts (ok rq) = Tabled i starts rq.0 rq.1.stand.starts × (length rq.1.stand.starts ≡ sheets)
Stood i starts (refusal number line) = Unit {0}

module _ (i : ℕ) (starts events : List ℕ) (long : length starts ≡ sheets) where
  Table : Row → Option Stand → Type 0
  Table r none = Unit {0}
  Table r (some q) = Tabled i starts r q.starts × (length q.starts ≡ sheets)

  tabled : (r : Row) → Table r (moved_to i (record { starts = starts; events = events }) r)
  unfolding moved_to may_open Table is_sheet
  tabled (sheet n) = go (ltb n sheets && not (is_open starts n)) refl
    where
      go : (t : Bool) → (ltb n sheets && not (is_open starts n)) ≡ t → Table (sheet n) (cond t (some (record { starts = set starts n (i + 1); events = [] })) none)
      go true e =
          let l : n < length starts = rw long (ltb-true n sheets (and_left (ltb n sheets) (not (is_open starts n)) e)) in
          (opened n l (not-true (is_open starts n) (and_right (ltb n sheets) (not (is_open starts n)) e)), length-set starts n (i + 1) ∙ long)
      go false e = tt
  tabled (message a b) = go (message_fits events a b)
    where
      go : (t : Bool) → Table (message a b) (cond t (some (record { starts = starts; events = events ++ (a ∷ b ∷ []) })) none)
      go true = (kept (message a b) refl, long)
      go false = tt
  tabled (order x y) = go (order_fits events x y)
    where
      go : (t : Bool) → Table (order x y) (cond t (some (record { starts = starts; events = events })) none)
      go true = (kept (order x y) refl, long)
      go false = tt
  tabled block = (kept block refl, long)
  tabled (call n) = go (ltb n sheets)
    where
      go : (t : Bool) → Table (call n) (cond t (some (record { starts = starts; events = [] })) none)
      go true = (kept (call n) refl, long)
      go false = tt
  tabled (choice m n) = go (ltb m sheets && ltb n sheets)
    where
      go : (t : Bool) → Table (choice m n) (cond t (some (record { starts = starts; events = [] })) none)
      go true = (kept (choice m n) refl, long)
      go false = tt

  tabled_stood : (r : Row) → Table r (stood_at i (record { starts = starts; events = events }) r)
  unfolding stood_at Table
  tabled_stood r = go (is_sheet r || ltb 0 i) (moved_to i (record { starts = starts; events = events }) r) (tabled r)
    where
      go : (t : Bool) (q : Option Stand) → Table r q → Table r (cond t q none)
      go true q h = h
      go false q h = tt

  tabled_judged : (choices : Bool) (c : Columns) (words : List ℕ) (line : Line)
      → Stood i starts (judged_by choices c i (record { stand = record { starts = starts; events = events }; words = words }) line)
  unfolding judged_by Table Stood
  tabled_judged choices c words line = form (cond (ltb i rows_most) (row_of choices c line) none)
    where
      reader : Reader
      reader = record { stand = record { starts = starts; events = events }; words = words }

      circle : (r : Row) (q : Stand) → Table r (some q) → (b : Bool)
          → Stood i starts (cond b (refusal circle_refusal (line_of i)) (ok (r, reader_behind reader r q)))
      circle r q h true = tt
      circle r q h false = h

      stood : (r : Row) (q : Option Stand) → Table r q
          → Stood i starts (elim q [ none ↦ refusal place_refusal (line_of i) | some x ↦ cond (circles words r) (refusal circle_refusal (line_of i)) (ok (r, reader_behind reader r x)) ])
      stood r none h = tt
      stood r (some q) h = circle r q h (circles words r)

      form : (o : Option Row)
          → Stood i starts (elim o [
            | none ↦ refusal row_refusal (line_of i)
            | some r ↦ elim (stood_at i (record { starts = starts; events = events }) r) [
              | none ↦ refusal place_refusal (line_of i)
              | some x ↦ cond (circles words r) (refusal circle_refusal (line_of i)) (ok (r, reader_behind reader r x))
            ]
          ])
      form none = tt
      form (some r) = stood r (stood_at i (record { starts = starts; events = events }) r) (tabled_stood r)

start_here : (n : ℕ) (rs : List Row) → start_of n (sheet n ∷ rs) ≡ 1
unfolding start_of
start_here n rs = rw (eq-eqb n n refl, start_of)

start_there : (m n : ℕ) (rs : List Row) → (m ≡ n → ⊥) → start_of m (sheet n ∷ rs) ≡ suc (start_of m rs)
unfolding start_of
start_there m n rs h = rw (ne_eqb n m (λ e. h (sym e)), start_of)

after_same : (i : ℕ) (starts : List ℕ) (rs : List Row) (n : ℕ) → n < length starts → is_open starts n ≡ false
    → start_after (suc i) (set starts n (i + 1)) rs n ≡ start_after i starts (sheet n ∷ rs) n
unfolding start_after opens among
after_same i starts rs n l h =
    rw (open_set starts n i l, get_or-set_same starts n (i + 1) 0 l, h, eq-eqb n n refl, start_here n rs)

after_other : (i : ℕ) (starts : List ℕ) (rs : List Row) (m n : ℕ) → (m ≡ n → ⊥)
    → start_after (suc i) (set starts n (i + 1)) rs m ≡ start_after i starts (sheet n ∷ rs) m
unfolding start_after opens among
after_other i starts rs m n h =
    let k : suc i + start_of m rs ≡ i + suc (start_of m rs) = omega arith in
    rw (open_other starts n i m h, get_or-set_other starts n m (i + 1) 0 h, ne_eqb m n h, start_there m n rs h, k)

-- the table behind a row and those behind it
module _ (i : ℕ) (starts : List ℕ) (rs : List Row) (m : ℕ) where
  one_more : (x : ℕ) → suc i + x ≡ i + suc x
  one_more x = omega arith

  after_kept : (r : Row) → is_sheet r ≡ false → start_after (suc i) starts rs m ≡ start_after i starts (r ∷ rs) m
  unfolding start_after opens start_of is_sheet
  after_kept (sheet n) e = not_both true refl e
  after_kept (message a b) e = rw (one_more (start_of m rs))
  after_kept (order x y) e = rw (one_more (start_of m rs))
  after_kept block e = rw (one_more (start_of m rs))
  after_kept (call n) e = rw (one_more (start_of m rs))
  after_kept (choice k n) e = rw (one_more (start_of m rs))

  after_opened : (n : ℕ) → n < length starts → is_open starts n ≡ false
      → start_after (suc i) (set starts n (i + 1)) rs m ≡ start_after i starts (sheet n ∷ rs) m
  after_opened n l h = go (eqb m n) refl
    where
      go : (t : Bool) → eqb m n ≡ t → start_after (suc i) (set starts n (i + 1)) rs m ≡ start_after i starts (sheet n ∷ rs) m
      go true e =
          subst (λ (x : ℕ). start_after (suc i) (set starts n (i + 1)) rs x ≡ start_after i starts (sheet n ∷ rs) x) (sym (eqb-true m n e))
          (after_same i starts rs n l h)
      go false e = after_other i starts rs m n (eqb-false m n e)

finals_ahead : (i : ℕ) (starts starts' : List ℕ) (r : Row) (o : Out Kept) → Tabled i starts r starts' → Finals (suc i) starts' o → Finals i starts (ahead_of r o)
unfolding Finals ahead_of
finals_ahead i starts starts' r (refusal number line) t f = tt
finals_ahead i starts starts' r (ok k) (opened n l h) f = (f.0, λ m. f.1 m ∙ after_opened i starts k.rows m n l h)
finals_ahead i starts starts' r (ok k) (kept q h) f = (f.0, λ m. f.1 m ∙ after_kept i starts k.rows m q h)

unopened : (starts : List ℕ) (n : ℕ) → is_open starts n ≡ false → get_or starts n 0 ≡ 0
unfolding is_open
unopened starts n h = eqb-true (get_or starts n 0) 0 (not-false (eqb (get_or starts n 0) 0) h)

nothing_more : (i : ℕ) (starts : List ℕ) (n : ℕ) → get_or starts n 0 ≡ start_after i starts [] n
unfolding start_after opens among
nothing_more i starts n = go (is_open starts n) refl
  where
    go : (t : Bool) → is_open starts n ≡ t → get_or starts n 0 ≡ cond t (get_or starts n 0) 0
    go true e = refl
    go false e = unopened starts n e

finals : (choices : Bool) (c : Columns) (ls : List Line) (i : ℕ) (s : Reader) → length s.stand.starts ≡ sheets → Finals i s.stand.starts (read_from choices c i s ls)
unfolding read_from Finals Stood
finals choices c [] i s l = (l, λ n. nothing_more i s.stand.starts n)
finals choices c (line ∷ ls) i s l =
    go (judged_by choices c i s line) (tabled_judged i s.stand.starts s.stand.events l choices c s.words line) refl (λ t. finals choices c ls (suc i) t)
  where
    go : (x : Out (Row × Reader)) → Stood i s.stand.starts x → judged_by choices c i s line ≡ x
        → ((t : Reader) → length t.stand.starts ≡ sheets → Finals (suc i) t.stand.starts (read_from choices c (suc i) t ls))
        → Finals i s.stand.starts (read_from choices c i s (line ∷ ls))
    go (refusal number line') t e rest = rw (e, read_from) tt
    go (ok rq) t e rest =
        rw (e, read_from)
        (finals_ahead i s.stand.starts rq.1.stand.starts rq.0 (read_from choices c (suc i) rq.1 ls) t.0 (rest rq.1 t.1))

-- the table of the whole file
fresh_open : (n : ℕ) → is_open (replicate sheets 0) n ≡ false
unfolding is_open
fresh_open n = rw (replicate_at {A = ℕ} sheets n 0)

starts_at : (rs : List Row) (n : ℕ) → start_after 0 (replicate sheets 0) rs n ≡ start_in rs n
unfolding start_after start_in
starts_at rs n = rw (fresh_open n, zero-add (start_of n rs))

module _ (k : Kept) (f : Finals 0 (replicate sheets 0) (ok k)) where
  long : length k.starts ≡ sheets
  unfolding Finals
  long = f.0

  start_is : (n : ℕ) → get_or k.starts n 0 ≡ start_in k.rows n
  unfolding Finals
  start_is n = f.1 n ∙ starts_at k.rows n

  starts_of_holds : k.starts ≡ starts_of k.rows
  starts_of_holds =
      ext_get_or 0 k.starts (starts_of k.rows) (long ∙ sym (cells_length sheets (start_in k.rows)))
      (λ i h. start_is i ∙ sym (start_at k.rows i (rw long at h)))

  some_start : (rs : List Row) (n : ℕ) → among n (opens rs) ≡ true → start_of n rs ≡ 0 → ⊥
  unfolding among opens start_of
  some_start [] n h e = not_both false h refl
  some_start (sheet m ∷ rs) n h e = go (eqb m n) e
    where
      go : (t : Bool) → ◌≡◌ {A = ℕ} (elim t [ true ↦ 1 | false ↦ suc (start_of n rs) ]) 0 → ⊥
      go true z = omega arith
      go false z = omega arith
  some_start (message a b ∷ rs) n h e = omega arith
  some_start (order x y ∷ rs) n h e = omega arith
  some_start (block ∷ rs) n h e = omega arith
  some_start (call m ∷ rs) n h e = omega arith
  some_start (choice j m ∷ rs) n h e = omega arith

  open_is : (n : ℕ) → is_open k.starts n ≡ among n (opens k.rows)
  unfolding is_open start_in
  open_is n = rw (start_is n) (go (among n (opens k.rows)) refl)
    where
      go : (t : Bool) → among n (opens k.rows) ≡ t → not (eqb (cond t (start_of n k.rows) 0) 0) ≡ t
      go true e = rw (ne_eqb (start_of n k.rows) 0 (some_start k.rows n e))
      go false e = refl

empty : (n : ℕ) → false ≡ among n []
unfolding among
empty n = refl

-- what the code reads is what the model reads, and its table has the starts of the sheets that the rows open
module _ (choices : Bool) (c : Columns) (ls : List Line) (words : List ℕ) (long : length words ≡ 2 * messages_most * width) where
  same_rows : rows_from choices c 0 outside ls ≡ rows_kept (read_from choices c 0 (fresh words) ls)
  same_rows =
      rows_same choices c ls 0 outside (fresh words)
      (record {
        alike = record { agree = λ n. fresh_open n ∙ empty n; long = length-replicate {A = ℕ} sheets 0; events = refl };
        ordered = ordered_empty;
        held = held_empty words long;
      })
      refl

  pub rows_refused_holds : (number line : ℕ) → read_from choices c 0 (fresh words) ls ≡ refusal number line → rows_from choices c 0 outside ls ≡ refusal number line
  unfolding rows_kept
  rows_refused_holds number line e = same_rows ∙ ap rows_kept e

  module _ (k : Kept) (e : read_from choices c 0 (fresh words) ls ≡ ok k) where
    pub rows_read : rows_from choices c 0 outside ls ≡ ok k.rows
    unfolding rows_kept
    rows_read = same_rows ∙ ap rows_kept e

    finals_of : Finals 0 (replicate sheets 0) (ok k)
    finals_of = subst (λ (o : Out Kept). Finals 0 (replicate sheets 0) o) e (finals choices c ls 0 (fresh words) (length-replicate {A = ℕ} sheets 0))

    pub starts_same : k.starts ≡ starts_of k.rows
    starts_same = starts_of_holds k finals_of

    pub open_same : (n : ℕ) → is_open k.starts n ≡ among n (opens k.rows)
    open_same = open_is k finals_of
