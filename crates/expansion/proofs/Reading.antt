-- What the columns and the table lent hold, the rows being those of some text: each row stands where the walk comes to it, each
-- sheet called starts where the table says, and the rows are few. Assumes nothing.
use Prim.Native.Nat.{ℕ, zero, suc, ◌+◌, ◌<◌, ◌≤◌}
use native.Mathlib.Decide.{ℕ_discrete}
use native.Mathlib.Omega.{arith}
use mathlib.Core.Path.{◌≡◌, refl, ◌∙◌, ap, subst}
use mathlib.Core.Bool.{Bool, true, false, cond, ◌&&◌, ◌||◌}
use mathlib.Core.List.{List, [], ◌∷◌}
use mathlib.Core.Option.{Option, none, some}
use lib.Dec.{eqb, ltb}
use lib.ListN.{length, get_or, drop, length-append}
use borrow.Author.Tests.{ltb-true, eqb-true}
use Rattle.model.proofs.Bounded.{and_left, and_right}
use Rattle.model.specs.Limits.{rows_most, sheets}
use Rattle.model.specs.Bounded.{among}
use Rattle.model.specs.Refusal.{ok, refusal, absent_refusal}
use Rattle.model.specs.Text.{Line, Columns}
use Rattle.model.specs.Rows.{Row, sheet, message, order, block, call, choice}
use Rattle.model.specs.Place.{Place, outside, with_message, moved, line_of, judged, opens, absent_call, complete}
use Rattle.model.specs.Place.{rows_from as rows_read}
use Rattle.model.specs.Expansion.{start_of, taken}
use Rattle.model.proofs.Refusal.{not_refused, passed, cond_ok}
use Rattle.model.proofs.Closure.{cells_length, cells_at}
use Rattle.model.proofs.Standing.{Fits, judged_row, read_parts, read_fits, cond_some}
use Rattle.model.proofs.Walked.{OnOneBoard, message_parts, order_parts}
use Rattle.sheet.specs.Bridge.{row_from, rows_at, rows_of, start_in}
use Rattle.sheet.proofs.Bridge.{rows_length, row_call, row_choice}
use Rattle.walk.specs.Block.{rows_from, AllStand}
use Rattle.walk.proofs.Meeting.{rows_drop}
use Rattle.levels.specs.Options.{options_of, is_call, sheet_called}
use Rattle.next_block.specs.Levels.{Sheets}
use Rattle.levels.proofs.Choosing.{either}
use Rattle.expansion.specs.Lent.{AreRead, RowsRead}

-- the rows' sheets are 0 to 31 where they call, and the rows are few
abbrev Known : Row → Type 0
Known (sheet k) = Unit {0}
Known (message a b) = Unit {0}
Known (order x y) = Unit {0}
Known block = Unit {0}
Known (call k) = k < sheets
Known (choice j k) = (j < sheets) × (k < sheets)

abbrev AllKnown : List Row → Type 0
AllKnown [] = Unit {0}
AllKnown (r ∷ rs) = Known r × AllKnown rs

moved_known : (p q : Place) (r : Row) → moved p r ≡ some q → Known r
unfolding moved
moved_known p q (sheet k) e = tt
moved_known p q (message a b) e = tt
moved_known p q (order x y) e = tt
moved_known p q block e = tt
moved_known p q (call k) e = ltb-true k sheets (cond_some (ltb k sheets) _ q e).0
moved_known p q (choice j k) e =
    let t = (cond_some (ltb j sheets && ltb k sheets) _ q e).0 in
    (ltb-true j sheets (and_left (ltb j sheets) (ltb k sheets) t), ltb-true k sheets (and_right (ltb j sheets) (ltb k sheets) t))

read_rows : (choices : Bool) (c : Columns) (i : ℕ) (p : Place) (ls : List Line) (rs : List Row) → rows_read choices c i p ls ≡ ok rs → i ≤ rows_most
    → AllKnown rs × (i + length rs ≤ rows_most)
unfolding rows_read
read_rows choices c i p [] rs e h =
    let t : [] ≡ rs = cc in subst (λ (z : List Row). AllKnown z × (i + length z ≤ rows_most)) t (tt, omega arith)
read_rows choices c i p (l ∷ ls) rs e h =
    let s = passed (judged choices c i p l) (λ rp. elim (rows_read choices c (suc i) rp.1 ls) [ refusal number line ↦ refusal number line | ok rs' ↦ ok (rp.0 ∷ rs') ]) rs e in
    let rp = s.0 in
    let j = judged_row choices c i p l rp s.1 in
    let t = passed (rows_read choices c (suc i) rp.1 ls) (λ rs'. ok (rp.0 ∷ rs')) rs s.2 in
    let e' : rp.0 ∷ t.0 ≡ rs = cc t.2 in
    let on = read_rows choices c (suc i) rp.1 ls t.0 t.1 j.few in
    subst (λ (z : List Row). AllKnown z × (i + length z ≤ rows_most)) e'
    ((moved_known p rp.1 rp.0 j.allowed, on.0), omega (arith, on.1))

-- every sheet called is there
abbrev Present : List ℕ → Row → Type 0
Present opened (sheet k) = Unit {0}
Present opened (message a b) = Unit {0}
Present opened (order x y) = Unit {0}
Present opened block = Unit {0}
Present opened (call k) = (k < sheets) × (among k opened ≡ true)
Present opened (choice j k) = ((j < sheets) × (among j opened ≡ true)) × ((k < sheets) × (among k opened ≡ true))

abbrev AllPresent : List ℕ → List Row → Type 0
AllPresent opened [] = Unit {0}
AllPresent opened (r ∷ rs) = Present opened r × AllPresent opened rs

all_present : (opened : List ℕ) (i : ℕ) (rs : List Row) → AllKnown rs → absent_call opened i rs ≡ none → AllPresent opened rs
unfolding absent_call
all_present opened i [] k e = tt
all_present opened i (sheet n ∷ rs) k e = (tt, all_present opened (suc i) rs k.1 e)
all_present opened i (message a b ∷ rs) k e = (tt, all_present opened (suc i) rs k.1 e)
all_present opened i (order x y ∷ rs) k e = (tt, all_present opened (suc i) rs k.1 e)
all_present opened i (block ∷ rs) k e = (tt, all_present opened (suc i) rs k.1 e)
all_present opened i (call n ∷ rs) k e = go (among n opened) refl e (all_present opened (suc i) rs k.1)
  where
    go : (b : Bool) → among n opened ≡ b → cond b (absent_call opened (suc i) rs) (some (line_of i)) ≡ none
        → (absent_call opened (suc i) rs ≡ none → AllPresent opened rs)
        → Present opened (call n) × AllPresent opened rs
    go true t e on = ((k.0, t), on e)
    go false t e on = let z : ◌≡◌ {A = ℕ} 0 1 = cc in absurd (omega arith)
all_present opened i (choice m n ∷ rs) k e = go (among m opened && among n opened) refl e (all_present opened (suc i) rs k.1)
  where
    go : (b : Bool) → (among m opened && among n opened) ≡ b → cond b (absent_call opened (suc i) rs) (some (line_of i)) ≡ none
        → (absent_call opened (suc i) rs ≡ none → AllPresent opened rs)
        → Present opened (choice m n) × AllPresent opened rs
    go true t e on =
        (((k.0.0, and_left (among m opened) (among n opened) t), (k.0.1, and_right (among m opened) (among n opened) t)), on e)
    go false t e on = let z : ◌≡◌ {A = ℕ} 0 1 = cc in absurd (omega arith)

present_at : (opened kind one two : List ℕ) (i n : ℕ) → AllPresent opened (rows_at kind one two i n) → (j : ℕ) → i ≤ j → j < i + n
    → Present opened (row_from (get_or kind j 0) (get_or one j 0) (get_or two j 0))
unfolding rows_at
present_at opened kind one two i zero a j l h = absurd (omega arith)
present_at opened kind one two i (suc n) a j l h = go (ℕ_discrete i j) (λ l'. present_at opened kind one two (suc i) n a.1 j l' (omega arith))
  where
    go : Dec (i ≡ j) → (suc i ≤ j → Present opened (row_from (get_or kind j 0) (get_or one j 0) (get_or two j 0)))
        → Present opened (row_from (get_or kind j 0) (get_or one j 0) (get_or two j 0))
    go (yes e) later = subst (λ (k : ℕ). Present opened (row_from (get_or kind k 0) (get_or one k 0) (get_or two k 0))) e a.0
    go (no n) later = later (omega arith)

-- the rows stand, from the open block's events on
all_stand : (events : List ℕ) (rs : List Row) → Fits events rs → AllStand (length events) rs
all_stand events [] f = tt
all_stand events (sheet n ∷ rs) f = (tt, all_stand [] rs f)
all_stand events (message a b ∷ rs) f = (
  message_parts events a b f.0,
  subst (λ (n : ℕ). AllStand n rs) (length-append events (a ∷ b ∷ [])) (all_stand (with_message events a b) rs f.1),
)
all_stand events (order x y ∷ rs) f =
    let o : OnOneBoard events x y = order_parts events x y f.0 in
    ((o.first_there, o.second_there), all_stand events rs f.1)
all_stand events (block ∷ rs) f = (tt, all_stand [] rs f)
all_stand events (call n ∷ rs) f = (tt, all_stand [] rs f)
all_stand events (choice m n ∷ rs) f = (tt, all_stand [] rs f)

-- and so do the rows behind each sheet's S row
sheet_stand : (k n : ℕ) (rs : List Row) → AllStand k rs → AllStand 0 (drop (start_of n rs) rs)
unfolding start_of
sheet_stand k n [] a = tt
sheet_stand k n (sheet m ∷ rs) a = go (eqb m n) (sheet_stand 0 n rs a.1)
  where
    go : (b : Bool) → AllStand 0 (drop (start_of n rs) rs) → AllStand 0 (drop (elim b [ true ↦ 1 | false ↦ suc (start_of n rs) ]) (sheet m ∷ rs))
    go true g = a.1
    go false g = g
sheet_stand k n (message x y ∷ rs) a = sheet_stand (k + 2) n rs a.1
sheet_stand k n (order x y ∷ rs) a = sheet_stand k n rs a.1
sheet_stand k n (block ∷ rs) a = sheet_stand 0 n rs a.1
sheet_stand k n (call m ∷ rs) a = sheet_stand 0 n rs a.1
sheet_stand k n (choice j m ∷ rs) a = sheet_stand 0 n rs a.1

-- What the rows of a text are: few, each stands, and sheet 0 is there.
record Whole (rs : List Row) : Type 0 where
  pub few : length rs ≤ rows_most
  pub present : AllPresent (opens rs) rs
  pub begins : among 0 (opens rs) ≡ true

complete_whole : (choices : Bool) (c : Columns) (ls : List Line) (rs : List Row) → rows_read choices c 0 outside ls ≡ ok rs → complete rs ≡ ok rs → Whole rs
unfolding complete
complete_whole choices c ls rs e f =
    let t = cond_ok (among 0 (opens rs)) _ _ _ rs f in go (absent_call (opens rs) 0 rs) refl t.0 t.1
  where
    go : (o : Option ℕ) → absent_call (opens rs) 0 rs ≡ o → among 0 (opens rs) ≡ true
        → elim o [ none ↦ ok rs | some line ↦ refusal absent_refusal line ] ≡ ok rs
        → Whole rs
    go none s b h =
        let r = read_rows choices c 0 outside ls rs e (omega arith) in
        record { few = omega (arith, r.1); present = all_present (opens rs) 0 rs r.0 s; begins = b }
    go (some line) s b h = not_refused h

read_whole : (rs : List Row) → AreRead rs → Whole rs
read_whole rs r = let p = read_parts r.0 r.1 rs r.2 in complete_whole r.0 p.columns p.lines rs p.read p.whole

module _ (kind one two : List ℕ) (count : ℕ) (start : List ℕ) (lent : RowsRead kind one two count start) where
  abbrev file : List Row
  file = rows_of kind one two count

  -- the rows lent are few, so a row's line fits
  rows_few : count ≤ rows_most
  rows_few = omega (arith, rows_length kind one two 0 count, (read_whole file lent.read).few)

  -- the sheet that a call names is there, and starts where the table says
  start_at : (n : ℕ) → n < sheets → among n (opens file) ≡ true → get_or start n 0 ≡ start_of n file
  unfolding start_in
  start_at n h a = ap (λ (l : List ℕ). get_or l n 0) lent.starts ∙ cells_at sheets (start_in file) n 0 h ∙ rw a

  row_present : (i : ℕ) → i < count → Present (opens file) (row_from (get_or kind i 0) (get_or one i 0) (get_or two i 0))
  row_present i h = present_at (opens file) kind one two 0 count (read_whole file lent.read).present i (omega arith) (omega arith)

  -- a row that calls: the sheet that it calls, whatever its option
  called_present : (options choices i : ℕ) → i < count → is_call (get_or kind i 0) ≡ true
      → Present (opens file) (call (sheet_called (get_or kind i 0) (get_or one i 0) (get_or two i 0) options choices))
  unfolding sheet_called is_call taken
  called_present options choices i h e = go (eqb (get_or kind i 0) 65) refl
    where
      either_one : (b : Bool) → Present (opens file) (choice (get_or one i 0) (get_or two i 0)) → Present (opens file) (call (cond b (get_or two i 0) (get_or one i 0)))
      either_one true p = p.1
      either_one false p = p.0

      go : (b : Bool) → eqb (get_or kind i 0) 65 ≡ b
          → Present (opens file) (call (cond b (cond (get_or (options_of options) choices false) (get_or two i 0) (get_or one i 0)) (get_or one i 0)))
      go true f =
          either_one (get_or (options_of options) choices false)
          (subst (Present (opens file)) (row_choice (get_or kind i 0) (get_or one i 0) (get_or two i 0) (eqb-true (get_or kind i 0) 65 f)) (row_present i h))
      go false f =
          let c : get_or kind i 0 ≡ 67 = eqb-true (get_or kind i 0) 67 (either (eqb (get_or kind i 0) 67) (subst (λ (t : Bool). (eqb (get_or kind i 0) 67 || t) ≡ true) f e)) in
          subst (Present (opens file)) (row_call (get_or kind i 0) (get_or one i 0) (get_or two i 0) c) (row_present i h)

  pub start_long : length start ≡ sheets
  start_long = ap length lent.starts ∙ cells_length sheets (start_in file)

  pub start_zero : get_or start 0 0 ≡ start_of 0 file
  start_zero = start_at 0 (omega arith) (read_whole file lent.read).begins

  -- and its rows stand
  pub start_stand : (n : ℕ) → AllStand 0 (rows_from kind one two count (start_of n file))
  start_stand n =
      subst (AllStand 0) (rows_drop kind one two count (start_of n file))
      (sheet_stand 0 n file (all_stand [] file (read_fits lent.read.0 lent.read.1 file lent.read.2)))

  pub sheets_lent : (options : ℕ) → Sheets options kind one two count start
  sheets_lent options =
      record {
        rows = record { few = rows_few; kind_long = lent.kind_long; one_long = lent.one_long; two_long = lent.two_long };
        known = λ i choices h e. omega (arith, (called_present options choices i h e).0, start_long);
        starts = λ i choices h e. let p = called_present options choices i h e in start_at _ p.0 p.1;
        stand = start_stand;
      }
