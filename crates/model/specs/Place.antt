-- "The sheet file" and "Refusal table", 3 to 7 and 11: where a row may stand, the order of the open block, the reading of a text.
-- Assumes nothing.
use Rattle.std.specs.Prelude.{ℕ, suc, ◌+◌, ◌*◌, ◌%◌, ◌≡◌, Bool, true, false, not, cond, ◌&&◌, ◌||◌, List, [], ◌∷◌, ◌++◌, eqb, leb, ltb, length, get_or}
use Rattle.std.proofs.Math.Option.{Option, none, some}
use Rattle.model.specs.Limits.{text_most, rows_most, sheets, boards, messages_most}
use Rattle.model.specs.Bounded.{any, among}
use Rattle.model.specs.Closure.{listed, reads, linked}
use Rattle.model.specs.Refusal.{Out, ok, refusal, and_then, length_refusal, heading_refusal, row_refusal, place_refusal, absent_refusal, circle_refusal}
use Rattle.model.specs.Text.{Line, Columns, lines_of, heading_of}
use Rattle.model.specs.Rows.{Row, sheet, message, order, block, call, choice, row_of}

-- Where the reader stands: the sheets opened so far, and of the open block the board of each event, by event number, and the P rows.
pub record Place : Type 0 where
  pub opened : List ℕ
  pub events : List ℕ
  pub orders : List (ℕ × ℕ)

-- the next block is open, behind the sheets opened so far
abbrev pub block_next : List ℕ → Place
block_next opened = record { opened = opened; events = []; orders = [] }

-- before the first row
abbrev pub outside : Place
outside = block_next []

-- the open block's events, with a message from board a to board b more: its send is on a and its receive on b
abbrev pub with_message : List ℕ → ℕ → ℕ → List ℕ
with_message events a b = events ++ (a ∷ b ∷ [])

-- `M a b` may stand here: boards 0 to 15, and the block has fewer messages than it may have
unfoldable pub message_fits : List ℕ → ℕ → ℕ → Bool
message_fits events a b = ltb a boards && ltb b boards && ltb (length events) (2 * messages_most)

-- `P x y` may stand here: both events are there, differ, and are on one board
unfoldable pub order_fits : List ℕ → ℕ → ℕ → Bool
order_fits events x y =
    ltb x (length events) && ltb y (length events) && not (eqb x y) && eqb (get_or events x 0) (get_or events y 0)

-- the place behind a row; nothing where a rule is broken. An S row opens a sheet, 0 to 31 and each at most once
unfoldable pub moved : Place → Row → Option Place
moved p (sheet n) = cond (ltb n sheets && not (among n p.opened)) (some (block_next (n ∷ p.opened))) none
moved p (message a b) =
    cond (message_fits p.events a b)
    (some (record { opened = p.opened; events = with_message p.events a b; orders = p.orders })) none
moved p (order x y) =
    cond (order_fits p.events x y) (some (record { opened = p.opened; events = p.events; orders = (x, y) ∷ p.orders })) none
moved p block = some (block_next p.opened)
moved p (call n) = cond (ltb n sheets) (some (block_next p.opened)) none
moved p (choice m n) = cond (ltb m sheets && ltb n sheets) (some (block_next p.opened)) none

unfoldable pub is_sheet : Row → Bool
is_sheet (sheet n) = true
is_sheet (message a b) = false
is_sheet (order x y) = false
is_sheet block = false
is_sheet (call n) = false
is_sheet (choice m n) = false

-- every other row stands behind an S row (refusal 6 where there is no place for a row)
unfoldable pub placed : Place → Row → Option Place
placed p r = cond (is_sheet r || not (eqb (length p.opened) 0)) (moved p r) none

-- message k's own send, 2k, and receive, 2k + 1, in a block of n events
unfoldable pub is_own_pair : ℕ → ℕ → ℕ → Bool
is_own_pair n x y = eqb (x % 2) 0 && eqb y (x + 1) && ltb y n

module _ (n : ℕ) (orders : List (ℕ × ℕ)) where
  -- The order of a block of n events: the least transitive relation with its P rows, and the own send of each of its messages
  -- before its receive.
  pub data BlockBefore : ℕ → ℕ → Type 0 where
    given : {x y : ℕ} → listed x y orders ≡ true → BlockBefore x y
    paired : {x y : ℕ} → is_own_pair n x y ≡ true → BlockBefore x y
    through : {x y z : ℕ} → BlockBefore x y → BlockBefore y z → BlockBefore x z

  -- its two sources, and the whole of it as a computed table
  unfoldable pub block_direct : ℕ → ℕ → Bool
  block_direct x y = listed x y orders || is_own_pair n x y

  unfoldable pub block_table : List (List Bool)
  block_table = linked n block_direct n

  -- an event of the block is before itself
  unfoldable pub block_circle : Bool
  block_circle = let t = block_table in any n (λ e. reads t e e)

-- a P row, and the place behind it: an event of the block is before itself (refusal 11)
unfoldable pub circle_at : Row → Place → Bool
circle_at (sheet n) q = false
circle_at (message a b) q = false
circle_at (order x y) q = block_circle (length q.events) q.orders
circle_at block q = false
circle_at (call n) q = false
circle_at (choice m n) q = false

-- the line of the row with the given number, from 0; the heading is line 1
abbrev pub line_of : ℕ → ℕ
line_of i = i + 2

-- a row and the place behind it, unless its form (5, which row 513 has not either), else its place (6), else a circle (11) is refused
unfoldable pub judged : Bool → Columns → ℕ → Place → Line → Out (Row × Place)
judged choices c i p l =
    elim (cond (ltb i rows_most) (row_of choices c l) none) [
      | none ↦ refusal row_refusal (line_of i)
      | some r ↦ elim (placed p r) [
        | none ↦ refusal place_refusal (line_of i)
        | some q ↦ cond (circle_at r q) (refusal circle_refusal (line_of i)) (ok (r, q))
      ]
    ]

-- the rows, read one by one; i is the number of the first
unfoldable pub rows_from : Bool → Columns → ℕ → Place → List Line → Out (List Row)
rows_from choices c i p [] = ok []
rows_from choices c i p (l ∷ ls) =
    elim (judged choices c i p l) [
      | refusal number line ↦ refusal number line
      | ok rp ↦ elim (rows_from choices c (suc i) rp.1 ls) [ refusal number line ↦ refusal number line | ok rs ↦ ok (rp.0 ∷ rs) ]
    ]

-- the sheets that the rows open
unfoldable pub opens : List Row → List ℕ
opens [] = []
opens (sheet n ∷ rs) = n ∷ opens rs
opens (message a b ∷ rs) = opens rs
opens (order x y ∷ rs) = opens rs
opens (block ∷ rs) = opens rs
opens (call n ∷ rs) = opens rs
opens (choice m n ∷ rs) = opens rs

-- the line of the first call to a sheet that is not among those present; i is the number of the first row, and an A row names two calls
unfoldable pub absent_call : List ℕ → ℕ → List Row → Option ℕ
absent_call present i [] = none
absent_call present i (sheet n ∷ rs) = absent_call present (suc i) rs
absent_call present i (message a b ∷ rs) = absent_call present (suc i) rs
absent_call present i (order x y ∷ rs) = absent_call present (suc i) rs
absent_call present i (block ∷ rs) = absent_call present (suc i) rs
absent_call present i (call n ∷ rs) = cond (among n present) (absent_call present (suc i) rs) (some (line_of i))
absent_call present i (choice m n ∷ rs) = cond (among m present && among n present) (absent_call present (suc i) rs) (some (line_of i))

-- sheet 0 is there (else 7, line 0), and so is every sheet that is called (else 7, the first such call's line)
unfoldable pub complete : List Row → Out (List Row)
complete rs =
    cond (among 0 (opens rs))
    (elim (absent_call (opens rs) 0 rs) [ none ↦ ok rs | some line ↦ refusal absent_refusal line ])
    (refusal absent_refusal 0)

-- the rows behind a heading
unfoldable pub body_of : Bool → List Line → Out (List Row)
body_of choices [] = refusal heading_refusal 1
body_of choices (h ∷ ls) =
    elim (heading_of h) [ none ↦ refusal heading_refusal 1 | some c ↦ and_then (rows_from choices c 0 outside ls) complete ]

-- the rows of a text, with or without A rows let through, or the refusal, 3 to 7 or 11, that it gets
unfoldable pub read_with : Bool → List ℕ → Out (List Row)
read_with choices text =
    cond (ltb 0 (length text) && leb (length text) text_most) (body_of choices (lines_of text)) (refusal length_refusal 0)

-- every call but that of request (c) refuses A with 5
abbrev pub read_of : List ℕ → Out (List Row)
read_of text = read_with false text
