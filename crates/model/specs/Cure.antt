-- Request (i): the loosest change that cures a sheet. The cured order, the sheet that is written for it, the answer, and what the call
-- promises. Assumes nothing.
use Rattle.std.specs.Prelude.{ℕ, zero, suc, ◌+◌, ◌*◌, ◌/◌, ◌%◌, ◌<◌, ◌≤◌, ◌≡◌, ◌↔◌, Bool, true, false, not, cond, ◌&&◌, ◌||◌, List, [], ◌∷◌, ◌++◌, eqb, ltb, length, take, drop}
use Prim.Native.Char.{code}
use Rattle.model.specs.Limits.{rows_most, channels, scratch_least, sheet_output_least}
use Rattle.model.specs.Bounded.{any}
use Rattle.model.specs.Refusal.{Out, ok, refusal, and_then, bench_refusal, cured_rows_refusal}
use Rattle.model.specs.Text.{ascii, line_end, space}
use Rattle.model.specs.Order.{Event, send_of, receive_of, event, is_own, Scenario, board, at_or_before}
use Rattle.model.specs.Channel.{channel_of}
use Rattle.model.specs.Run.{Step, IsOrder, CanFinish}
use Rattle.model.specs.Race.{race_rule_of, is_race}
use Rattle.model.specs.Answer.{sheet_of, scratch_behind}
use Rattle.model.specs.Verdict.{Meets}

unfoldable pub is_send : Event → Bool
is_send (send_of m) = true
is_send (receive_of m) = false

module _ (S : Scenario) where
  -- The cured order: keep sends before receives, and keep an order only where it ends in a send, closed transitively.
  pub data Cured : Event → Event → Type 0 where
    own : {x y : Event} → is_own S.count x y ≡ true → Cured x y
    kept : {x y : Event} → is_send y ≡ true → S.before x y ≡ true → Cured x y
    link : {x y z : Event} → Cured x y → Cured y z → Cured x z

  -- the same as a test: before a send is what was before it, and before a receive its send and what was before that
  unfoldable pub cured_before : Event → Event → Bool
  cured_before x (send_of m) = S.before x (send_of m)
  cured_before x (receive_of m) = ltb m S.count && at_or_before S x (send_of m)

  -- the event with number k, of any board, stands between x and y
  unfoldable pub is_between : Event → Event → ℕ → Bool
  is_between x y k = cured_before x (event k) && cured_before (event k) y

  -- `P x y` is written: x and y are on one board, x is before y with no event between them, and they are not a message's own two
  unfoldable pub is_written : Event → Event → Bool
  is_written x y =
      eqb (board S x) (board S y) && cured_before x y && not (any (2 * S.count) (is_between x y)) && not (is_own S.count x y)

  -- the P rows of event x, with the events below y; and those of the events below x: by x and then y
  unfoldable pub orders_at : ℕ → ℕ → List (ℕ × ℕ)
  orders_at x zero = []
  orders_at x (suc y) = orders_at x y ++ cond (is_written (event x) (event y)) ((x, y) ∷ []) []

  unfoldable pub orders_below : ℕ → List (ℕ × ℕ)
  orders_below zero = []
  orders_below (suc x) = orders_below x ++ orders_at x (2 * S.count)

-- a row to be written: its letter and its two numbers
pub record Written : Type 0 where
  pub letter : ℕ
  pub one : ℕ
  pub two : ℕ

-- the M rows of the messages below m, in the walk's numbering
unfoldable pub message_rows : Scenario → ℕ → List Written
message_rows S zero = []
message_rows S (suc m) = message_rows S m ++ (record { letter = code "M"; one = S.source m; two = S.target m } ∷ [])

unfoldable pub order_rows : List (ℕ × ℕ) → List Written
order_rows [] = []
order_rows (p ∷ ps) = record { letter = code "P"; one = p.0; two = p.1 } ∷ order_rows ps

-- the cured sheet is sheet 0 with one block: the M rows, then the P rows
unfoldable pub cured_rows : Scenario → List Written
cured_rows S =
    record { letter = code "S"; one = 0; two = 0 } ∷ message_rows S S.count ++ order_rows (orders_below S (2 * S.count))

-- the byte of a digit
abbrev pub digit : ℕ → ℕ
digit d = 48 + d

-- a number below 1,000 in decimal, without leading zeros
unfoldable pub digits_of : ℕ → List ℕ
digits_of n =
    cond (ltb n 10) (digit n ∷ [])
    (cond (ltb n 100) (digit (n / 10) ∷ digit (n % 10) ∷ []) (digit (n / 100) ∷ digit (n / 10 % 10) ∷ digit (n % 10) ∷ []))

-- a row: its letter and its numbers, one space between, and the line end
unfoldable pub row_text : Written → List ℕ
row_text r = r.letter ∷ space ∷ digits_of r.one ++ (space ∷ digits_of r.two ++ (line_end ∷ []))

-- each row starts at the byte after the one before
unfoldable pub rows_text : List Written → List ℕ
rows_text [] = []
rows_text (r ∷ rs) = row_text r ++ rows_text rs

-- the house heading
unfoldable pub heading_text : List ℕ
heading_text = ascii "kind one two" ++ (line_end ∷ [])

unfoldable pub cured_text : Scenario → List ℕ
cured_text S = heading_text ++ rows_text (cured_rows S)

-- the text that is written for a sheet, unless it has more than 512 rows (refusal 15)
unfoldable pub cured_of : Scenario → Out (List ℕ)
cured_of S = cond (ltb rows_most (length (cured_rows S))) (refusal cured_rows_refusal 0) (ok (cured_text S))

-- the text that is written, or the refusal: 2 for the scratch or the output, then those of the sheet, and 15 last
unfoldable pub cure_of : List ℕ → ℕ → ℕ → Out (List ℕ)
cure_of text scratch_length output_length =
    cond (ltb scratch_length scratch_least || ltb output_length sheet_output_least) (refusal bench_refusal 0) (and_then (sheet_of text) cured_of)

-- the bytes behind the text are unchanged, and a refusal leaves the output unchanged
unfoldable pub output_with : Out (List ℕ) → List ℕ → List ℕ
output_with (ok written) output = written ++ drop (length written) output
output_with (refusal number line) output = output

-- The word of an answer, as a number, and the two numbers behind it: the text's length; the refusal's number and its line.
pub record CureNumbers : Type 0 where
  pub word : ℕ
  pub one : ℕ
  pub two : ℕ

abbrev pub written_word : ℕ
written_word = 0

abbrev pub refused_word : ℕ
refused_word = 1

abbrev pub cure_numbers : Out (List ℕ) → CureNumbers
cure_numbers (ok written) = record { word = written_word; one = length written; two = 0 }
cure_numbers (refusal number line) = record { word = refused_word; one = number; two = line }

-- two sheets have the same messages
pub record SameMessages (S T : Scenario) : Type 0 where
  pub counts : T.count ≡ S.count
  pub sources : (m : ℕ) → m < S.count → T.source m ≡ S.source m
  pub targets : (m : ℕ) → m < S.count → T.target m ≡ S.target m

-- free on a code, in the sense of point 3: every allowed order can be carried on until all is consumed
abbrev pub FreeOn : Scenario → ℕ → Type 0
FreeOn S code = (ts : List Step) → IsOrder S (channel_of code) ts → CanFinish S (channel_of code) ts

-- What holds of the text written for a sheet with the scenario S.
pub record CuredSheet (S : Scenario) (written : List ℕ) : Type 0 where
  -- the test is exactly the cured order, which lies inside the old one
  pub order : (x y : Event) → (cured_before S x y ≡ true) ↔ Cured S x y
  pub inside : (x y : Event) → Cured S x y → S.before x y ≡ true
  -- of two events on one board, the first before the second, the order is given up exactly if the second is the receive of some e and the first
  -- races with e on code 0
  pub given_up : (x y : Event) → board S x ≡ board S y → S.before x y ≡ true
      → (Cured S x y → ⊥) ↔ ((e : ℕ) × (y ≡ receive_of e) × (is_race S (race_rule_of 0) e x ≡ true))
  -- reading the text yields the same messages and exactly the cured order
  pub sheet : Scenario
  pub read : sheet_of written ≡ ok sheet
  pub causal_order : Meets written sheet
  pub messages : SameMessages S sheet
  pub exact : (x y : Event) → (sheet.before x y ≡ true) ↔ Cured S x y
  -- it is free on all six codes
  pub free : (code : ℕ) → code < channels → FreeOn sheet code
  -- and the loosest: every sheet of the same messages that is accepted, free on code 0 and ordered inside the old order is ordered inside it;
  -- its "before" is the paper's relation too
  pub other_order : (other : List ℕ) (T : Scenario) → sheet_of other ≡ ok T → Meets other T
  pub loosest : (other : List ℕ) (T : Scenario) → sheet_of other ≡ ok T → SameMessages S T → FreeOn T 0
      → ((x y : Event) → T.before x y ≡ true → S.before x y ≡ true) → (x y : Event) → T.before x y ≡ true → Cured S x y

-- What a call gives, from what it was lent: the text, and the scratch and the output at entry.
pub record CureChecked (text scratch scratch_exit output output_exit : List ℕ) (r : CureNumbers) : Type 0 where
  -- the answer is the request's
  pub answer : r ≡ cure_numbers (cure_of text (length scratch) (length output))
  -- refusal 2 touches neither buffer; behind every other call the first scratch words are zero and the rest unchanged
  pub scratch_left : scratch_exit ≡ scratch_behind (cure_of text (length scratch) (length output)) scratch
  -- the output changes only where a text is written, in its bytes
  pub output_left : output_exit ≡ output_with (cure_of text (length scratch) (length output)) output
  -- with buffers long enough, refusal 15 comes for an accepted sheet exactly if its cure has more than 512 rows
  pub rows_refused : (S : Scenario) → sheet_of text ≡ ok S → scratch_least ≤ length scratch → sheet_output_least ≤ length output
      → ((r.word ≡ refused_word) × (r.one ≡ cured_rows_refusal)) ↔ (rows_most < length (cured_rows S))
  -- an accepted sheet's scenario is what its walk meets, with "before" the paper's relation
  pub causal_order : (S : Scenario) → sheet_of text ≡ ok S → Meets text S
  -- the text written cures the sheet
  pub cured : (S : Scenario) → sheet_of text ≡ ok S → r.word ≡ written_word → CuredSheet S (take r.one output_exit)
