-- The cured sheet as the code has it: boards, and words whose receives' rows hold what stands directly before the sends. That it is the
-- model's is a law of crate cure. Assumes nothing.
use Rattle.std.specs.Prelude.{cond, List, [], ◌∷◌, ◌++◌, ℕ, ◌+◌, ◌*◌, get_or}
use Prim.Native.Char.{code}
use Rattle.model.specs.Cure.{Written, message_rows, order_rows, row_text, rows_text, heading_text}
use Rattle.relation.specs.Width.{width}
use Rattle.relation.specs.Rows.{holds}
use Rattle.relation.specs.Scenario.{scenario_in}
use Rattle.sheet_text.specs.Writing.{row_bytes_most, heading_bytes}
use Rattle.order_count.specs.Orders.{orders_to}

-- the M row of message m, whose boards stand at the numbers of its events, and the M rows
abbrev pub message_row : List ℕ → ℕ → Written
message_row boards m = record { letter = code "M"; one = get_or boards (2 * m) 0; two = get_or boards (2 * m + 1) 0 }

abbrev pub messages_in : List ℕ → ℕ → List Written
messages_in boards m = message_rows (scenario_in 0 boards []) m

-- the P row of event x with e's send, if there is one
abbrev pub order_if : List ℕ → ℕ → ℕ → List (ℕ × ℕ)
order_if words x e = cond (holds width words (2 * e + 1) x) ((x, 2 * e) ∷ []) []

-- the heading and the row of sheet 0, and those with the M rows
abbrev pub sheet_row : Written
sheet_row = record { letter = code "S"; one = 0; two = 0 }

abbrev pub head_text : List ℕ
head_text = heading_text ++ row_text sheet_row

abbrev pub listed_text : List ℕ → ℕ → List ℕ
listed_text boards count = head_text ++ rows_text (messages_in boards count)

abbrev pub head_most : ℕ
head_most = heading_bytes + row_bytes_most

unfoldable pub rows_in : ℕ → List ℕ → List ℕ → List Written
rows_in count boards words =
    sheet_row ∷ messages_in boards count ++ order_rows (orders_to words count (2 * count))

unfoldable pub text_in : ℕ → List ℕ → List ℕ → List ℕ
text_in count boards words = heading_text ++ rows_text (rows_in count boards words)
