-- The model's judgement of a row as the code makes it, and what the code hands back of it. Assumes nothing.
use Rattle.std.specs.Prelude.{ℕ, ◌*◌, ◌/◌, ◌≤◌, ◌<◌, ◌≡◌, Bool, cond, List, ltb, length, drop, Result, Ok, Err}
use Rattle.std.proofs.Math.Option.{none, some}
use Rattle.outcome.specs.declared.Reason.{Reason}
use Rattle.outcome.specs.Refusals.{number_in}
use Rattle.model.specs.Limits.{sheets, rows_most, messages_most}
use Rattle.model.specs.Refusal.{Out, ok, refusal, row_refusal, place_refusal, circle_refusal}
use Rattle.model.specs.Text.{Line, Columns}
use Rattle.model.specs.Rows.{Row, row_of}
use Rattle.model.specs.Place.{line_of}
use Rattle.line.specs.Scan.{first_line}
use Rattle.line.specs.Parts.{Onward}
use Rattle.place.specs.Letters.{row_from}
use Rattle.place.specs.Stand.{Stand, stood_at, stand_of}
use Rattle.relation.specs.Width.{width}
use Rattle.block_order.specs.Noted.{noted, circles}
use Rattle.row.specs.declared.Step.{Step}

-- What the reader holds: where it stands, and the words of the open block's order.
pub record Reader : Type 0 where
  pub stand : Stand
  pub words : List ℕ

abbrev pub reader_of : List ℕ → List ℕ → ℕ → List ℕ → Reader
reader_of starts boards messages words = record { stand = stand_of starts boards messages; words = words }

-- the reader behind a row that has its place, and makes no circle; a block has two events a message
abbrev pub reader_behind : Reader → Row → Stand → Reader
reader_behind s r q = record { stand = q; words = noted s.words (length s.stand.events / 2) r }

-- a row and the reader behind it, unless its form (5), else its place (6), else a circle (11) is refused
unfoldable pub judged_by : Bool → Columns → ℕ → Reader → Line → Out (Row × Reader)
judged_by choices c i s l =
    elim (cond (ltb i rows_most) (row_of choices c l) none) [
      | none ↦ refusal row_refusal (line_of i)
      | some r ↦ elim (stood_at i s.stand r) [
        | none ↦ refusal place_refusal (line_of i)
        | some q ↦ cond (circles s.words r) (refusal circle_refusal (line_of i)) (ok (r, reader_behind s r q))
      ]
    ]

-- one row read, or refused
abbrev pub step_as : Result Step Reason → ℕ → List ℕ → List ℕ → List ℕ → Out (Row × Reader)
step_as (Ok s) row starts boards words = ok (row_from s.kind s.one s.two, reader_of starts boards s.messages words)
step_as (Err reason) row starts boards words = refusal (number_in reason) (line_of row)

-- where a row was read, the next one begins behind it, and the table, the boards and the words have kept their lengths
pub record Stepped (text : List ℕ) (at row next messages : ℕ) (starts boards words : List ℕ) : Type 0 where
  pub onward : Onward text at next
  pub room : row < rows_most
  pub few : messages ≤ messages_most
  pub all_starts : length starts ≡ sheets
  pub all_boards : length boards ≡ 2 * messages_most
  pub all_words : length words ≡ 2 * messages_most * width

abbrev pub StepOn : List ℕ → ℕ → ℕ → List ℕ → List ℕ → List ℕ → Result Step Reason → Type 0
StepOn text at row starts boards words (Ok s) = Stepped text at row s.next s.messages starts boards words
StepOn text at row starts boards words (Err reason) = Unit {0}

-- the row with a number, at a position, judged from what the reader holds
pub record StepAs (choices : Bool) (c : Columns) (text : List ℕ) (at row : ℕ) (s : Reader) (starts boards words : List ℕ) (r : Result Step Reason) : Type 0 where
  pub step : step_as r row starts boards words ≡ judged_by choices c row s (first_line (drop at text))
  pub on : StepOn text at row starts boards words r
