-- Each way through the judgement of a row is that of specs/Judged. Assumes nothing.
use Prim.Native.Nat.{ℕ, ◌*◌, ◌/◌, ◌≤◌, ◌<◌}
use native.Mathlib.Omega.{arith}
use mathlib.Core.Path.{◌≡◌, refl, sym, ◌∙◌}
use mathlib.Core.Bool.{Bool, true, false}
use mathlib.Core.List.{List}
use mathlib.Core.Option.{none, some}
use borrow.Author.Tests.{lt-ltb, le-ltb}
use lib.Dec.{ltb}
use lib.ListN.{length, take, drop}
use lib.Seq.{length-take-le}
use Rattle.std.specs.Prelude.{Some, None, Ok, Err}
use Rattle.outcome.specs.declared.Reason.TheVariants as reason
use Rattle.model.specs.Limits.{rows_most, messages_most}
use Rattle.model.specs.Refusal.{ok, refusal, row_refusal, place_refusal, circle_refusal}
use Rattle.model.specs.Text.{Line, Columns}
use Rattle.model.specs.Rows.{Row, sheet, message, order, block, call, choice, row_of}
use Rattle.model.specs.Place.{line_of}
use Rattle.line.specs.Scan.{first_line}
use Rattle.place.specs.Letters.{row_from}
use Rattle.place.specs.Stand.{Stand, stand_of, stood_at, PlaceAs}
use Rattle.place.proofs.Standing.{message_room, order_there}
use Rattle.relation.specs.Width.{width}
use Rattle.block_order.specs.Noted.{noted, circles, Within, NotedAs}
use Rattle.row.specs.Form.{RowAs}
use Rattle.row.specs.Judged.{Reader, reader_of, reader_behind, judged_by, StepAs}
use Rattle.row.specs.declared.Reading.{Reading}

-- a row judged: too many, malformed, with no place, with a circle, and with none
module _ (choices : Bool) (c : Columns) (i : ℕ) (s : Reader) (l : Line) where
  judged_full : rows_most ≤ i → judged_by choices c i s l ≡ refusal row_refusal (line_of i)
  unfolding judged_by
  judged_full h = rw (le-ltb i rows_most h, judged_by)

  judged_malformed : row_of choices c l ≡ none → judged_by choices c i s l ≡ refusal row_refusal (line_of i)
  unfolding judged_by
  judged_malformed e = go (ltb i rows_most) refl
    where
      go : (t : Bool) → ltb i rows_most ≡ t → judged_by choices c i s l ≡ refusal row_refusal (line_of i)
      go true h = rw (h, e, judged_by)
      go false h = rw (h, judged_by)

  module _ (r : Row) (h : i < rows_most) (e : row_of choices c l ≡ some r) where
    judged_nowhere : stood_at i s.stand r ≡ none → judged_by choices c i s l ≡ refusal place_refusal (line_of i)
    unfolding judged_by
    judged_nowhere f = rw (lt-ltb i rows_most h, e, f, judged_by)

    judged_circle : (q : Stand) → stood_at i s.stand r ≡ some q → circles s.words r ≡ true → judged_by choices c i s l ≡ refusal circle_refusal (line_of i)
    unfolding judged_by
    judged_circle q f g = rw (lt-ltb i rows_most h, e, f, judged_by, g)

    judged_placed : (q : Stand) → stood_at i s.stand r ≡ some q → circles s.words r ≡ false → judged_by choices c i s l ≡ ok (r, reader_behind s r q)
    unfolding judged_by
    judged_placed q f g = rw (lt-ltb i rows_most h, e, f, judged_by, g)

pub step_full : (choices : Bool) (c : Columns) (text : List ℕ) (at row : ℕ) (s : Reader) (start boards words : List ℕ) → rows_most ≤ row
    → StepAs choices c text at row s start boards words (Err reason.Row)
step_full choices c text at row s start boards words h = record { step = sym (judged_full choices c row s (first_line (drop at text)) h); on = tt }

module _ (choices : Bool) (c : Columns) (text : List ℕ) (at row : ℕ) (start boards : List ℕ) (messages : ℕ) (words : List ℕ) where
  abbrev reader : Reader
  reader = reader_of start boards messages words

  abbrev line : Line
  line = first_line (drop at text)

  pub step_malformed : RowAs choices c text at None → StepAs choices c text at row reader start boards words (Err reason.Row)
  step_malformed p = record { step = sym (judged_malformed choices c row reader line (sym p.row)); on = tt }

  module _ (r : Reading) (p : RowAs choices c text at (Some r)) (h : row < rows_most) (start' boards' : List ℕ) where
    abbrev row_read : Row
    row_read = row_from r.kind r.one r.two

    pub step_nowhere : PlaceAs row reader.stand row_read start' boards' None → StepAs choices c text at row reader start' boards' words (Err reason.Place)
    step_nowhere f = record { step = sym (judged_nowhere choices c row reader line row_read h (sym p.row) (sym f.stand)); on = tt }

    module _ (after : ℕ) (f : PlaceAs row reader.stand row_read start' boards' (Some after)) (few : messages ≤ messages_most) (long : length boards ≡ 2 * messages_most) where
      -- what the row brings is within the block
      pub row_within : Within messages row_read
      row_within = go row_read (sym f.stand)
        where
          go : (x : Row) → stood_at row (stand_of start boards messages) x ≡ some (stand_of start' boards' after) → Within messages x
          go (sheet n) i = tt
          go (message x y) i = message_room start boards messages row _ few long x y i
          go (order x y) i = order_there start boards messages row _ few long x y i
          go block i = tt
          go (call n) i = tt
          go (choice m n) i = tt

      module _ (words' : List ℕ) (t : Bool) (n : NotedAs words messages row_read words' t) where
        pub step_circle : t ≡ true → StepAs choices c text at row reader start' boards' words' (Err reason.Circle)
        step_circle o =
            record {
              step = sym (judged_circle choices c row reader line row_read h (sym p.row) (stand_of start' boards' after) (sym f.stand) (sym n.found ∙ o));
              on = tt;
            }

        -- the words behind the row, by the number of the block's events
        words_behind : t ≡ false → words' ≡ noted words (length (take (2 * messages) boards) / 2) row_read
        words_behind o =
            let events : length (take (2 * messages) boards) ≡ 2 * messages = length-take-le (2 * messages) boards (omega arith) in
            let half : length (take (2 * messages) boards) / 2 ≡ messages = omega arith in
            n.left ∙ rw (o, half)

        pub step_row : length words ≡ 2 * messages_most * width → t ≡ false
            → StepAs choices c text at row reader start' boards' words' (Ok (record { kind = r.kind; one = r.one; two = r.two; next = r.next; messages = after }))
        step_row l o =
            record {
              step = rw (words_behind o)
                  (sym (judged_placed choices c row reader line row_read h (sym p.row) (stand_of start' boards' after) (sym f.stand) (sym n.found ∙ o)));
              on = record {
                onward = p.next;
                room = h;
                few = f.few;
                all_starts = f.all_starts;
                all_boards = f.all_boards;
                all_words = n.long ∙ l;
              };
            }
