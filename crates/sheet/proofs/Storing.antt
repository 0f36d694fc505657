-- The loop over the rows keeps to `Reading`: each row judged, and stored. Assumes nothing.
use Prim.Native.Nat.{ℕ, zero, suc, ◌+◌, ◌-◌, ◌*◌, ◌≤◌, ◌<◌}
use native.Mathlib.Nat.{add-zero, zero-add}
use native.Mathlib.Numerals.{add-one}
use native.Mathlib.Omega.{arith}
use mathlib.Core.Path.{◌≡◌, refl, sym, ◌∙◌, ap}
use mathlib.Core.Bool.{Bool}
use mathlib.Core.List.{List, [], ◌∷◌, ◌++◌}
use lib.ListN.{length, get_or, drop, set, replicate, length-set, length-replicate, drop_of_length-le}
use lib.Seq.{get_or-set_same, get_or-set_other}
use Rattle.std.specs.Prelude.{Result, Ok, Err}
use Rattle.outcome.specs.declared.Reason.{Reason}
use Rattle.outcome.specs.declared.Refusal.{Refusal}
use Rattle.outcome.specs.Refusals.{number_in}
use Rattle.model.specs.Limits.{sheets, rows_most, messages_most}
use Rattle.model.specs.Refusal.{Out, ok, refusal}
use Rattle.model.specs.Text.{Line, Columns, lines_of}
use Rattle.model.specs.Rows.{Row}
use Rattle.model.specs.Place.{line_of}
use Rattle.line.specs.Scan.{first_line, behind_line}
use Rattle.line.proofs.Lines.{lines_at}
use Rattle.relation.specs.Width.{width}
use Rattle.row.specs.Judged.{Reader, reader_of, judged_by, StepAs}
use Rattle.row.specs.declared.Step.{Step}
use Rattle.presence.specs.AbsentCalls.{presence_in}
use Rattle.sheet.specs.Bridge.{row_from, rows_at, rows_of, store_of, Sized}
use Rattle.sheet.specs.Store.{BodyAs}
use Rattle.sheet.proofs.Reading.{Kept, ahead_of, read_from, fresh}
use Rattle.sheet.proofs.Body.{verdict_on, body_refused, body_complete}

-- rows ahead of the one that is stored, and that one
rows_set : (kind one two : List ℕ) (row k a b i n : ℕ) → i + n ≤ row
    → rows_at (set kind row k) (set one row a) (set two row b) i n ≡ rows_at kind one two i n
unfolding rows_at
rows_set kind one two row k a b i zero h = refl
rows_set kind one two row k a b i (suc n) h =
    rw (
      get_or-set_other kind row i k 0 (λ e. omega arith),
      get_or-set_other one row i a 0 (λ e. omega arith),
      get_or-set_other two row i b 0 (λ e. omega arith),
      rows_set kind one two row k a b (suc i) n (omega arith),
    )

rows_snoc : (kind one two : List ℕ) (i n : ℕ)
    → rows_at kind one two i (suc n) ≡ rows_at kind one two i n ++ (row_from (get_or kind (i + n) 0) (get_or one (i + n) 0) (get_or two (i + n) 0) ∷ [])
unfolding rows_at
rows_snoc kind one two i zero = rw add-zero
rows_snoc kind one two i (suc n) =
    let e : suc i + n ≡ i + suc n = omega arith in
    ap (λ (l : List Row). row_from (get_or kind i 0) (get_or one i 0) (get_or two i 0) ∷ l)
    (rows_snoc kind one two (suc i) n
    ∙ ap (λ (j : ℕ). rows_at kind one two (suc i) n ++ (row_from (get_or kind j 0) (get_or one j 0) (get_or two j 0) ∷ [])) e)

-- rows ahead of what is still to be read
pub ahead_all : List Row → Out Kept → Out Kept
ahead_all [] o = o
ahead_all (r ∷ rs) o = ahead_of r (ahead_all rs o)

ahead_snoc : (rs : List Row) (r : Row) (o : Out Kept) → ahead_all (rs ++ (r ∷ [])) o ≡ ahead_all rs (ahead_of r o)
unfolding ahead_all
ahead_snoc [] r o = refl
ahead_snoc (q ∷ rs) r o = ap (ahead_of q) (ahead_snoc rs r o)

ahead_refused : (rs : List Row) (number line : ℕ) → ahead_all rs (refusal number line) ≡ refusal number line
unfolding ahead_all ahead_of
ahead_refused [] number line = refl
ahead_refused (r ∷ rs) number line = ap (ahead_of r) (ahead_refused rs number line)

ahead_all_holds : (rs : List Row) (starts : List ℕ) → ahead_all rs (ok (record { rows = []; starts = starts })) ≡ ok (record { rows = rs; starts = starts })
unfolding ahead_all ahead_of
ahead_all_holds [] starts = refl
ahead_all_holds (r ∷ rs) starts = ap (ahead_of r) (ahead_all_holds rs starts)

-- one row judged, and the others behind it
read_ok : (choices : Bool) (c : Columns) (i : ℕ) (s : Reader) (l : Line) (ls : List Line) (r : Row) (q : Reader) → ok (r, q) ≡ judged_by choices c i s l
    → read_from choices c i s (l ∷ ls) ≡ ahead_of r (read_from choices c (suc i) q ls)
unfolding read_from
read_ok choices c i s l ls r q e = rw (← e, read_from)

read_refused : (choices : Bool) (c : Columns) (i : ℕ) (s : Reader) (l : Line) (ls : List Line) (number line' : ℕ) → refusal number line' ≡ judged_by choices c i s l
    → read_from choices c i s (l ∷ ls) ≡ refusal number line'
unfolding read_from
read_refused choices c i s l ls number line' e = rw (← e, read_from)

-- the loop over the rows: those read, and what the reader holds; it began with the words lent
pub record Looping (choices : Bool) (c : Columns) (text : List ℕ) (first at row messages : ℕ) (kind one two start boards lent words : List ℕ) : Type 0 where
  pub inside : at ≤ length text
  pub few : messages ≤ messages_most
  pub count : row ≤ rows_most
  pub sized : Sized (store_of kind one two start)
  pub all_boards : length boards ≡ 2 * messages_most
  pub all_lent : length lent ≡ 2 * messages_most * width
  pub all_words : length words ≡ 2 * messages_most * width
  pub read : read_from choices c 0 (fresh lent) (lines_of (drop first text))
      ≡ ahead_all (rows_of kind one two row) (read_from choices c row (reader_of start boards messages words) (lines_of (drop at text)))

pub loop_begin : (choices : Bool) (c : Columns) (text : List ℕ) (first : ℕ) (kind one two start words : List ℕ) → first ≤ length text → Sized (store_of kind one two start)
    → length words ≡ 2 * messages_most * width
    → Looping choices c text first first 0 0 kind one two (replicate sheets 0) (replicate (2 * messages_most) 0) words words
unfolding ahead_all rows_at
loop_begin choices c text first kind one two start words h z l =
    record {
      inside = h;
      few = omega arith;
      count = omega arith;
      sized = record { kind = z.kind; one = z.one; two = z.two; start = length-replicate {A = ℕ} sheets 0 };
      all_boards = length-replicate {A = ℕ} (2 * messages_most) 0;
      all_lent = l;
      all_words = l;
      read = refl;
    }

module _ (choices : Bool) (c : Columns) (text : List ℕ) (first at row messages : ℕ) (kind one two start boards lent words start' boards' words' : List ℕ)
    (v : Looping choices c text first at row messages kind one two start boards lent words) (h : at < length text) where
  -- what is read, with the line at the position ahead of the others
  read_line : read_from choices c 0 (fresh lent) (lines_of (drop first text))
      ≡ ahead_all (rows_of kind one two row) (read_from choices c row (reader_of start boards messages words) (first_line (drop at text) ∷ lines_of (behind_line (drop at text))))
  read_line = v.read ∙ ap (λ (ls : List Line). ahead_all (rows_of kind one two row) (read_from choices c row (reader_of start boards messages words) ls)) (lines_at text at h)

  pub loop_refused : (reason : Reason) → StepAs choices c text at row (reader_of start boards messages words) start' boards' words' (Err reason)
      → BodyAs choices c text first (store_of kind one two start') (Err (record { reason = reason; line = row + 2 }))
  loop_refused reason p =
      let number : ℕ = number_in reason in
      body_refused choices c text first kind one two start' lent v.all_lent (record { reason = reason; line = row + 2 })
      (read_line ∙ ap (ahead_all (rows_of kind one two row)) (read_refused choices c row _ _ _ number (line_of row) p.step)
      ∙ ahead_refused (rows_of kind one two row) number (line_of row))

  module _ (s : Step) (stepped : StepAs choices c text at row (reader_of start boards messages words) start' boards' words' (Ok s)) where
    pub loop_room : row < rows_most
    loop_room = stepped.on.room

    pub loop_further : length text - s.next < length text - at
    loop_further = omega (arith, stepped.on.onward.further, stepped.on.onward.inside)

    rows_more : rows_of (set kind row s.kind) (set one row s.one) (set two row s.two) (suc row) ≡ rows_of kind one two row ++ (row_from s.kind s.one s.two ∷ [])
    rows_more =
        rows_snoc (set kind row s.kind) (set one row s.one) (set two row s.two) 0 row
        ∙ rw (
          zero-add row,
          rows_set kind one two row s.kind s.one s.two 0 row (omega arith),
          get_or-set_same kind row s.kind 0 (omega (arith, loop_room, v.sized.kind)),
          get_or-set_same one row s.one 0 (omega (arith, loop_room, v.sized.one)),
          get_or-set_same two row s.two 0 (omega (arith, loop_room, v.sized.two)),
        )

    pub loop_more : Looping choices c text first s.next (row + 1) s.messages (set kind row s.kind) (set one row s.one) (set two row s.two) start' boards' lent words'
    loop_more =
        let on = stepped.on in
        let rest : Out Kept = read_from choices c (suc row) (reader_of start' boards' s.messages words') (lines_of (drop s.next text)) in
        let new : read_from choices c row (reader_of start boards messages words) (first_line (drop at text) ∷ lines_of (behind_line (drop at text))) ≡ ahead_of (row_from s.kind s.one s.two) rest =
        read_ok choices c row _ _ _ (row_from s.kind s.one s.two) (reader_of start' boards' s.messages words') stepped.step
        ∙ ap (λ (l : List ℕ). ahead_of (row_from s.kind s.one s.two) (read_from choices c (suc row) (reader_of start' boards' s.messages words') (lines_of l))) (sym on.onward.behind) in
        record {
          inside = on.onward.inside;
          few = on.few;
          count = omega (arith, on.room);
          sized = record {
            kind = length-set kind row s.kind ∙ v.sized.kind;
            one = length-set one row s.one ∙ v.sized.one;
            two = length-set two row s.two ∙ v.sized.two;
            start = on.all_starts;
          };
          all_boards = on.all_boards;
          all_lent = v.all_lent;
          all_words = on.all_words;
          read = rw (add-one row) (read_line ∙ ap (ahead_all (rows_of kind one two row)) new ∙ sym (ahead_snoc (rows_of kind one two row) (row_from s.kind s.one s.two) rest)
              ∙ ap (λ (l : List Row). ahead_all l rest) (sym rows_more));
        }

pub loop_done : (choices : Bool) (c : Columns) (text : List ℕ) (first at row messages : ℕ) (kind one two start boards lent words : List ℕ) (f : Result (Unit {0}) Refusal)
    → Looping choices c text first at row messages kind one two start boards lent words → length text ≤ at → f ≡ presence_in kind one two start row
    → BodyAs choices c text first (store_of kind one two start) (verdict_on f row)
unfolding read_from lines_of
loop_done choices c text first at row messages kind one two start boards lent words f v h g =
    let d : drop at text ≡ [] = drop_of_length-le text h in
    body_complete choices c text first kind one two start lent v.all_lent row (verdict_on f row)
    (v.read ∙ ap (λ (l : List ℕ). ahead_all (rows_of kind one two row) (read_from choices c row (reader_of start boards messages words) (lines_of l))) d
    ∙ ahead_all_holds (rows_of kind one two row) start)
    v.count v.sized (ap (λ (x : Result (Unit {0}) Refusal). verdict_on x row) g)
