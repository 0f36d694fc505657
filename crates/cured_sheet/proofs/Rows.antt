-- The rows are written one behind the other, and there is room for all. Assumes nothing.
use mathlib.Core.Path.{◌≡◌, refl, sym, ◌∙◌, ap, subst, subst⁻¹, subst₂}
use mathlib.Core.Bool.{Bool, true, false, not}
use mathlib.Core.List.{List, [], ◌∷◌, ◌++◌, append-nil, append_assoc}
use Prim.Native.Nat.{ℕ, zero, suc, ◌+◌, ◌*◌, ◌-◌, ◌/◌, ◌%◌, ◌<◌, ◌≤◌}
use Prim.Native.Char.{code}
use native.Mathlib.Numerals.{add-one}
use native.Mathlib.Omega.{arith}
use lib.ListN.{length, get_or, length-append}
use borrow.Author.Tests.{not-true, not-false}
use Rattle.model.specs.Limits.{rows_most, sheet_output_least}
use Rattle.model.specs.Text.{ascii}
use Rattle.model.specs.Cure.{Written, message_rows, order_rows, row_text, rows_text, heading_text}
use Rattle.relation.specs.Width.{width, word_bits}
use Rattle.relation.specs.Rows.{has, holds}
use Rattle.sheet_text.specs.Writing.{Writes, row_of, row_bytes_most, heading_bytes}
use Rattle.sheet_text.proofs.Putting.{rest_from, with_rest, writes_same, rest_written, rest_room, row_few, writes_none}
use Rattle.order_count.specs.Orders.{orders_from, orders_to}
use Rattle.cured_sheet.specs.Sheet.{message_row, messages_in, order_if, sheet_row, head_text, listed_text, head_most, rows_in, text_in}
use Rattle.cured_sheet.specs.declared.Span.{Span}
use Rattle.cured_sheet.specs.Spans.{SpanOf, SpanHeld}
use Rattle.cured_sheet.proofs.Spans.{held_none, held_next, none_first, none_last, none_at_all}

rows_append : (rs ks : List Written) → rows_text (rs ++ ks) ≡ rows_text rs ++ rows_text ks
unfolding rows_text
rows_append [] ks = refl
rows_append (r ∷ rs) ks = ap (λ (t : List ℕ). row_text r ++ t) (rows_append rs ks) ∙ sym (append_assoc (row_text r) (rows_text rs) (rows_text ks))

rows_one : (r : Written) → rows_text (r ∷ []) ≡ row_text r
unfolding rows_text
rows_one r = append-nil (row_text r)

orders_append : (ps qs : List (ℕ × ℕ)) → order_rows (ps ++ qs) ≡ order_rows ps ++ order_rows qs
unfolding order_rows
orders_append [] qs = refl
orders_append (p ∷ ps) qs = ap (λ (l : List Written). record { letter = code "P"; one = p.0; two = p.1 } ∷ l) (orders_append ps qs)

text_append : (ps qs : List (ℕ × ℕ)) → rows_text (order_rows (ps ++ qs)) ≡ rows_text (order_rows ps) ++ rows_text (order_rows qs)
text_append ps qs = ap rows_text (orders_append ps qs) ∙ rows_append (order_rows ps) (order_rows qs)

-- A text is written in rows: so many bytes at most, and the rest is as long as it was.
pub record Rowed (text rest now : List ℕ) (at rows : ℕ) : Type 0 where
  pub written : Writes text rest now at
  pub few : at ≤ row_bytes_most * rows
  pub same : length now ≡ length rest

rowed_more : (a b l now rest : List ℕ) (at m rows more : ℕ) → Rowed a l now at rows → Writes b (rest_from at now) rest m → m ≤ row_bytes_most * more
    → Rowed (a ++ b) l (with_rest at now rest) (at + m) (rows + more)
rowed_more a b l now rest at m rows more r w few =
    let whole = rest_written a b l now rest at m r.written w in
    record { written = whole; few = omega (arith, r.few); same = writes_same (a ++ b) l (with_rest at now rest) (at + m) whole }

-- a row with the boards that were read
pub message_writes : (boards rest exit : List ℕ) (m a b n : ℕ) → a ≡ get_or boards (2 * m) 0 → b ≡ get_or boards (2 * m + 1) 0
    → Writes (row_text (row_of 77 a b)) rest exit n → Writes (row_text (message_row boards m)) rest exit n
message_writes boards rest exit m a b n e f w = subst₂ (λ (i j : ℕ). Writes (row_text (row_of 77 i j)) rest exit n) e f w

-- The M rows below m are written.
module _ (boards : List ℕ) (count : ℕ) where
  pub record Messages (rest now : List ℕ) (at m : ℕ) : Type 0 where
    pub rowed : Rowed (rows_text (messages_in boards m)) rest now at m
    pub most : m ≤ count

  pub messages_none : (rest : List ℕ) → Messages rest rest 0 0
  unfolding message_rows rows_text
  messages_none rest = record { rowed = record { written = writes_none rest; few = omega arith; same = refl }; most = omega arith }

  more_text : (m : ℕ) → rows_text (messages_in boards (m + 1)) ≡ rows_text (messages_in boards m) ++ row_text (message_row boards m)
  unfolding message_rows
  more_text m =
      ap (λ (k : ℕ). rows_text (messages_in boards k)) (add-one m)
      ∙ rows_append (messages_in boards m) (message_row boards m ∷ [])
      ∙ ap (λ (t : List ℕ). rows_text (messages_in boards m) ++ t) (rows_one (message_row boards m))

  pub messages_more : (rest now exit : List ℕ) (at m k : ℕ) → Messages rest now at m → m < count
      → Writes (row_text (message_row boards m)) (rest_from at now) exit k → Messages rest (with_rest at now exit) (at + k) (m + 1)
  messages_more rest now exit at m k g h w =
      let r = message_row boards m in
      record {
        rowed =
            subst⁻¹ (λ (t : List ℕ). Rowed t rest (with_rest at now exit) (at + k) (m + 1)) (more_text m)
            (rowed_more (rows_text (messages_in boards m)) (row_text r) rest now exit at k m 1 g.rowed w (omega (arith, row_few r, w.long)));
        most = omega arith;
      }

  pub messages_all : (rest now : List ℕ) (at m : ℕ) → Messages rest now at m → count ≤ m
      → Writes (rows_text (messages_in boards count)) rest now at
  messages_all rest now at m g h =
      let e : m ≡ count = omega (arith, g.most) in
      subst (λ (k : ℕ). Writes (rows_text (messages_in boards k)) rest now at) e g.rowed.written

  pub messages_few : (rest now : List ℕ) (at m : ℕ) → Messages rest now at m → at ≤ row_bytes_most * count
  messages_few rest now at m g = omega (arith, g.rowed.few, g.most)

-- The P row of one event with one send.
module _ (words : List ℕ) (x e : ℕ) (t : Bool) (s : t ≡ holds width words (2 * e + 1) x) where
  pub order_none : (rest : List ℕ) → not t ≡ true → Writes (rows_text (order_rows (order_if words x e))) rest rest 0
  unfolding order_rows rows_text
  order_none rest f = rw (← s, not-true t f) (writes_none rest)

  pub order_one : (rest exit : List ℕ) (k : ℕ) → not t ≡ false → Writes (row_text (row_of 80 x (2 * e))) rest exit k
      → Writes (rows_text (order_rows (order_if words x e))) rest exit k
  unfolding order_rows
  order_one rest exit k f w = rw (← s, not-false t f, rows_one (row_of 80 x (2 * e))) w

orders_few : (ps : List (ℕ × ℕ)) → length (rows_text (order_rows ps)) ≤ row_bytes_most * length ps
unfolding order_rows rows_text
orders_few [] = omega arith
orders_few (p ∷ ps) =
    let r = row_of 80 p.0 p.1 in
    omega (arith, length-append (row_text r) (rows_text (order_rows ps)), row_few r, orders_few ps)

-- a list that grows by appending is never shorter
growing : (f g : ℕ → List (ℕ × ℕ)) → ((k : ℕ) → f (suc k) ≡ f k ++ g k) → (a n : ℕ) → length (f a) ≤ length (f (a + n))
growing f g step a zero = let e : a ≡ a + 0 = omega arith in omega (arith, ap (λ (k : ℕ). length (f k)) e)
growing f g step a (suc n) =
    let e : suc (a + n) ≡ a + suc n = omega arith in
    omega (arith, ap (λ (k : ℕ). length (f k)) e, ap length (step (a + n)), length-append (f (a + n)) (g (a + n)), growing f g step a n)

-- The P rows of an event, by the sends.
module _ (words : List ℕ) (count x : ℕ) where
  from_step : (k : ℕ) → orders_from words x (suc k) ≡ orders_from words x k ++ order_if words x k
  unfolding orders_from
  from_step k = refl

  from_most : (e : ℕ) → e ≤ count → length (orders_from words x e) ≤ length (orders_from words x count)
  from_most e h =
      let i : e + (count - e) ≡ count = omega arith in
      subst (λ (k : ℕ). length (orders_from words x e) ≤ length (orders_from words x k)) i
      (growing (orders_from words x) (order_if words x) from_step e (count - e))

  pub record From (rest now : List ℕ) (at e : ℕ) : Type 0 where
    pub rowed : Rowed (rows_text (order_rows (orders_from words x e))) rest now at (length (orders_from words x e))
    pub most : e ≤ count

  none_written : (rest : List ℕ) → Rowed (rows_text (order_rows (orders_from words x 0))) rest rest 0 (length (orders_from words x 0))
  unfolding orders_from order_rows rows_text
  none_written rest = record { written = writes_none rest; few = omega arith; same = refl }

  pub from_first : (rest : List ℕ) (span : Span) → SpanOf words count (x / word_bits) span → From rest rest 0 span.first
  from_first rest span s =
      record {
        rowed = subst (λ (l : List (ℕ × ℕ)). Rowed (rows_text (order_rows l)) rest rest 0 (length l)) (none_first words count x span s) (none_written rest);
        most = s.first.most;
      }

  pub from_nothing : (rest : List ℕ) (span : Span) (t : Bool) → SpanOf words count (x / word_bits) span → t ≡ has span.events (x % word_bits) → not t ≡ true
      → Writes (rows_text (order_rows (orders_from words x count))) rest rest 0
  from_nothing rest span t s e f =
      subst (λ (l : List (ℕ × ℕ)). Writes (rows_text (order_rows l)) rest rest 0) (none_at_all words count x span s (sym e ∙ not-true t f)) (none_written rest).written

  pub from_room : (rest now : List ℕ) (at e : ℕ) → From rest now at e → row_bytes_most * length (orders_from words x count) + row_bytes_most ≤ length rest
      → row_bytes_most ≤ length (rest_from at now)
  from_room rest now at e g room =
      rest_room (rows_text (order_rows (orders_from words x e))) rest now at row_bytes_most g.rowed.written (omega (arith, g.rowed.few, from_most e g.most))

  pub from_more : (rest now exit : List ℕ) (at e k : ℕ) (span : Span) → From rest now at e → SpanOf words count (x / word_bits) span → e < span.end → Writes (rows_text (order_rows (order_if words x e))) (rest_from at now) exit k
      → From rest (with_rest at now exit) (at + k) (e + 1)
  from_more rest now exit at e k span g s h w =
      let more = rowed_more (rows_text (order_rows (orders_from words x e))) (rows_text (order_rows (order_if words x e))) rest now exit at k
      (length (orders_from words x e)) (length (order_if words x e)) g.rowed w (omega (arith, orders_few (order_if words x e), w.long)) in
      let text : rows_text (order_rows (orders_from words x (suc e))) ≡ rows_text (order_rows (orders_from words x e)) ++ rows_text (order_rows (order_if words x e)) =
      ap (λ (l : List (ℕ × ℕ)). rows_text (order_rows l)) (from_step e) ∙ text_append (orders_from words x e) (order_if words x e) in
      let rows : length (orders_from words x (suc e)) ≡ length (orders_from words x e) + length (order_if words x e) =
      ap length (from_step e) ∙ length-append (orders_from words x e) (order_if words x e) in
      record {
        rowed =
            subst⁻¹ (λ (j : ℕ). Rowed (rows_text (order_rows (orders_from words x j))) rest (with_rest at now exit) (at + k) (length (orders_from words x j))) (add-one e)
            (subst⁻¹ (λ (t : List ℕ). Rowed t rest (with_rest at now exit) (at + k) (length (orders_from words x (suc e)))) text
            (subst⁻¹ (λ (n : ℕ). Rowed (rows_text (order_rows (orders_from words x e)) ++ rows_text (order_rows (order_if words x e))) rest (with_rest at now exit) (at + k) n) rows more));
        most = omega (arith, s.last.most);
      }

  pub from_all : (rest now : List ℕ) (at e : ℕ) (span : Span) → From rest now at e → SpanOf words count (x / word_bits) span → span.end ≤ e
      → Writes (rows_text (order_rows (orders_from words x count))) rest now at
  from_all rest now at e span g s h =
      subst (λ (l : List (ℕ × ℕ)). Writes (rows_text (order_rows l)) rest now at) (none_last words count x span s e h g.most) g.rowed.written

-- All P rows, by the events.
module _ (words : List ℕ) (count : ℕ) where
  to_step : (k : ℕ) → orders_to words count (suc k) ≡ orders_to words count k ++ orders_from words k count
  unfolding orders_to
  to_step k = refl

  to_most : (x : ℕ) → x ≤ 2 * count → length (orders_to words count x) ≤ length (orders_to words count (2 * count))
  to_most x h =
      let i : x + (2 * count - x) ≡ 2 * count = omega arith in
      subst (λ (k : ℕ). length (orders_to words count x) ≤ length (orders_to words count k)) i
      (growing (orders_to words count) (λ k. orders_from words k count) to_step x (2 * count - x))

  pub record To (rest now : List ℕ) (at : ℕ) (span : Span) (x : ℕ) : Type 0 where
    pub rowed : Rowed (rows_text (order_rows (orders_to words count x))) rest now at (length (orders_to words count x))
    pub most : x ≤ 2 * count
    pub held : SpanHeld words count x span

  pub to_none : (rest : List ℕ) (span : Span) → To rest rest 0 span 0
  unfolding orders_to order_rows rows_text
  to_none rest span =
      record {
        rowed = record { written = writes_none rest; few = omega arith; same = refl };
        most = omega arith;
        held = held_none words count span;
      }

  pub to_room : (rest now : List ℕ) (at x : ℕ) (span : Span) → To rest now at span x → x < 2 * count → row_bytes_most * length (orders_to words count (2 * count)) + row_bytes_most ≤ length rest
      → row_bytes_most * length (orders_from words x count) + row_bytes_most ≤ length (rest_from at now)
  to_room rest now at x span g h room =
      let next : length (orders_to words count (suc x)) ≡ length (orders_to words count x) + length (orders_from words x count) =
      ap length (to_step x) ∙ length-append (orders_to words count x) (orders_from words x count) in
      rest_room (rows_text (order_rows (orders_to words count x))) rest now at (row_bytes_most * length (orders_from words x count) + row_bytes_most) g.rowed.written
      (omega (arith, g.rowed.few, to_most (suc x) h))

  pub to_more : (rest now exit : List ℕ) (at x k : ℕ) (span next : Span) → To rest now at span x → x < 2 * count → SpanOf words count (x / word_bits) next → Writes (rows_text (order_rows (orders_from words x count))) (rest_from at now) exit k
      → To rest (with_rest at now exit) (at + k) next (x + 1)
  to_more rest now exit at x k span next g h s w =
      let more = rowed_more (rows_text (order_rows (orders_to words count x))) (rows_text (order_rows (orders_from words x count))) rest now exit at k
      (length (orders_to words count x)) (length (orders_from words x count)) g.rowed w (omega (arith, orders_few (orders_from words x count), w.long)) in
      let text : rows_text (order_rows (orders_to words count (suc x))) ≡ rows_text (order_rows (orders_to words count x)) ++ rows_text (order_rows (orders_from words x count)) =
      ap (λ (l : List (ℕ × ℕ)). rows_text (order_rows l)) (to_step x) ∙ text_append (orders_to words count x) (orders_from words x count) in
      let rows : length (orders_to words count (suc x)) ≡ length (orders_to words count x) + length (orders_from words x count) =
      ap length (to_step x) ∙ length-append (orders_to words count x) (orders_from words x count) in
      record {
        rowed =
            subst⁻¹ (λ (j : ℕ). Rowed (rows_text (order_rows (orders_to words count j))) rest (with_rest at now exit) (at + k) (length (orders_to words count j))) (add-one x)
            (subst⁻¹ (λ (t : List ℕ). Rowed t rest (with_rest at now exit) (at + k) (length (orders_to words count (suc x)))) text
            (subst⁻¹ (λ (n : ℕ). Rowed (rows_text (order_rows (orders_to words count x)) ++ rows_text (order_rows (orders_from words x count))) rest (with_rest at now exit) (at + k) n) rows more));
        most = omega arith;
        held = held_next words count x next s;
      }

  pub to_all : (rest now : List ℕ) (at x : ℕ) (span : Span) → To rest now at span x → 2 * count ≤ x → Writes (rows_text (order_rows (orders_to words count (2 * count)))) rest now at
  to_all rest now at x span g h =
      let i : x ≡ 2 * count = omega (arith, g.most) in
      subst (λ (k : ℕ). Writes (rows_text (order_rows (orders_to words count k))) rest now at) i g.rowed.written

messages_long : (boards : List ℕ) (m : ℕ) → length (messages_in boards m) ≡ m
unfolding message_rows
messages_long boards zero = refl
messages_long boards (suc m) = length-append (messages_in boards m) _ ∙ omega (arith, messages_long boards m)

orders_long : (ps : List (ℕ × ℕ)) → length (order_rows ps) ≡ length ps
unfolding order_rows
orders_long [] = refl
orders_long (p ∷ ps) = ap suc (orders_long ps)

pub rows_count : (boards words : List ℕ) (count : ℕ) → length (rows_in count boards words) ≡ 1 + count + length (orders_to words count (2 * count))
unfolding rows_in
rows_count boards words count =
    let orders = orders_to words count (2 * count) in
    omega (arith, length-append (messages_in boards count) (order_rows orders), messages_long boards count, orders_long orders)

-- The sheet, part by part: the room that is left for the next, and what is written with it.
module _ (l now exit : List ℕ) (at k : ℕ) where
  heading_long : Writes heading_text l now at → at ≡ heading_bytes
  unfolding heading_text ascii
  heading_long w = w.long

  pub head_room : Writes heading_text l now at → head_most ≤ length l → row_bytes_most ≤ length (rest_from at now)
  head_room w room = rest_room heading_text l now at row_bytes_most w (omega (arith, heading_long w))

  pub head_written : Writes heading_text l now at → Writes (row_text sheet_row) (rest_from at now) exit k
      → Writes head_text l (with_rest at now exit) (at + k)
  head_written w v = rest_written heading_text (row_text sheet_row) l now exit at k w v

  pub head_few : Writes heading_text l now at → Writes (row_text sheet_row) (rest_from at now) exit k → at + k ≤ head_most
  head_few w v = omega (arith, heading_long w, v.long, row_few sheet_row)

  module _ (boards : List ℕ) (count : ℕ) where
    pub listed_room : Writes head_text l now at → at ≤ head_most → head_most + row_bytes_most * count ≤ length l → row_bytes_most * count ≤ length (rest_from at now)
    listed_room w few room = rest_room head_text l now at (row_bytes_most * count) w (omega arith)

    pub listed_written : Writes head_text l now at → Writes (rows_text (messages_in boards count)) (rest_from at now) exit k
        → Writes (listed_text boards count) l (with_rest at now exit) (at + k)
    listed_written w v = rest_written head_text (rows_text (messages_in boards count)) l now exit at k w v

    pub sheet_room : (words : List ℕ) → Writes (listed_text boards count) l now at → at ≤ head_most + row_bytes_most * count → sheet_output_least ≤ length l
        → length (rows_in count boards words) ≤ rows_most → row_bytes_most * length (orders_to words count (2 * count)) + row_bytes_most ≤ length (rest_from at now)
    sheet_room words w few room rows =
        rest_room (listed_text boards count) l now at (row_bytes_most * length (orders_to words count (2 * count)) + row_bytes_most) w (omega (arith, rows_count boards words count))

    pub sheet_written : (words : List ℕ) → Writes (listed_text boards count) l now at
        → Writes (rows_text (order_rows (orders_to words count (2 * count)))) (rest_from at now) exit k → Writes (text_in count boards words) l (with_rest at now exit) (at + k)
    unfolding text_in rows_in rows_text
    sheet_written words w v =
        let ms = messages_in boards count in
        let os = order_rows (orders_to words count (2 * count)) in
        let text : (heading_text ++ row_text sheet_row) ++ rows_text ms ++ rows_text os ≡ heading_text ++ (row_text sheet_row ++ rows_text (ms ++ os)) =
        append_assoc (heading_text ++ row_text sheet_row) (rows_text ms) (rows_text os)
        ∙ ap (λ (t : List ℕ). (heading_text ++ row_text sheet_row) ++ t) (sym (rows_append ms os))
        ∙ append_assoc heading_text (row_text sheet_row) (rows_text (ms ++ os)) in
        subst (λ (t : List ℕ). Writes t l (with_rest at now exit) (at + k)) text
        (rest_written (listed_text boards count) (rows_text os) l now exit at k w v)
