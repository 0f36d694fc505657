-- The cured sheet is read and walked: its rows are placed, no block of it has a circle, and the walk meets the messages and the P rows
-- that were written. Assumes nothing.
use Prim.Native.Nat.{ℕ, zero, suc, ◌+◌, ◌*◌, ◌/◌, ◌<◌, ◌≤◌}
use Prim.Native.Char.{code}
use native.Mathlib.Nat.{zero-add}
use native.Mathlib.Decide.{ℕ_discrete}
use native.Mathlib.Omega.{arith}
use mathlib.Core.Path.{◌≡◌, refl, sym, ◌∙◌, ap, subst, subst⁻¹}
use mathlib.Core.Logic.{⊎_elim, ◌↔◌}
use mathlib.Core.Bool.{Bool, true, false, cond, ◌&&◌, ◌||◌}
use mathlib.Core.List.{List, [], ◌∷◌, ◌++◌, append-nil}
use mathlib.Core.Option.{Option, none, some}
use lib.Dec.{eqb, ltb}
use lib.ListN.{length, get_or, length-append, get_or-append}
use lib.Seq.{get_or-append-add, append_snoc}
use borrow.Author.Tests.{eqb-true, eq-eqb, ne_eqb, lt-ltb, le-leb}
use Rattle.model.specs.Limits.{rows_most, boards, messages_most, text_most}
use Rattle.model.specs.Bounded.{among, same}
use Rattle.model.specs.Closure.{listed}
use Rattle.model.specs.Refusal.{Out, ok, refusal, and_then, row_refusal, place_refusal, circle_refusal}
use Rattle.model.specs.Text.{ascii, Line, fields_of, ahead_of_field, place_of, columns_of, are_columns, heading_of}
use Rattle.model.specs.Rows.{Row, sheet, message, order, formed, row_of}
use Rattle.model.specs.Place.{Place, outside, with_message, message_fits, order_fits, moved, is_sheet, placed, BlockBefore, given, paired, through, block_circle, circle_at, line_of, judged, rows_from, opens, absent_call, complete, body_of, read_of, read_with}
use Rattle.model.specs.Order.{Event, send_of, receive_of, number, event, message_of, board_of, Scenario, board}
use Rattle.model.specs.Cure.{cured_before, is_written, orders_at, orders_below, Written, message_rows, order_rows, cured_rows, rows_text, heading_text, cured_text}
use Rattle.model.proofs.Bounded.{and_left, and_right, or_cases, or_left, or_right, which, not_both}
use Rattle.model.proofs.Events.{event_number, number_event, own_both, below_number, below_event, send_event, receive_event}
use Rattle.model.proofs.Block.{own_pair_parts, listed_more, listed_first, listed_later, circle_some}
use Rattle.model.proofs.Causal.{Causal}
use Rattle.model.proofs.Cured.{cured_trans, cured_irreflexive, cured_own, cured_inside}
use Rattle.model.proofs.Rendered.{Plain, AllPlain, plain_append, line_in, lines_in, rows_lines, house, row_read, heading_line, rows_short}

-- The P rows written, by number.
module _ (S : Scenario) where
  listed_append : (x y : ℕ) (ps qs : List (ℕ × ℕ)) → listed x y (ps ++ qs) ≡ (listed x y ps || listed x y qs)
  unfolding listed
  listed_append x y [] qs = refl
  listed_append x y (p ∷ ps) qs = rw (listed_append x y ps qs) (turns (eqb x p.0 && eqb y p.1) (listed x y ps) (listed x y qs))
    where
      turns : (a b c : Bool) → (a || (b || c)) ≡ (a || b || c)
      turns true b c = refl
      turns false b c = refl

  -- one of them is written as asked
  pub record IsRow (x y : ℕ) : Type 0 where
    pub first : x < 2 * S.count
    pub second : y < 2 * S.count
    pub written : is_written S (event x) (event y) ≡ true

  at_row : (x n a b : ℕ) → listed a b (orders_at S x n) ≡ true → (a ≡ x) × (b < n) × (is_written S (event x) (event b) ≡ true)
  unfolding orders_at listed
  at_row x zero a b h = not_both false h refl
  at_row x (suc n) a b h =
      ⊎_elim
      (λ p. let q = at_row x n a b p in (q.0, omega (arith, q.1), q.2))
      (λ p. last (is_written S (event x) (event n)) refl p)
      (or_cases _ _ (sym (listed_append a b (orders_at S x n) (cond (is_written S (event x) (event n)) ((x, n) ∷ []) [])) ∙ h))
    where
      last : (t : Bool) → is_written S (event x) (event n) ≡ t → listed a b (cond t ((x, n) ∷ []) []) ≡ true
          → (a ≡ x) × (b < suc n) × (is_written S (event x) (event b) ≡ true)
      last true e p =
          ⊎_elim
          (λ q.
          let i = eqb-true a x (and_left (eqb a x) (eqb b n) q) in
          let j = eqb-true b n (and_right (eqb a x) (eqb b n) q) in
          (i, omega arith, rw j e))
          (λ q. not_both false q refl)
          (or_cases (eqb a x && eqb b n) false p)
      last false e p = not_both false p refl

  row_at : (x n b : ℕ) → b < n → is_written S (event x) (event b) ≡ true → listed x b (orders_at S x n) ≡ true
  unfolding orders_at listed
  row_at x zero b l h = absurd (omega arith)
  row_at x (suc n) b l h =
      listed_append x b (orders_at S x n) (cond (is_written S (event x) (event n)) ((x, n) ∷ []) []) ∙ go (ℕ_discrete b n) (λ k. row_at x n b k h)
    where
      here : (n : ℕ) → b ≡ n → listed x b (cond (is_written S (event x) (event n)) ((x, n) ∷ []) []) ≡ true
      here n e =
          subst (λ (m : ℕ). listed x b (cond (is_written S (event x) (event m)) ((x, m) ∷ []) []) ≡ true) e
          (rw (h, eq-eqb x x refl, eq-eqb b b refl))

      go : Dec (b ≡ n) → (b < n → listed x b (orders_at S x n) ≡ true)
          → (listed x b (orders_at S x n) || listed x b (cond (is_written S (event x) (event n)) ((x, n) ∷ []) [])) ≡ true
      go (yes e) deep = or_right (listed x b (orders_at S x n)) (listed x b (cond (is_written S (event x) (event n)) ((x, n) ∷ []) [])) (here n e)
      go (no d) deep = or_left _ _ (deep (omega arith))

  below_row : (n a b : ℕ) → listed a b (orders_below S n) ≡ true → (a < n) × (b < 2 * S.count) × (is_written S (event a) (event b) ≡ true)
  unfolding orders_below listed
  below_row zero a b h = not_both false h refl
  below_row (suc n) a b h =
      ⊎_elim
      (λ p. let q = below_row n a b p in (omega (arith, q.0), q.1, q.2))
      (λ p. let q = at_row n (2 * S.count) a b p in (omega (arith, q.0), q.1, rw q.0 q.2))
      (or_cases _ _ (sym (listed_append a b (orders_below S n) (orders_at S n (2 * S.count))) ∙ h))

  row_below : (n a b : ℕ) → a < n → b < 2 * S.count → is_written S (event a) (event b) ≡ true → listed a b (orders_below S n) ≡ true
  unfolding orders_below
  row_below zero a b l k h = absurd (omega arith)
  row_below (suc n) a b l k h =
      listed_append a b (orders_below S n) (orders_at S n (2 * S.count)) ∙ go (ℕ_discrete a n) (λ j. row_below n a b j k h)
    where
      go : Dec (a ≡ n) → (a < n → listed a b (orders_below S n) ≡ true) → (listed a b (orders_below S n) || listed a b (orders_at S n (2 * S.count))) ≡ true
      go (yes e) deep =
          or_right (listed a b (orders_below S n)) (listed a b (orders_at S n (2 * S.count)))
          (subst (λ (m : ℕ). listed a b (orders_at S m (2 * S.count)) ≡ true) e (row_at a (2 * S.count) b k h))
      go (no d) deep = or_left (listed a b (orders_below S n)) (listed a b (orders_at S n (2 * S.count))) (deep (omega arith))

  pub listed_written : (x y : ℕ) → (listed x y (orders_below S (2 * S.count)) ≡ true) ↔ IsRow x y
  listed_written x y = (
    (λ h. let p = below_row (2 * S.count) x y h in record { first = p.0; second = p.1; written = p.2 }),
    (λ r. row_below (2 * S.count) x y r.first r.second r.written),
  )

  -- The board of each event, message by message.
  unfoldable pub events_to : ℕ → List ℕ
  events_to zero = []
  events_to (suc m) = with_message (events_to m) (S.source m) (S.target m)

  pub events_length : (m : ℕ) → length (events_to m) ≡ 2 * m
  unfolding events_to
  events_length zero = refl
  events_length (suc m) = simp length-append (omega (arith, events_length m))

  pub events_at : (n m : ℕ) → m < n → (get_or (events_to n) (2 * m) 0 ≡ S.source m) × (get_or (events_to n) (2 * m + 1) 0 ≡ S.target m)
  unfolding events_to
  events_at zero m h = absurd (omega arith)
  events_at (suc n) m h = go (ℕ_discrete m n) (λ l. events_at n m l)
    where
      go : Dec (m ≡ n) → (m < n → (get_or (events_to n) (2 * m) 0 ≡ S.source m) × (get_or (events_to n) (2 * m + 1) 0 ≡ S.target m))
          → (get_or (events_to n ++ (S.source n ∷ S.target n ∷ [])) (2 * m) 0 ≡ S.source m)
          × (get_or (events_to n ++ (S.source n ∷ S.target n ∷ [])) (2 * m + 1) 0 ≡ S.target m)
      go (yes e) deep =
          let i : 2 * m ≡ length (events_to n) + 0 = omega (arith, events_length n) in
          let j : 2 * m + 1 ≡ length (events_to n) + 1 = omega (arith, events_length n) in (
            rw (i, get_or-append-add (events_to n) (S.source n ∷ S.target n ∷ []) 0 0) (ap S.source (sym e)),
            rw (j, get_or-append-add (events_to n) (S.source n ∷ S.target n ∷ []) 1 0) (ap S.target (sym e)),
          )
      go (no d) deep =
          let l : m < n = omega arith in (
            get_or-append (events_to n) (S.source n ∷ S.target n ∷ []) 0 (2 * m) (omega (arith, events_length n)) ∙ (deep l).0,
            get_or-append (events_to n) (S.source n ∷ S.target n ∷ []) 0 (2 * m + 1) (omega (arith, events_length n)) ∙ (deep l).1,
          )

  -- an event's board stands at its number
  board_of_holds : (z : Event) → message_of z < S.count → get_or (events_to S.count) (number z) 0 ≡ board S z
  unfolding message_of number board_of
  board_of_holds (send_of m) l = (events_at S.count m l).0
  board_of_holds (receive_of m) l = (events_at S.count m l).1

  pub event_board : (x : ℕ) → x < 2 * S.count → get_or (events_to S.count) x 0 ≡ board S (event x)
  event_board x h = subst (λ (k : ℕ). get_or (events_to S.count) k 0 ≡ board S (event x)) (number_event x) (board_of_holds (event x) (below_event x S.count h))

  -- The rows as the reader hands them on: message by message from k on, and pair by pair.
  unfoldable pub messages_from : ℕ → ℕ → List Row
  messages_from k zero = []
  messages_from k (suc n) = message (S.source k) (S.target k) ∷ messages_from (suc k) n

  unfoldable written_from : ℕ → ℕ → List Written
  written_from k zero = []
  written_from k (suc n) = record { letter = code "M"; one = S.source k; two = S.target k } ∷ written_from (suc k) n

  messages_split : (k n : ℕ) → message_rows S k ++ written_from k n ≡ message_rows S (k + n)
  unfolding message_rows written_from
  messages_split k zero =
      let e : k ≡ k + 0 = omega arith in
      append-nil (message_rows S k) ∙ ap (message_rows S) e
  messages_split k (suc n) =
      let e : suc k + n ≡ k + suc n = omega arith in
      sym (append_snoc (message_rows S k) (record { letter = code "M"; one = S.source k; two = S.target k }) (written_from (suc k) n))
      ∙ messages_split (suc k) n ∙ ap (message_rows S) e

  messages_from_holds : written_from 0 S.count ≡ message_rows S S.count
  unfolding message_rows
  messages_from_holds = messages_split 0 S.count ∙ ap (message_rows S) (zero-add S.count)

-- what is written is between events of the sheet
written_before : (S : Scenario) (x y : Event) → is_written S x y ≡ true → cured_before S x y ≡ true
unfolding is_written
written_before S x y h =
    let a = eqb (board S x) (board S y) in
    let b = cured_before S x y in
    and_right a b (and_left (a && b) _ (and_left _ _ h))

pub written_row : (S : Scenario) → Causal S → (x y : Event) → is_written S x y ≡ true → IsRow S (number x) (number y)
written_row S C x y h =
    let p = cured_inside S C x y (written_before S x y h) in
    record {
      first = (below_number x S.count).0 p.0;
      second = (below_number y S.count).0 p.1;
      written = rw (event_number x, event_number y) h;
    }

unfoldable pub orders_read : List (ℕ × ℕ) → List Row
orders_read [] = []
orders_read (p ∷ ps) = order p.0 p.1 ∷ orders_read ps

rows_length : (ps : List (ℕ × ℕ)) → length (order_rows ps) ≡ length ps
unfolding order_rows
rows_length [] = refl
rows_length (p ∷ ps) = ap suc (rows_length ps)

-- a row that is formed, has a place and makes no circle is taken
taken : (i : ℕ) (p q : Place) (l : Line) (r : Row) → i < rows_most → row_of false house l ≡ some r → placed p r ≡ some q → circle_at r q ≡ false
    → judged false house i p l ≡ ok (r, q)
unfolding judged
taken i p q l r h a b d =
    let e : cond (ltb i rows_most) (row_of false house l) none ≡ some r = rw (lt-ltb i rows_most h) a in
    subst⁻¹
    (λ (o : Option Row). ◌≡◌ {A = Out (Row × Place)} (elim o [
      | none ↦ refusal row_refusal (line_of i)
      | some k ↦ elim (placed p k) [
        | none ↦ refusal place_refusal (line_of i)
        | some z ↦ cond (circle_at k z) (refusal circle_refusal (line_of i)) (ok (k, z))
      ]
    ]) (ok (r, q)))
    e
    (subst⁻¹
    (λ (o : Option Place). ◌≡◌ {A = Out (Row × Place)} (elim o [
      | none ↦ refusal place_refusal (line_of i)
      | some z ↦ cond (circle_at r z) (refusal circle_refusal (line_of i)) (ok (r, z))
    ]) (ok (r, q)))
    b
    (rw d))

-- and the rows behind it follow it
follows : (i : ℕ) (p q : Place) (l : Line) (ls : List Line) (r : Row) (rs : List Row) → judged false house i p l ≡ ok (r, q)
    → rows_from false house (suc i) q ls ≡ ok rs → rows_from false house i p (l ∷ ls) ≡ ok (r ∷ rs)
unfolding rows_from
follows i p q l ls r rs a b =
    subst⁻¹
    (λ (o : Out (Row × Place)). ◌≡◌ {A = Out (List Row)} (elim o [
      | refusal number line ↦ refusal number line
      | ok rp ↦ elim (rows_from false house (suc i) rp.1 ls) [ refusal number line ↦ refusal number line | ok ks ↦ ok (rp.0 ∷ ks) ]
    ]) (ok (r ∷ rs)))
    a
    (subst⁻¹ (λ (o : Out (List Row)). ◌≡◌ {A = Out (List Row)} (elim o [ refusal number line ↦ refusal number line | ok ks ↦ ok (r ∷ ks) ]) (ok (r ∷ rs))) b refl)

module _ (S : Scenario) (C : Causal S) (few : S.count ≤ messages_most) (low : (x : Event) → board S x < boards) where
  -- the place behind k messages and some P rows
  abbrev place_at : ℕ → List (ℕ × ℕ) → Place
  place_at k orders = record { opened = 0 ∷ []; events = events_to S k; orders = orders }

  abbrev AllRows : List (ℕ × ℕ) → Type 0
  AllRows ps = (x y : ℕ) → listed x y ps ≡ true → IsRow S x y

  message_plain : (k : ℕ) → Plain (record { letter = code "M"; one = S.source k; two = S.target k })
  unfolding board_of
  message_plain k = record { no_space = refl; no_line_end = refl; one_most = omega (arith, low (send_of k)); two_most = omega (arith, low (receive_of k)) }

  order_plain : (x y : ℕ) → IsRow S x y → Plain (record { letter = code "P"; one = x; two = y })
  order_plain x y r = record { no_space = refl; no_line_end = refl; one_most = omega (arith, r.first); two_most = omega (arith, r.second) }

  -- An M row is taken.
  message_taken : (i k : ℕ) → i < rows_most → k < S.count
      → judged false house i (place_at k []) (line_in (record { letter = code "M"; one = S.source k; two = S.target k }))
      ≡ ok (message (S.source k) (S.target k), place_at (suc k) [])
  unfolding placed moved message_fits is_sheet circle_at events_to formed board_of
  message_taken i k h l =
      let room : length (events_to S k) < 2 * messages_most = omega (arith, events_length S k) in
      taken i (place_at k []) (place_at (suc k) []) _ (message (S.source k) (S.target k)) h
      (row_read (record { letter = code "M"; one = S.source k; two = S.target k }) (message_plain k))
      (rw (
        lt-ltb (S.source k) boards (low (send_of k)),
        lt-ltb (S.target k) boards (low (receive_of k)),
        lt-ltb (length (events_to S k)) (2 * messages_most) room,
      ))
      refl

  -- The order of the rows written lies in the cured order, which has no circle.
  pub written_cured : (x y : ℕ) → IsRow S x y → cured_before S (event x) (event y) ≡ true
  written_cured x y r = written_before S (event x) (event y) r.written

  written_board : (x y : ℕ) → IsRow S x y → board S (event x) ≡ board S (event y)
  unfolding is_written
  written_board x y r =
      let a = eqb (board S (event x)) (board S (event y)) in
      let b = cured_before S (event x) (event y) in
      eqb-true (board S (event x)) (board S (event y)) (and_left a b (and_left (a && b) _ (and_left _ _ r.written)))

  block_cured : (orders : List (ℕ × ℕ)) → AllRows orders → {x y : ℕ} → BlockBefore (2 * S.count) orders x y → cured_before S (event x) (event y) ≡ true
  block_cured orders all (given {x = x} {y = y} h) = written_cured x y (all x y h)
  block_cured orders all (paired {x = x} {y = y} h) =
      let p = own_pair_parts (2 * S.count) x y h in
      let i : x ≡ 2 * (x / 2) = omega (arith, p.0) in
      let j : y ≡ 2 * (x / 2) + 1 = omega (arith, p.0, p.1) in
      let a : event x ≡ send_of (x / 2) = ap event i ∙ send_event (x / 2) in
      let b : event y ≡ receive_of (x / 2) = ap event j ∙ receive_event (x / 2) in
      rw (a, b) (cured_own S C (send_of (x / 2)) (receive_of (x / 2)) (own_both S.count (x / 2) (omega (arith, p.1, p.2))))
  block_cured orders all (through {x = x} {y = y} {z = z} p q) =
      cured_trans S C (event x) (event y) (event z) (block_cured orders all p) (block_cured orders all q)

  no_block_circle : (orders : List (ℕ × ℕ)) → AllRows orders → block_circle (2 * S.count) orders ≡ false
  no_block_circle orders all =
      ⊎_elim
      (λ t. let c = circle_some (2 * S.count) orders t in absurd (cured_irreflexive S C (event c.0) (block_cured orders all c.1)))
      (λ f. f)
      (which (block_circle (2 * S.count) orders))

  all_more : (x y : ℕ) (orders : List (ℕ × ℕ)) → IsRow S x y → AllRows orders → AllRows ((x, y) ∷ orders)
  all_more x y orders r all a b h =
      ⊎_elim (λ e. subst⁻¹ (λ (k : ℕ). IsRow S k b) e.0 (subst⁻¹ (λ (k : ℕ). IsRow S x k) e.1 r)) (all a b) (listed_more x y a b orders h)

  nothing_listed : (x y : ℕ) → listed x y [] ≡ true → IsRow S x y
  unfolding listed
  nothing_listed x y h = not_both false h refl

  -- A P row is taken.
  order_taken : (i x y : ℕ) (orders : List (ℕ × ℕ)) → i < rows_most → IsRow S x y → AllRows orders
      → judged false house i (place_at S.count orders) (line_in (record { letter = code "P"; one = x; two = y }))
      ≡ ok (order x y, place_at S.count ((x, y) ∷ orders))
  unfolding placed moved order_fits is_sheet circle_at formed
  order_taken i x y orders h r all =
      let n = events_length S S.count in
      let apart : x ≡ y → ⊥ = λ e. cured_irreflexive S C (event x) (subst⁻¹ (λ (k : ℕ). cured_before S (event x) (event k) ≡ true) e (written_cured x y r)) in
      let same : get_or (events_to S S.count) x 0 ≡ get_or (events_to S S.count) y 0 =
      event_board S x r.first ∙ written_board x y r ∙ sym (event_board S y r.second) in
      taken i (place_at S.count orders) (place_at S.count ((x, y) ∷ orders)) _ (order x y) h
      (row_read (record { letter = code "P"; one = x; two = y }) (order_plain x y r))
      (rw (n, lt-ltb x (2 * S.count) r.first, lt-ltb y (2 * S.count) r.second, ne_eqb x y apart, eq-eqb _ _ same))
      (rw n (no_block_circle ((x, y) ∷ orders) (all_more x y orders r all)))

  orders_taken : (i : ℕ) (ps orders : List (ℕ × ℕ)) → i + length ps ≤ rows_most → AllRows ps → AllRows orders
      → rows_from false house i (place_at S.count orders) (lines_in (order_rows ps)) ≡ ok (orders_read ps)
  unfolding lines_in order_rows orders_read rows_from
  orders_taken i [] orders h all done = refl
  orders_taken i (p ∷ ps) orders h all done =
      let r = all p.0 p.1 (listed_first p.0 p.1 ps) in
      follows i (place_at S.count orders) (place_at S.count (p ∷ orders)) _ (lines_in (order_rows ps)) (order p.0 p.1) (orders_read ps)
      (order_taken i p.0 p.1 orders (omega arith) r done)
      (orders_taken (suc i) ps (p ∷ orders) (omega arith) (λ x y h. all x y (listed_later p.0 p.1 x y ps h)) (all_more p.0 p.1 orders r done))

  messages_taken : (n k : ℕ) (ps : List (ℕ × ℕ)) → k + n ≡ S.count → suc S.count + length ps ≤ rows_most → AllRows ps
      → rows_from false house (suc k) (place_at k []) (lines_in (written_from S k n ++ order_rows ps)) ≡ ok (messages_from S k n ++ orders_read ps)
  unfolding lines_in written_from messages_from
  messages_taken zero k ps e h all =
      let i : S.count ≡ k = omega arith in
      subst (λ (j : ℕ). rows_from false house (suc j) (place_at j []) (lines_in (order_rows ps)) ≡ ok (orders_read ps)) i
      (orders_taken (suc S.count) ps [] h all none_yet)
    where
      none_yet : AllRows []
      none_yet x y t = nothing_listed x y t
  messages_taken (suc n) k ps e h all =
      follows (suc k) (place_at k []) (place_at (suc k) []) _ (lines_in (written_from S (suc k) n ++ order_rows ps)) (message (S.source k) (S.target k))
      (messages_from S (suc k) n ++ orders_read ps)
      (message_taken (suc k) k (omega arith) (omega arith))
      (messages_taken n (suc k) ps (omega arith) h all)

  -- The whole text.
  abbrev pairs : List (ℕ × ℕ)
  pairs = orders_below S (2 * S.count)

  abbrev pub rows_written : List Row
  rows_written = sheet 0 ∷ (messages_from S 0 S.count ++ orders_read pairs)

  all_rows : AllRows pairs
  all_rows x y h = (listed_written S x y).0 h

  pub messages_length : (n : ℕ) → length (message_rows S n) ≡ n
  unfolding message_rows
  messages_length zero = refl
  messages_length (suc n) = simp length-append (omega (arith, messages_length n))

  pub rows_count : length (cured_rows S) ≡ suc S.count + length pairs
  unfolding cured_rows
  rows_count = simp length-append (omega (arith, messages_length S.count, rows_length pairs))

  module _ (fits : length (cured_rows S) ≤ rows_most) where
    sheet_taken : judged false house 0 outside (line_in (record { letter = code "S"; one = 0; two = 0 })) ≡ ok (sheet 0, place_at 0 [])
    unfolding placed moved is_sheet circle_at events_to formed among
    sheet_taken =
        taken 0 outside (place_at 0 []) _ (sheet 0) (omega arith)
        (row_read (record { letter = code "S"; one = 0; two = 0 }) (record { no_space = refl; no_line_end = refl; one_most = omega arith; two_most = omega arith }))
        refl refl

    rows_taken : rows_from false house 0 outside (lines_in (cured_rows S)) ≡ ok rows_written
    unfolding cured_rows lines_in
    rows_taken =
        follows 0 outside (place_at 0 []) _ (lines_in (message_rows S S.count ++ order_rows pairs)) (sheet 0) (messages_from S 0 S.count ++ orders_read pairs)
        sheet_taken
        (subst (λ (ms : List Written). rows_from false house 1 (place_at 0 []) (lines_in (ms ++ order_rows pairs)) ≡ ok (messages_from S 0 S.count ++ orders_read pairs))
        (messages_from_holds S)
        (messages_taken S.count 0 pairs (zero-add S.count) (omega (arith, rows_count)) all_rows))

    -- no row calls, and sheet 0 is there
    no_absent_order : (present : List ℕ) (i : ℕ) (ps : List (ℕ × ℕ)) → absent_call present i (orders_read ps) ≡ none
    unfolding absent_call orders_read
    no_absent_order present i [] = refl
    no_absent_order present i (p ∷ ps) = no_absent_order present (suc i) ps

    no_absent : (present : List ℕ) (i k n : ℕ) (ps : List (ℕ × ℕ)) → absent_call present i (messages_from S k n ++ orders_read ps) ≡ none
    unfolding absent_call messages_from
    no_absent present i k zero ps = no_absent_order present i ps
    no_absent present i k (suc n) ps = no_absent present (suc i) (suc k) n ps

    all_there : complete rows_written ≡ ok rows_written
    unfolding complete opens among absent_call
    all_there = rw (no_absent (opens rows_written) 1 0 S.count pairs)

    orders_plain : (ps : List (ℕ × ℕ)) → AllRows ps → AllPlain (order_rows ps)
    unfolding order_rows
    orders_plain [] all = tt
    orders_plain (p ∷ ps) all =
        (order_plain p.0 p.1 (all p.0 p.1 (listed_first p.0 p.1 ps)), orders_plain ps (λ x y h. all x y (listed_later p.0 p.1 x y ps h)))

    messages_plain : (n : ℕ) → AllPlain (message_rows S n)
    unfolding message_rows
    messages_plain zero = tt
    messages_plain (suc n) = plain_append (message_rows S n) _ (messages_plain n) (message_plain n, tt)

    all_plain : AllPlain (cured_rows S)
    unfolding cured_rows
    all_plain = (
      record { no_space = refl; no_line_end = refl; one_most = omega arith; two_most = omega arith },
      plain_append (message_rows S S.count) (order_rows pairs) (messages_plain S.count) (orders_plain pairs all_rows),
    )

    pub text_short : length (cured_text S) ≤ text_most
    unfolding cured_text heading_text ascii
    text_short = simp length-append (omega (arith, rows_short (cured_rows S) all_plain))

    text_some : 0 < length (cured_text S)
    unfolding cured_text heading_text ascii
    text_some = simp length-append (omega arith)

    pub cured_read : read_of (cured_text S) ≡ ok rows_written
    unfolding read_with body_of cured_text heading_of columns_of are_columns place_of ascii fields_of ahead_of_field same and_then
    cured_read =
        rw (
          lt-ltb 0 (length (cured_text S)) text_some,
          le-leb (length (cured_text S)) text_most text_short,
          heading_line (rows_text (cured_rows S)),
          rows_lines (cured_rows S) all_plain,
          rows_taken,
          all_there,
        )
