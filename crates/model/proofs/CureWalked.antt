-- The walk of the cured sheet meets the messages of the old one in one block, and its "before" is the cured order. Assumes nothing.
use Prim.Native.Nat.{ℕ, zero, suc, ◌+◌, ◌*◌, ◌<◌, ◌≤◌}
use native.Mathlib.Nat.{zero-add}
use native.Mathlib.Omega.{arith}
use mathlib.Core.Path.{◌≡◌, refl, sym, ◌∙◌, subst, subst⁻¹}
use mathlib.Core.Logic.{⊎_elim, ◌↔◌}
use mathlib.Core.Bool.{Bool, true, false, ◌&&◌, ◌||◌}
use mathlib.Core.List.{List, [], ◌∷◌, ◌++◌}
use lib.Dec.{eqb}
use lib.ListN.{length, get_or}
use borrow.Author.Tests.{eq-eqb, lt-ltb}
use Rattle.model.specs.Limits.{rows_most, boards, messages_most}
use Rattle.model.specs.Closure.{listed}
use Rattle.model.specs.Refusal.{Out, ok, refusal, and_then, messages_refusal}
use Rattle.model.specs.Expansion.{Progress, start_of, message_met, order_met, walk_rows, expand}
use Rattle.model.specs.Order.{Event, send_of, receive_of, number, message_of, Exchange, is_own, is_earlier, Scenario, scenario_of, board, Met, nothing_met, met_ops, exchange_of}
use Rattle.model.specs.Answer.{expanded_with, sheet_of}
use Rattle.model.specs.Cure.{cured_before, is_written, orders_below, cured_rows, cured_text, SameMessages}
use Rattle.model.proofs.Bounded.{or_cases, or_left, not_both}
use Rattle.model.proofs.Events.{event_number, own_parts, own_both, below_number}
use Rattle.model.proofs.Causal.{Causal}
use Rattle.model.proofs.Order.{RowsInside, earlier_parts, before_row, before_own, before_transitive, before_least}
use Rattle.model.proofs.Cured.{cured_trans, cured_own, chain}
use Rattle.model.proofs.WrittenBack.{IsRow, listed_written, events_to, events_at, messages_from, orders_read, rows_written, cured_read, written_cured, written_row}

-- the P rows as the walk keeps them, the last first
unfoldable pub orders_kept : List (ℕ × ℕ) → List (ℕ × ℕ) → List (ℕ × ℕ)
orders_kept [] kept = kept
orders_kept (p ∷ ps) kept = orders_kept ps ((2 * 0 + p.0, 2 * 0 + p.1) ∷ kept)

kept_listed : (x y : ℕ) (ps kept : List (ℕ × ℕ)) → listed x y (orders_kept ps kept) ≡ (listed x y ps || listed x y kept)
unfolding orders_kept listed
kept_listed x y [] kept = refl
kept_listed x y (p ∷ ps) kept =
    let i : 2 * 0 + p.0 ≡ p.0 = omega arith in
    let j : 2 * 0 + p.1 ≡ p.1 = omega arith in
    kept_listed x y ps ((2 * 0 + p.0, 2 * 0 + p.1) ∷ kept) ∙ rw (i, j) (turns (eqb x p.0 && eqb y p.1) (listed x y ps) (listed x y kept))
  where
    turns : (a b c : Bool) → (b || (a || c)) ≡ (a || b || c)
    turns true true c = refl
    turns true false c = refl
    turns false b c = refl

-- the messages' blocks: all in one
unfoldable pub zeros_to : ℕ → List ℕ
zeros_to zero = []
zeros_to (suc m) = zeros_to m ++ (0 ∷ [])

zeros_more : (l : List ℕ) (k : ℕ) → ((j : ℕ) → get_or l j 0 ≡ 0) → get_or (l ++ (0 ∷ [])) k 0 ≡ 0
zeros_more [] zero h = refl
zeros_more [] (suc k) h = refl
zeros_more (a ∷ l) zero h = h 0
zeros_more (a ∷ l) (suc k) h = zeros_more l k (λ j. h (suc j))

zeros_at : (m k : ℕ) → get_or (zeros_to m) k 0 ≡ 0
unfolding zeros_to
zeros_at zero k = refl
zeros_at (suc m) k = zeros_more (zeros_to m) k (zeros_at m)

module _ (S : Scenario) (C : Causal S) (few : S.count ≤ messages_most) (low : (x : Event) → board S x < boards) where
  abbrev pub progress_at : ℕ → List (ℕ × ℕ) → Progress Met
  progress_at k orders =
      record { walk = record { calls = 0; first = 0; count = k; choices = 0 }; kept = record { events = events_to S k; blocks = zeros_to k; orders = orders; open' = 0 } }

  abbrev pub pairs : List (ℕ × ℕ)
  pairs = orders_below S (2 * S.count)

  orders_walked : (call_of : Bool → ℕ → ℕ → Progress Met → Out (Progress Met)) (ps kept : List (ℕ × ℕ)) (line : ℕ)
      → walk_rows met_ops [] call_of (orders_read ps) line (progress_at S.count kept) ≡ ok (progress_at S.count (orders_kept ps kept))
  unfolding walk_rows orders_read orders_kept order_met met_ops
  orders_walked call_of [] kept line = refl
  orders_walked call_of (p ∷ ps) kept line = orders_walked call_of ps ((2 * 0 + p.0, 2 * 0 + p.1) ∷ kept) (suc line)

  messages_walked : (call_of : Bool → ℕ → ℕ → Progress Met → Out (Progress Met)) (n k line : ℕ) → k + n ≡ S.count
      → walk_rows met_ops [] call_of (messages_from S k n ++ orders_read pairs) line (progress_at k []) ≡ ok (progress_at S.count (orders_kept pairs []))
  unfolding walk_rows messages_from message_met met_ops events_to zeros_to
  messages_walked call_of zero k line e =
      let i : S.count ≡ k = omega arith in
      subst (λ (j : ℕ). walk_rows met_ops [] call_of (orders_read pairs) line (progress_at j []) ≡ ok (progress_at S.count (orders_kept pairs []))) i
      (orders_walked call_of pairs [] line)
  messages_walked call_of (suc n) k line e =
      let l : k < messages_most = omega arith in
      subst⁻¹
      (λ (b : Bool). ◌≡◌ {A = Out (Progress Met)} (elim b [
        | true ↦ walk_rows met_ops [] call_of (messages_from S (suc k) n ++ orders_read pairs) (suc line) (progress_at (suc k) [])
        | false ↦ refusal messages_refusal line
      ]) (ok (progress_at S.count (orders_kept pairs []))))
      (lt-ltb k messages_most l)
      (messages_walked call_of n (suc k) (suc line) (omega arith))

  abbrev pub walked : Progress Met
  walked = progress_at S.count (orders_kept pairs [])

  cured_walked : expand met_ops [] (rows_written S C few low) nothing_met ≡ ok walked
  unfolding expand start_of events_to zeros_to
  cured_walked = messages_walked _ S.count 0 _ (zero-add S.count)

  -- The exchange that is met, and its order.
  abbrev pub met : Exchange
  met = exchange_of walked

  ordered_row : (x y : Event) → met.ordered x y ≡ true → IsRow S (number x) (number y)
  unfolding exchange_of listed
  ordered_row x y h =
      ⊎_elim (listed_written S (number x) (number y)).0 (λ t. none_listed t)
      (or_cases (listed (number x) (number y) pairs) (listed (number x) (number y) []) (sym (kept_listed (number x) (number y) pairs []) ∙ h))
    where
      none_listed : listed (number x) (number y) [] ≡ true → IsRow S (number x) (number y)
      none_listed t = not_both false t refl

  row_ordered : (x y : Event) → IsRow S (number x) (number y) → met.ordered x y ≡ true
  unfolding exchange_of
  row_ordered x y r = kept_listed (number x) (number y) pairs [] ∙ or_left _ (listed (number x) (number y) []) ((listed_written S (number x) (number y)).1 r)

  rows_inside : RowsInside met
  unfolding exchange_of
  rows_inside x y h =
      let r = ordered_row x y h in
      ((below_number x S.count).1 r.first, (below_number y S.count).1 r.second)

  row_cured : (x y : Event) → met.ordered x y ≡ true → cured_before S x y ≡ true
  row_cured x y h = rw (event_number x, event_number y) at (written_cured S C few low (number x) (number y) (ordered_row x y h))

  own_cured : (x y : Event) → is_own met.count x y ≡ true → cured_before S x y ≡ true
  unfolding exchange_of
  own_cured x y h = let p = own_parts met.count x y h in go p.0 p.1 p.2 p.3
    where
      go : (m : ℕ) → x ≡ send_of m → y ≡ receive_of m → m < S.count → cured_before S x y ≡ true
      go m a b l = rw (a, b) (cured_own S C (send_of m) (receive_of m) (own_both S.count m l))

  -- all messages are of one block
  earlier_cured : (x y : Event) → is_earlier met x y ≡ true → cured_before S x y ≡ true
  unfolding exchange_of
  earlier_cured x y h =
      let p = (earlier_parts met x y h).later_block in
      absurd (omega (arith, zeros_at S.count (message_of x), zeros_at S.count (message_of y)))

  written_before : (x y : Event) → is_written S x y ≡ true → (scenario_of met).before x y ≡ true
  written_before x y h = before_row met rows_inside x y (row_ordered x y (written_row S C x y h))

  own_before : (x y : Event) → is_own S.count x y ≡ true → (scenario_of met).before x y ≡ true
  unfolding exchange_of is_own
  own_before x y h = let p = own_parts S.count x y h in go p.0 p.1 p.2 p.3
    where
      go : (m : ℕ) → x ≡ send_of m → y ≡ receive_of m → m < S.count → (scenario_of met).before x y ≡ true
      go m a b l = rw (a, b) (before_own met (send_of m) (receive_of m) (rw (eq-eqb m m refl, lt-ltb m S.count l)))

  pub cured_met : (x y : Event) → ((scenario_of met).before x y ≡ true) ↔ (cured_before S x y ≡ true)
  cured_met x y = (
    before_least met (λ a b. cured_before S a b ≡ true) row_cured own_cured earlier_cured (cured_trans S C) x y,
    chain S C (λ a b. (scenario_of met).before a b ≡ true) written_before own_before (before_transitive met) x y,
  )

  -- So the text is accepted, with the same messages.
  pub cured_sheet : length (cured_rows S) ≤ rows_most → sheet_of (cured_text S) ≡ ok (scenario_of met)
  unfolding sheet_of expanded_with and_then
  cured_sheet fits = rw (cured_read S C few low fits, cured_walked)

  pub cured_messages : SameMessages S (scenario_of met)
  unfolding scenario_of exchange_of
  cured_messages =
      record {
        counts = refl;
        sources = λ m l. (events_at S S.count m l).0;
        targets = λ m l. (events_at S S.count m l).1;
      }
