-- What stands directly before a send, as the words have it, is what the model writes: for the scenario of a sheet. Assumes nothing.
use mathlib.Core.Path.{◌≡◌, refl, sym, ◌∙◌, ap, subst, subst⁻¹}
use mathlib.Core.Logic.{⊎_elim}
use mathlib.Core.Bool.{Bool, true, false, not, cond, ◌&&◌, ◌||◌}
use mathlib.Core.List.{List, [], ◌∷◌, ◌++◌, append-nil}
use Prim.Native.Nat.{ℕ, zero, suc, ◌+◌, ◌*◌, ◌/◌, ◌%◌, ◌<◌, ◌≤◌}
use Prim.Native.Char.{code}
use native.Mathlib.Omega.{arith}
use lib.Dec.{eqb}
use lib.ListN.{get_or}
use borrow.Author.Tests.{eqb-true, eq-eqb, lt-ltb}
use Rattle.model.specs.Limits.{messages_most}
use Rattle.model.specs.Bounded.{any}
use Rattle.model.specs.Order.{Event, send_of, receive_of, number, event, board_of, Scenario}
use Rattle.model.specs.Cure.{cured_before, is_between, is_written, orders_at, orders_below, Written, message_rows, order_rows, cured_rows}
use Rattle.model.proofs.Bounded.{and_left, and_right, and_both, or_cases, or_left, or_right, any_from, any_some, both_ways}
use Rattle.model.proofs.Events.{number_event, no_own_send, send_event, receive_event, at_or_before_cases, at_or_before_same}
use Rattle.model.proofs.Causal.{Causal}
use Rattle.model.proofs.Cured.{to_send_holds, from_send, to_receive, from_receive, written_to_send}
use Rattle.relation.specs.Width.{width}
use Rattle.relation.specs.Rows.{holds}
use Rattle.relation.specs.Scenario.{scenario_in}
use Rattle.relation.proofs.Scenario.{before_at, board_at}
use Rattle.covers.specs.Covers.{is_hidden_by, hidden_at, received_at, cover_at, CoverRows}
use Rattle.order_count.specs.Orders.{orders_from, orders_to}
use Rattle.cured_sheet.specs.Sheet.{messages_in, sheet_row, rows_in}

module _ (count : ℕ) (boards words : List ℕ) (few : count ≤ messages_most) (C : Causal (scenario_in count boards words)) where
  abbrev S : Scenario
  S = scenario_in count boards words

  -- "before" of a send is its row
  in_row : (x e : ℕ) → x < 2 * count → e < count → S.before (event x) (send_of e) ≡ holds width words (2 * e) x
  in_row x e h l = subst (λ (y : Event). S.before (event x) y ≡ holds width words (2 * e) x) (send_event e) (before_at count boards words x (2 * e) h (omega arith))

  -- What stands between event x and e's send.
  module _ (x e : ℕ) (h : x < 2 * count) (l : e < count) where
    between_send : (k : ℕ) → k < count → is_hidden_by words e x k ≡ true → is_between S (event x) (send_of e) (2 * k) ≡ true
    unfolding is_between
    between_send k g t =
        let a = holds width words (2 * e) (2 * k) in
        let b = holds width words (2 * k) x in
        let first : cured_before S (event x) (send_of k) ≡ true = to_send_holds S C (event x) k (in_row x k h g ∙ and_right a b t) in
        let second : cured_before S (event (2 * k)) (send_of e) ≡ true = to_send_holds S C (event (2 * k)) e (in_row (2 * k) e (omega arith) l ∙ and_left a b t) in
        and_both (cured_before S (event x) (event (2 * k))) (cured_before S (event (2 * k)) (send_of e))
        (subst⁻¹ (λ (y : Event). cured_before S (event x) y ≡ true) (send_event k) first) second

    between_receive : received_at words e x ≡ true → is_between S (event x) (send_of e) (x + 1) ≡ true
    unfolding is_between received_at
    between_receive t =
        let even : x % 2 ≡ 0 = eqb-true (x % 2) 0 (and_left (eqb (x % 2) 0) (holds width words (2 * e) (x + 1)) t) in
        let held = and_right (eqb (x % 2) 0) (holds width words (2 * e) (x + 1)) t in
        let i : x ≡ 2 * (x / 2) = omega arith in
        let j : x + 1 ≡ 2 * (x / 2) + 1 = omega arith in
        let a : event x ≡ send_of (x / 2) = ap event i ∙ send_event (x / 2) in
        let b : event (x + 1) ≡ receive_of (x / 2) = ap event j ∙ receive_event (x / 2) in
        let own : cured_before S (event x) (receive_of (x / 2)) ≡ true =
        to_receive S C (event x) (x / 2) (omega arith) (at_or_before_same S (event x) (send_of (x / 2)) a) in
        and_both (cured_before S (event x) (event (x + 1))) (cured_before S (event (x + 1)) (send_of e))
        (subst⁻¹ (λ (y : Event). cured_before S (event x) y ≡ true) b own)
        (to_send_holds S C (event (x + 1)) e (in_row (x + 1) e (omega arith) l ∙ held))

    -- one that is hidden by message m's send
    hidden_by : (m : ℕ) → m < count → holds width words (2 * e) (2 * m) ≡ true → holds width words (2 * m) x ≡ true
        → (hidden_at words count e x || received_at words e x) ≡ true
    unfolding hidden_at
    hidden_by m g p q =
        or_left (any count (is_hidden_by words e x)) (received_at words e x)
        (any_from count (is_hidden_by words e x) m g (and_both (holds width words (2 * e) (2 * m)) (holds width words (2 * m) x) p q))

    -- one whose own receive stands between
    received : (m : ℕ) → m < count → x ≡ 2 * m → holds width words (2 * e) (2 * m + 1) ≡ true → (hidden_at words count e x || received_at words e x) ≡ true
    unfolding received_at
    received m g i p =
        let even : x % 2 ≡ 0 = omega arith in
        let j : 2 * m + 1 ≡ x + 1 = omega arith in
        or_right (hidden_at words count e x) (eqb (x % 2) 0 && holds width words (2 * e) (x + 1))
        (and_both (eqb (x % 2) 0) (holds width words (2 * e) (x + 1)) (eq-eqb (x % 2) 0 even) (subst (λ (k : ℕ). holds width words (2 * e) k ≡ true) j p))

    by_event_holds : (z : Event) (k : ℕ) → event k ≡ z → k < 2 * count → cured_before S (event x) z ≡ true → cured_before S z (send_of e) ≡ true
        → (hidden_at words count e x || received_at words e x) ≡ true
    unfolding number
    by_event_holds (send_of m) k i g p q =
        let at : k ≡ 2 * m = sym (number_event k) ∙ ap number i in
        let row = from_send S C (send_of m) e q in
        hidden_by m (omega arith)
        (sym (in_row (2 * m) e (omega arith) l) ∙ subst⁻¹ (λ (y : Event). S.before y (send_of e) ≡ true) (send_event m) row)
        (sym (in_row x m h (omega arith)) ∙ from_send S C (event x) m p)
    by_event_holds (receive_of m) k i g p q =
        let r = from_receive S C (event x) m p in
        let at : k ≡ 2 * m + 1 = sym (number_event k) ∙ ap number i in
        let row = from_send S C (receive_of m) e q in
        ⊎_elim
        (λ same.
        received m r.0 (sym (number_event x) ∙ ap number same)
        (sym (in_row (2 * m + 1) e (omega arith) l) ∙ subst⁻¹ (λ (y : Event). S.before y (send_of e) ≡ true) (receive_event m) row))
        (λ earlier.
        hidden_by m r.0
        (sym (in_row (2 * m) e (omega arith) l)
        ∙ subst⁻¹ (λ (y : Event). S.before y (send_of e) ≡ true) (send_event m) (C.trans (send_of m) (receive_of m) (send_of e) (C.own m r.0) row))
        (sym (in_row x m h r.0) ∙ earlier))
        (at_or_before_cases S (event x) (send_of m) r.1)

    hides : any (2 * count) (is_between S (event x) (send_of e)) ≡ true → (hidden_at words count e x || received_at words e x) ≡ true
    unfolding is_between
    hides t =
        let s = any_some (2 * count) (is_between S (event x) (send_of e)) t in
        let a = cured_before S (event x) (event s.0) in
        let b = cured_before S (event s.0) (send_of e) in
        by_event_holds (event s.0) s.0 refl s.1 (and_left a b s.2) (and_right a b s.2)

    received_inside : received_at words e x ≡ true → x + 1 < 2 * count
    unfolding received_at
    received_inside t =
        let even : x % 2 ≡ 0 = eqb-true (x % 2) 0 (and_left (eqb (x % 2) 0) (holds width words (2 * e) (x + 1)) t) in
        omega arith

    shows : (hidden_at words count e x || received_at words e x) ≡ true → any (2 * count) (is_between S (event x) (send_of e)) ≡ true
    unfolding hidden_at
    shows t =
        ⊎_elim
        (λ hid. let s = any_some count (is_hidden_by words e x) hid in
        any_from (2 * count) (is_between S (event x) (send_of e)) (2 * s.0) (omega (arith, s.1)) (between_send s.0 s.1 s.2))
        (λ rec. any_from (2 * count) (is_between S (event x) (send_of e)) (x + 1) (received_inside rec) (between_receive rec))
        (or_cases (any count (is_hidden_by words e x)) (received_at words e x) t)

    pub written_is : is_written S (event x) (send_of e) ≡ cover_at words boards count e x
    unfolding is_written cover_at cured_before board_of
    written_is =
        rw (
          board_at count boards words x,
          in_row x e h l,
          both_ways (any (2 * count) (is_between S (event x) (send_of e))) (hidden_at words count e x || received_at words e x) hides shows,
          no_own_send S.count (event x) e,
          lt-ltb x (2 * count) h,
        )
        (turns (eqb (get_or boards x 0) (get_or boards (2 * e) 0)) (holds width words (2 * e) x) (hidden_at words count e x || received_at words e x))
      where
        turns : (q p r : Bool) → (q && p && not r && true) ≡ (p && not r && q)
        turns true true true = refl
        turns true true false = refl
        turns true false r = refl
        turns false true true = refl
        turns false true false = refl
        turns false false r = refl

  -- So the rows are the model's.
  module _ (made : List ℕ) (R : CoverRows count boards words made) where
    orders_at_holds : (x e : ℕ) → x < 2 * count → e ≤ count → orders_at S x (2 * e) ≡ orders_from made x e
    unfolding orders_at orders_from
    orders_at_holds x zero h l = refl
    orders_at_holds x (suc e) h l =
        let i : 2 * suc e ≡ suc (suc (2 * e)) = omega arith in
        let j : suc (2 * e) ≡ 2 * e + 1 = omega arith in
        let to : event (suc (2 * e)) ≡ receive_of e = ap event j ∙ receive_event e in
        let none : is_written S (event x) (event (suc (2 * e))) ≡ false =
        subst⁻¹ (λ (y : Event). is_written S (event x) y ≡ false) to (written_to_send S C (event x) e) in
        let one : is_written S (event x) (event (2 * e)) ≡ holds width made (2 * e + 1) x =
        ap (is_written S (event x)) (send_event e) ∙ written_is x e h l ∙ sym (R.rows e x l (omega arith)) in
        ap (orders_at S x) i
        ∙ ap (λ (b : Bool). orders_at S x (2 * e) ++ cond (is_written S (event x) (event (2 * e))) ((x, 2 * e) ∷ []) [] ++ cond b ((x, suc (2 * e)) ∷ []) []) none
        ∙ append-nil (orders_at S x (2 * e) ++ cond (is_written S (event x) (event (2 * e))) ((x, 2 * e) ∷ []) [])
        ∙ ap (λ (b : Bool). orders_at S x (2 * e) ++ cond b ((x, 2 * e) ∷ []) []) one
        ∙ ap (λ (ps : List (ℕ × ℕ)). ps ++ cond (holds width made (2 * e + 1) x) ((x, 2 * e) ∷ []) []) (orders_at_holds x e h (omega arith))

    orders_below_holds : (x : ℕ) → x ≤ 2 * count → orders_below S x ≡ orders_to made count x
    unfolding orders_below orders_to
    orders_below_holds zero h = refl
    orders_below_holds (suc x) h =
        ap (λ (ps : List (ℕ × ℕ)). ps ++ orders_at S x (2 * count)) (orders_below_holds x (omega arith))
        ∙ ap (λ (ps : List (ℕ × ℕ)). orders_to made count x ++ ps) (orders_at_holds x count h (omega arith))

    messages_same : (m : ℕ) → message_rows S m ≡ messages_in boards m
    unfolding message_rows
    messages_same zero = refl
    messages_same (suc m) =
        ap (λ (rs : List Written). rs ++ (record { letter = code "M"; one = get_or boards (2 * m) 0; two = get_or boards (2 * m + 1) 0 } ∷ [])) (messages_same m)

    pub rows_same : rows_in count boards made ≡ cured_rows S
    unfolding rows_in cured_rows
    rows_same =
        sym
        (ap (λ (rs : List Written). sheet_row ∷ rs ++ order_rows (orders_below S (2 * count))) (messages_same count)
        ∙ ap (λ (ps : List (ℕ × ℕ)). sheet_row ∷ messages_in boards count ++ order_rows ps) (orders_below_holds (2 * count) (omega arith)))
