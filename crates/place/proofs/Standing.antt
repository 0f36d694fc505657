-- Each way through the tests of a row's place is that of specs/Stand. Assumes nothing.
use Prim.Native.Nat.{ℕ, suc, ◌+◌, ◌*◌, ◌≤◌, ◌<◌}
use Prim.Native.Char.{code}
use native.Mathlib.Omega.{arith}
use mathlib.Core.Path.{◌≡◌, refl, sym, ◌∙◌, ap}
use mathlib.Core.Bool.{Bool, true, false, cond, ◌&&◌, ◌||◌, or-true}
use mathlib.Core.List.{List, [], ◌∷◌, ◌++◌, append_assoc}
use mathlib.Core.Option.{Option, none, some}
use borrow.Author.Tests.{lt-ltb, le-ltb, eq-eqb, ne_eqb, ltb-true}
use lib.Dec.{eqb, ltb}
use lib.ListN.{length, get_or, take, set, length-set, get_or-eq_default}
use lib.Seq.{length-take-le, get_or-take, take-suc-set}
use Rattle.std.specs.Prelude as code
use Rattle.std.specs.Prelude.{Some, None}
use Rattle.std.specs.Bool.{then_some}
use Rattle.model.proofs.Bounded.{and_right}
use Rattle.model.proofs.Standing.{cond_some}
use Rattle.model.proofs.Walked.{order_parts}
use Rattle.model.specs.Limits.{sheets, boards, messages_most}
use Rattle.model.specs.Rows.{Row, sheet, message, order, block, call, choice}
use Rattle.model.specs.Place.{with_message, message_fits, order_fits, is_sheet}
use Rattle.place.specs.Stand.{Stand, is_open, may_open, moved_to, stood_at, stand_of, placed_as, FewMessages, BlockAs, PlaceAs}
use Rattle.place.specs.Letters.{row_from}
use Rattle.place.proofs.Letters.{row_sheet, row_message, row_order, row_call, row_choice, row_block}

-- the table of starts
module _ (starts : List ℕ) (n : ℕ) (long : length starts ≡ sheets) where
  pub open_beyond : sheets ≤ n → false ≡ is_open starts n
  unfolding is_open
  open_beyond h = rw (get_or-eq_default starts 0 {n = n} (omega arith))

  pub may_not_beyond : sheets ≤ n → false ≡ may_open starts n
  unfolding may_open
  may_not_beyond h = rw (le-ltb n sheets h)

  pub may_not_again : n < sheets → (get_or starts n 0 ≡ 0 → ⊥) → false ≡ may_open starts n
  unfolding may_open is_open
  may_not_again h k = rw (lt-ltb n sheets h, ne_eqb (get_or starts n 0) 0 k)

  pub may_open_holds : n < sheets → get_or starts n 0 ≡ 0 → true ≡ may_open starts n
  unfolding may_open is_open
  may_open_holds h k = rw (lt-ltb n sheets h, k)

-- the boards of the open block's events
module _ (bs : List ℕ) (m : ℕ) (few : m ≤ messages_most) (long : length bs ≡ 2 * messages_most) where
  events : length (take (2 * m) bs) ≡ 2 * m
  events = length-take-le (2 * m) bs (omega arith)

  module _ (a b : ℕ) where
    pub no_source : boards ≤ a → false ≡ message_fits (take (2 * m) bs) a b
    unfolding message_fits
    no_source h = rw (le-ltb a boards h)

    pub no_target : a < boards → boards ≤ b → false ≡ message_fits (take (2 * m) bs) a b
    unfolding message_fits
    no_target h k = rw (lt-ltb a boards h, le-ltb b boards k)

    pub no_room : a < boards → b < boards → messages_most ≤ m → false ≡ message_fits (take (2 * m) bs) a b
    unfolding message_fits
    no_room h k l = rw (lt-ltb a boards h, lt-ltb b boards k, events, le-ltb (2 * m) (2 * messages_most) (omega arith))

    pub message_fits_holds : a < boards → b < boards → m < messages_most → true ≡ message_fits (take (2 * m) bs) a b
    unfolding message_fits
    message_fits_holds h k l = rw (lt-ltb a boards h, lt-ltb b boards k, events, lt-ltb (2 * m) (2 * messages_most) (omega arith))

  module _ (x y : ℕ) where
    pub no_first : 2 * m ≤ x → false ≡ order_fits (take (2 * m) bs) x y
    unfolding order_fits
    no_first h = rw (events, le-ltb x (2 * m) h)

    pub no_second : x < 2 * m → 2 * m ≤ y → false ≡ order_fits (take (2 * m) bs) x y
    unfolding order_fits
    no_second h k = rw (events, lt-ltb x (2 * m) h, le-ltb y (2 * m) k)

    pub no_two_events : x < 2 * m → y < 2 * m → x ≡ y → false ≡ order_fits (take (2 * m) bs) x y
    unfolding order_fits
    no_two_events h k e = rw (events, lt-ltb x (2 * m) h, lt-ltb y (2 * m) k, eq-eqb x y e)

    pub order_fits_holds : x < 2 * m → y < 2 * m → (x ≡ y → ⊥) → eqb (get_or bs x 0) (get_or bs y 0) ≡ order_fits (take (2 * m) bs) x y
    unfolding order_fits
    order_fits_holds h k e =
        rw (events, lt-ltb x (2 * m) h, lt-ltb y (2 * m) k, ne_eqb x y e, get_or-take (2 * m) bs x 0 h, get_or-take (2 * m) bs y 0 k)

-- a row that is no S row
not_sheet : (k a b : ℕ) → (k ≡ code "S" → ⊥) → is_sheet (row_from k a b) ≡ false
unfolding row_from is_sheet
not_sheet k a b h = rw (ne_eqb k (code "S") h) (go (eqb k (code "M")) (eqb k (code "P")) (eqb k (code "C")) (eqb k (code "A")))
  where
    go : (x y z w : Bool) → is_sheet (cond x (message a b) (cond y (order a b) (cond z (call a) (cond w (choice a b) block)))) ≡ false
    go true y z w = refl
    go false true z w = refl
    go false false true w = refl
    go false false false true = refl
    go false false false false = refl

-- a message that fits is not one too many
room : (bs : List ℕ) (m a b : ℕ) → m ≤ messages_most → length bs ≡ 2 * messages_most → message_fits (take (2 * m) bs) a b ≡ true → m < messages_most
unfolding message_fits
room bs m a b few long h =
    let l : length (take (2 * m) bs) < 2 * messages_most = ltb-true (length (take (2 * m) bs)) (2 * messages_most) (and_right (ltb a boards && ltb b boards) (ltb (length (take (2 * m) bs)) (2 * messages_most)) h) in
    omega (arith, events bs m few long)

-- an M row that has its place fits, and so does a P row
module _ (i : ℕ) (s q : Stand) where
  stood_moved : (r : Row) → stood_at i s r ≡ some q → moved_to i s r ≡ some q
  unfolding stood_at
  stood_moved r e = go (is_sheet r || ltb 0 i) (moved_to i s r) e
    where
      go : (t : Bool) (o : Option Stand) → cond t o none ≡ some q → o ≡ some q
      go true o h = h
      go false o h = let z : ◌≡◌ {A = ℕ} 0 1 = cc in absurd (omega arith)

  stood_message : (a b : ℕ) → stood_at i s (message a b) ≡ some q → message_fits s.events a b ≡ true
  unfolding moved_to
  stood_message a b e = (cond_some (message_fits s.events a b) _ q (stood_moved (message a b) e)).0

  stood_order : (x y : ℕ) → stood_at i s (order x y) ≡ some q → order_fits s.events x y ≡ true
  unfolding moved_to
  stood_order x y e = (cond_some (order_fits s.events x y) _ q (stood_moved (order x y) e)).0

module _ (starts bs : List ℕ) (m i : ℕ) (q : Stand) (few : m ≤ messages_most) (long : length bs ≡ 2 * messages_most) where
  pub message_room : (a b : ℕ) → stood_at i (stand_of starts bs m) (message a b) ≡ some q → m < messages_most
  message_room a b e = room bs m a b few long (stood_message i (stand_of starts bs m) q a b e)

  pub order_there : (x y : ℕ) → stood_at i (stand_of starts bs m) (order x y) ≡ some q → (x < 2 * m) × (y < 2 * m)
  order_there x y e =
      let o = order_parts (take (2 * m) bs) x y (stood_order i (stand_of starts bs m) q x y e) in
      (omega (arith, o.first_there, events bs m few long), omega (arith, o.second_there, events bs m few long))

-- two bytes more
take_two : (bs : List ℕ) (m a b : ℕ) → m < messages_most → length bs ≡ 2 * messages_most
    → take (2 * (m + 1)) (set (set bs (2 * m) a) (2 * m + 1) b) ≡ with_message (take (2 * m) bs) a b
take_two bs m a b h l =
    let l₁ : length (set bs (2 * m) a) ≡ length bs = length-set bs (2 * m) a in
    let n : 2 * (m + 1) ≡ suc (2 * m + 1) = omega arith in
    let k : 2 * m + 1 ≡ suc (2 * m) = omega arith in
    ap (λ (i : ℕ). take i (set (set bs (2 * m) a) (2 * m + 1) b)) n
    ∙ take-suc-set (set bs (2 * m) a) (2 * m + 1) b (omega arith)
    ∙ ap (λ (x : List ℕ). x ++ (b ∷ [])) (ap (λ (i : ℕ). take i (set bs (2 * m) a)) k ∙ take-suc-set bs (2 * m) a (omega arith))
    ∙ append_assoc (take (2 * m) bs) (a ∷ []) (b ∷ [])

-- a row that is no S row, by its letter
module _ (k a b m : ℕ) (bs : List ℕ) (few : m ≤ messages_most) (long : length bs ≡ 2 * messages_most) where
  block_by : (r : Row) (bs' : List ℕ) (p : code.Option ℕ) → row_from k a b ≡ r → ((starts : List ℕ) (i : ℕ) → placed_as p starts bs' ≡ moved_to i (stand_of starts bs m) r)
      → FewMessages p → length bs' ≡ 2 * messages_most → BlockAs m (row_from k a b) bs bs' p
  block_by r bs' p e h f l = record { stand = λ starts i. h starts i ∙ ap (moved_to i (stand_of starts bs m)) (sym e); few = f; all_boards = l }

  pub block_message : (p : code.Option ℕ) (fits : Bool) (bs' : List ℕ) → k ≡ code "M" → fits ≡ message_fits (take (2 * m) bs) a b
      → bs' ≡ cond fits (set (set bs (2 * m) a) (2 * m + 1) b) bs → p ≡ then_some fits (m + 1) → BlockAs m (row_from k a b) bs bs' p
  unfolding moved_to
  block_message p fits bs' e f g h = rw (g, h) (go fits f)
    where
      go : (t : Bool) → t ≡ message_fits (take (2 * m) bs) a b
          → BlockAs m (row_from k a b) bs (cond t (set (set bs (2 * m) a) (2 * m + 1) b) bs) (then_some t (m + 1))
      go true c =
          let l : m < messages_most = room bs m a b few long (sym c) in
          block_by (message a b) (set (set bs (2 * m) a) (2 * m + 1) b) (Some (m + 1)) (row_message k a b e)
          (λ starts i. rw (← c, take_two bs m a b l long)) (omega arith)
          (length-set (set bs (2 * m) a) (2 * m + 1) b ∙ length-set bs (2 * m) a ∙ long)
      go false c = block_by (message a b) bs None (row_message k a b e) (λ starts i. rw (← c)) tt long

  pub block_order : (p : code.Option ℕ) (fits : Bool) → k ≡ code "P" → fits ≡ order_fits (take (2 * m) bs) a b → p ≡ then_some fits m → BlockAs m (row_from k a b) bs bs p
  unfolding moved_to
  block_order p fits e f h = rw h (go fits f)
    where
      go : (t : Bool) → t ≡ order_fits (take (2 * m) bs) a b → BlockAs m (row_from k a b) bs bs (then_some t m)
      go true c = block_by (order a b) bs (Some m) (row_order k a b e) (λ starts i. rw (← c)) few long
      go false c = block_by (order a b) bs None (row_order k a b e) (λ starts i. rw (← c)) tt long

  pub block_call : (p : code.Option ℕ) → k ≡ code "C" → p ≡ then_some (ltb a sheets) 0 → BlockAs m (row_from k a b) bs bs p
  unfolding moved_to
  block_call p e q = rw q (go (ltb a sheets) refl)
    where
      go : (t : Bool) → ltb a sheets ≡ t → BlockAs m (row_from k a b) bs bs (then_some t 0)
      go true c = block_by (call a) bs (Some 0) (row_call k a b e) (λ starts i. rw c) (omega arith) long
      go false c = block_by (call a) bs None (row_call k a b e) (λ starts i. rw c) tt long

  pub block_choice : (p : code.Option ℕ) (fits : Bool) → k ≡ code "A" → fits ≡ (ltb a sheets && ltb b sheets) → p ≡ then_some fits 0 → BlockAs m (row_from k a b) bs bs p
  unfolding moved_to
  block_choice p fits e f q = rw q (go fits f)
    where
      go : (t : Bool) → t ≡ (ltb a sheets && ltb b sheets) → BlockAs m (row_from k a b) bs bs (then_some t 0)
      go true c = block_by (choice a b) bs (Some 0) (row_choice k a b e) (λ starts i. rw (← c)) (omega arith) long
      go false c = block_by (choice a b) bs None (row_choice k a b e) (λ starts i. rw (← c)) tt long

  pub block_next : (k ≡ code "S" → ⊥) → (k ≡ code "M" → ⊥) → (k ≡ code "P" → ⊥) → (k ≡ code "C" → ⊥) → (k ≡ code "A" → ⊥) → BlockAs m (row_from k a b) bs bs (Some 0)
  unfolding moved_to
  block_next e f g h n = block_by block bs (Some 0) (row_block k a b e f g h n) (λ starts i. refl) (omega arith) long

-- any row: an S row, one ahead of any S row, and one behind it
module _ (row k a b m : ℕ) (starts bs : List ℕ) (long : length starts ≡ sheets) where
  pub place_sheet : (p : code.Option ℕ) (fits : Bool) (starts' : List ℕ) → length bs ≡ 2 * messages_most → k ≡ code "S" → fits ≡ may_open starts a
      → starts' ≡ cond fits (set starts a (row + 1)) starts → p ≡ then_some fits 0
      → PlaceAs row (stand_of starts bs m) (row_from k a b) starts' bs p
  unfolding stood_at moved_to is_sheet
  place_sheet p fits starts' l e f g h = rw (g, h, row_sheet k a b e) (go fits f)
    where
      go : (t : Bool) → t ≡ may_open starts a → PlaceAs row (stand_of starts bs m) (sheet a) (cond t (set starts a (row + 1)) starts) bs (then_some t 0)
      go true c = record { stand = rw (← c); few = omega arith; all_starts = length-set starts a (row + 1) ∙ long; all_boards = l }
      go false c = record { stand = rw (← c); few = tt; all_starts = long; all_boards = l }

  pub place_outside : length bs ≡ 2 * messages_most → row ≡ 0 → (k ≡ code "S" → ⊥) → PlaceAs row (stand_of starts bs m) (row_from k a b) starts bs None
  unfolding stood_at
  place_outside l e f = record { stand = rw (not_sheet k a b f, e); few = tt; all_starts = long; all_boards = l }

  pub place_behind : (p : code.Option ℕ) (bs' : List ℕ) → (row ≡ 0 → ⊥) → BlockAs m (row_from k a b) bs bs' p → PlaceAs row (stand_of starts bs m) (row_from k a b) starts bs' p
  unfolding stood_at
  place_behind p bs' e h =
      let later : ltb 0 row ≡ true = lt-ltb 0 row (omega arith) in
      record { stand = h.stand starts row ∙ rw (later, or-true (is_sheet (row_from k a b))); few = h.few; all_starts = long; all_boards = h.all_boards }
