-- What the loop over a block's rows keeps, row by row, and where it leaves them. Each law has the premises of one place of the
-- code. Assumes nothing.
use Prim.Native.Nat.{ℕ, zero, suc, ◌+◌, ◌-◌, ◌*◌, ◌<◌, ◌≤◌}
use native.Mathlib.Numerals.{add-one}
use native.Mathlib.Decide.{dec_lt}
use native.Mathlib.Omega.{arith}
use mathlib.Core.Path.{◌≡◌, refl, sym, ◌∙◌, ap, subst}
use mathlib.Core.Logic.{◌⊎◌, inl, inr, ⊎_elim}
use mathlib.Core.Bool.{Bool, true, false, cond, ◌||◌, true≢false}
use mathlib.Core.List.{List, [], ◌∷◌}
use lib.Dec.{eqb, ltb}
use lib.ListN.{length, get_or, set, drop, length-set}
use borrow.Author.Tests.{eq-eqb, eqb-true, lt-ltb, le-ltb, ltb-true}
use Rattle.model.proofs.Bounded.{and_left, and_right, or_cases, or_left, or_right}
use Rattle.model.specs.Limits.{boards, messages_most}
use Rattle.model.specs.Refusal.{Out, ok, refusal, messages_refusal}
use Rattle.model.specs.Rows.{Row, sheet, message, order, block, call, choice}
use Rattle.model.specs.Place.{line_of}
use Rattle.model.specs.Expansion.{Progress, block_opened, message_met, order_met}
use Rattle.relation.specs.Width.{width}
use Rattle.closure.specs.Insertion.{inserted}
use Rattle.closure.proofs.Inserted.{length_inserted}
use Rattle.sheet.specs.Bridge.{row_from, rows_at, rows_of}
use Rattle.sheet.proofs.Bridge.{rows_drop as rows-at-drop, row_message as row-is-message, row_order as row-is-order}
use Rattle.blocks.specs.Store.{Store, store_of, boards_with, added, passed, store_ops}
use Rattle.walk.specs.Block.{opened, state_of, rows_from, in_block, block_walked, Leaves, AllStand, Ready}
use Rattle.walk.specs.declared.Walk.{Walk}
use Rattle.std.specs.Prelude.{Ok, Err}
use Rattle.outcome.specs.declared.Refusal.{Refusal}
use Rattle.outcome.specs.declared.Reason.TheVariants.{Messages}
use Rattle.blocks.proofs.Passed.{length_passed}
use Rattle.blocks.proofs.Added.{length_added}

-- the rows from row i on
pub rows_drop : (kind one two : List ℕ) (count i : ℕ) → drop i (rows_of kind one two count) ≡ rows_from kind one two count i
rows_drop kind one two count i = rows-at-drop kind one two i 0 count ∙ ap (λ (k : ℕ). rows_at kind one two k (count - i)) (omega arith)

pub rows_next : (kind one two : List ℕ) (count i : ℕ) → i < count
    → rows_from kind one two count i ≡ row_from (get_or kind i 0) (get_or one i 0) (get_or two i 0) ∷ rows_from kind one two count (i + 1)
unfolding rows_at
rows_next kind one two count i h =
    let e : count - i ≡ suc (count - (i + 1)) = omega arith in
    rw (e, add-one i)

pub rows_end : (kind one two : List ℕ) (count i : ℕ) → count ≤ i → rows_from kind one two count i ≡ []
unfolding rows_at
rows_end kind one two count i h = let e : count - i ≡ 0 = omega arith in rw e

-- what the test of a row says
module _ (kind : List ℕ) (count i : ℕ) where
  pub in_rows : (r : Bool) → r ≡ in_block kind count i → r ≡ true → i < count
  unfolding in_block
  in_rows r e t = ltb-true i count (and_left (ltb i count) (eqb (get_or kind i 0) 77 || eqb (get_or kind i 0) 80) (sym e ∙ t))

  pub in_either : in_block kind count i ≡ true → (get_or kind i 0 ≡ 77) ⊎ (get_or kind i 0 ≡ 80)
  unfolding in_block
  in_either t =
      ⊎_elim (λ m. inl (eqb-true (get_or kind i 0) 77 m)) (λ p. inr (eqb-true (get_or kind i 0) 80 p))
      (or_cases (eqb (get_or kind i 0) 77) (eqb (get_or kind i 0) 80) (and_right (ltb i count) (eqb (get_or kind i 0) 77 || eqb (get_or kind i 0) 80) t))

  in_message : (r : Bool) → r ≡ in_block kind count i → r ≡ true → (get_or kind i 0 ≡ 80 → ⊥) → get_or kind i 0 ≡ 77
  in_message r e t n = ⊎_elim (λ m. m) (λ p. absurd (n p)) (in_either (sym e ∙ t))

  pub not_in : (r : Bool) → r ≡ in_block kind count i → r ≡ false → i < count → (get_or kind i 0 ≡ 77 → ⊥) × (get_or kind i 0 ≡ 80 → ⊥)
  unfolding in_block
  not_in r e t h =
      let f : (eqb (get_or kind i 0) 77 || eqb (get_or kind i 0) 80) ≡ false = rw (lt-ltb i count h) at (sym e ∙ t) in (
        λ m. true≢false (sym (or_left (eqb (get_or kind i 0) 77) (eqb (get_or kind i 0) 80) (eq-eqb (get_or kind i 0) 77 m)) ∙ f),
        λ p. true≢false (sym (or_right (eqb (get_or kind i 0) 77) (eqb (get_or kind i 0) 80) (eq-eqb (get_or kind i 0) 80 p)) ∙ f),
      )

-- where a message takes its place there are as many boards, and boards stay boards
boards_with_length : (events : List ℕ) (m a b : ℕ) → length (boards_with events m a b) ≡ length events
unfolding boards_with
boards_with_length events m a b = simp length-set

set_below : (n : ℕ) (l : List ℕ) (i v : ℕ) → ((j : ℕ) → get_or l j 0 < n) → v < n → (k : ℕ) → get_or (set l i v) k 0 < n
set_below n [] i v h p k = h k
set_below n (x ∷ l) zero v h p zero = p
set_below n (x ∷ l) zero v h p (suc k) = h (suc k)
set_below n (x ∷ l) (suc i) v h p zero = h zero
set_below n (x ∷ l) (suc i) v h p (suc k) = set_below n l i v (λ j. h (suc j)) p k

boards_with_below : (events : List ℕ) (m a b : ℕ) → ((i : ℕ) → get_or events i 0 < boards) → a < boards → b < boards
    → (k : ℕ) → get_or (boards_with events m a b) k 0 < boards
unfolding boards_with
boards_with_below events m a b h p q = set_below boards (set events (2 * m) a) (2 * m + 1) b (set_below boards events (2 * m) a h p) q

-- what a row at the head comes to
module _ (rs : List Row) (i : ℕ) (s : Progress Store) where
  abbrev met_or : ℕ → ℕ → Bool → Out (ℕ × Progress Store)
  met_or a b t = elim t [ true ↦ block_walked rs (i + 1) (message_met store_ops a b s) | false ↦ refusal messages_refusal (line_of i) ]

  message_refused : (a b : ℕ) → messages_most ≤ s.walk.count → block_walked (message a b ∷ rs) i s ≡ refusal messages_refusal (line_of i)
  unfolding block_walked
  message_refused a b h = ap (met_or a b) (le-ltb s.walk.count messages_most h)

  message_met_holds : (a b : ℕ) → s.walk.count < messages_most → block_walked (message a b ∷ rs) i s ≡ block_walked rs (i + 1) (message_met store_ops a b s)
  unfolding block_walked
  message_met_holds a b h = ap (met_or a b) (lt-ltb s.walk.count messages_most h)

  other_ends : (letter one two : ℕ) → (eqb letter 77 || eqb letter 80) ≡ false → block_walked (row_from letter one two ∷ rs) i s ≡ ok (i, block_opened store_ops s)
  unfolding block_walked row_from
  other_ends letter one two n = go (eqb letter 83) (eqb letter 77) (eqb letter 80) (eqb letter 67) (eqb letter 65) n
    where
      go : (b m p d c : Bool) → (m || p) ≡ false
          → block_walked (cond b (sheet one) (cond m (message one two) (cond p (order one two) (cond d (call one) (cond c (choice one two) block)))) ∷ rs) i s ≡ ok (i, block_opened store_ops s)
      go true m p d c n = refl
      go false true p d c n = absurd (true≢false n)
      go false false true d c n = absurd (true≢false n)
      go false false false true c n = refl
      go false false false false true n = refl
      go false false false false false n = refl

module _ (kind one two : List ℕ) (count row : ℕ) (w₀ : Walk) (t₀ : Store) where
  abbrev whole : Out (ℕ × Progress Store)
  whole = block_walked (rows_from kind one two count row) row (state_of w₀ t₀)

  -- the walk with so many messages met
  abbrev at_met : ℕ → Walk
  at_met met = record { calls = w₀.calls; choices = w₀.choices; first = w₀.first; count = met }

  -- the rows from row i on, met from here, give what the rows from the first on give
  pub record Meeting (i met : ℕ) (t : Store) : Type 0 where
    pub exact : block_walked (rows_from kind one two count i) i (state_of (at_met met) t) ≡ whole
    pub ready : Ready kind one two count i w₀.first met t

  pub meeting_start : Ready kind one two count row w₀.first w₀.count t₀ → Meeting row w₀.count t₀
  meeting_start r = record { exact = refl; ready = r }

  module _ (i met : ℕ) (events words past : List ℕ) (j : Meeting i met (store_of events words past)) where
    abbrev s : Progress Store
    s = state_of (at_met met) (store_of events words past)

    module _ (r : Bool) (test : r ≡ in_block kind count i) (more : r ≡ true) where
      h : i < count
      h = in_rows kind count i r test more

      abbrev a : ℕ
      a = get_or one i 0

      abbrev b : ℕ
      b = get_or two i 0

      abbrev rest : List Row
      rest = rows_from kind one two count (i + 1)

      -- the row at hand, and those behind it
      head : block_walked (row_from (get_or kind i 0) a b ∷ rest) i s ≡ whole
      head = rw (rows_next kind one two count i h) at j.exact

      stands : AllStand (2 * (met - w₀.first)) (row_from (get_or kind i 0) a b ∷ rest)
      stands = subst (AllStand (2 * (met - w₀.first))) (rows_next kind one two count i h) j.ready.stand

      module _ (n : get_or kind i 0 ≡ 80 → ⊥) where
        e : get_or kind i 0 ≡ 77
        e = in_message kind count i r test more n

        message_head : block_walked (message a b ∷ rest) i s ≡ whole
        message_head = rw (row-is-message (get_or kind i 0) a b e) at head

        message_stands : AllStand (2 * (met - w₀.first)) (message a b ∷ rest)
        message_stands = rw (row-is-message (get_or kind i 0) a b e) at stands

        pub message_boards : (a < boards) × (b < boards)
        message_boards = message_stands.0

        pub meeting_refused : (t' : Store) (r' : Refusal) → r' ≡ record { reason = Messages; line = line_of i } → messages_most ≤ met → Leaves (Err r') t' whole
        meeting_refused t' r' f m = rw f (record { exact = sym (message_refused rest i s a b m) ∙ message_head; room = tt })

        pub meeting_message : (events' words' : List ℕ) → (events' ≡ boards_with events met a b) × (words' ≡ added width words past met a b) → met < messages_most
            → Meeting (i + 1) (met + 1) (store_of events' words' past)
        unfolding message_met store_ops
        meeting_message events' words' f m =
            let room = j.ready.room in
            let more : 2 * (met - w₀.first) + 2 ≡ 2 * (met + 1 - w₀.first) = omega (arith, room.first_most) in
            record {
              exact = rw (f.0, f.1, add-one met) (sym (message_met_holds rest i s a b m) ∙ message_head);
              ready = record {
                room = record {
                  events_long = ap length f.0 ∙ boards_with_length events met a b ∙ room.events_long;
                  words_long = ap length f.1 ∙ length_added width words past met a b ∙ room.words_long;
                  past_long = room.past_long;
                  first_most = omega (arith, room.first_most);
                  count_most = omega arith;
                  boards_most = λ k. rw f.0 (boards_with_below events met a b room.boards_most message_boards.0 message_boards.1 k);
                };
                stand = subst (λ (n : ℕ). AllStand n rest) more message_stands.1;
              };
            }

      module _ (e : get_or kind i 0 ≡ 80) where
        order_head : block_walked (order a b ∷ rest) i s ≡ whole
        order_head = rw (row-is-order (get_or kind i 0) a b e) at head

        order_stands : AllStand (2 * (met - w₀.first)) (order a b ∷ rest)
        order_stands = rw (row-is-order (get_or kind i 0) a b e) at stands

        pub order_events : (2 * w₀.first + a < 2 * met) × (2 * w₀.first + b < 2 * met)
        order_events = let p = order_stands.0 in (omega (arith, p.0, j.ready.room.first_most), omega (arith, p.1, j.ready.room.first_most))

        pub meeting_order : (words' : List ℕ) → words' ≡ inserted width words (2 * w₀.first + a) (2 * w₀.first + b) (2 * w₀.first) (2 * met)
            → Meeting (i + 1) met (store_of events words' past)
        unfolding block_walked order_met store_ops
        meeting_order words' f =
            let room = j.ready.room in
            record {
              exact = rw f order_head;
              ready = record {
                room = record {
                  events_long = room.events_long;
                  words_long =
                      ap length f ∙ length_inserted width words (2 * w₀.first + a) (2 * w₀.first + b) (2 * w₀.first) (2 * met) ∙ room.words_long;
                  past_long = room.past_long;
                  first_most = room.first_most;
                  count_most = room.count_most;
                  boards_most = room.boards_most;
                };
                stand = order_stands.1;
              };
            }

    -- behind the last of them the block is closed, and the next begins where it ended
    module _ (r : Bool) (test : r ≡ in_block kind count i) (over : r ≡ false) where
      ends : block_walked (rows_from kind one two count i) i s ≡ ok (i, block_opened store_ops s)
      unfolding block_walked in_block
      ends = go (dec_lt i count)
        where
          go : Dec (i < count) → block_walked (rows_from kind one two count i) i s ≡ ok (i, block_opened store_ops s)
          go (yes h) =
              rw (rows_next kind one two count i h)
              (other_ends (rows_from kind one two count (i + 1)) i s (get_or kind i 0) (get_or one i 0) (get_or two i 0) (rw (lt-ltb i count h) at (sym test ∙ over)))
          go (no n) = rw (rows_end kind one two count i (omega arith))

      pub meeting_end : (past' : List ℕ) (next : Walk) → past' ≡ passed width past events words (2 * w₀.first) (2 * met)
          → next ≡ opened w₀.calls w₀.choices met
          → Leaves (Ok (record { row = i; walk = next })) (store_of events words past') whole
      unfolding block_opened store_ops
      meeting_end past' next f e =
          let room = j.ready.room in
          rw e
          (record {
            exact = rw f (sym ends ∙ j.exact);
            room = record {
              events_long = room.events_long;
              words_long = room.words_long;
              past_long = ap length f ∙ length_passed width past events words (2 * w₀.first) (2 * met) ∙ room.past_long;
              first_most = omega arith;
              count_most = room.count_most;
              boards_most = room.boards_most;
            };
          })
