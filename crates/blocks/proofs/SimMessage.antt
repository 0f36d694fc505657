-- A message met keeps the store and the model's walk together. Assumes nothing.
use Prim.Native.Nat.{ℕ, suc, ◌+◌, ◌*◌, ◌/◌, ◌<◌, ◌≤◌}
use native.Mathlib.Decide.{ℕ_discrete, dec_lt}
use native.Mathlib.Omega.{arith}
use mathlib.Core.Path.{◌≡◌, refl, sym, ◌∙◌, ap, subst}
use mathlib.Core.Logic.{◌⊎◌, inl, inr, ⊎_elim}
use mathlib.Core.Bool.{Bool, true, ◌||◌}
use mathlib.Core.List.{List, [], ◌∷◌, ◌++◌}
use lib.Dec.{eqb}
use lib.ListN.{length, get_or, set, length-append, length-set, get_or-append, get_or-eq_default}
use lib.Seq.{get_or_at, get_or-append-add, get_or-set_same, get_or-set_other}
use borrow.Author.Tests.{eq-eqb, eqb-true}
use Rattle.model.specs.Limits.{boards, messages_most}
use Rattle.model.specs.Expansion.{Walk}
use Rattle.model.specs.Order.{Met, met_ops}
use Rattle.model.proofs.Bounded.{or_cases, or_left, or_right}
use Rattle.model.proofs.Walked.{Sound}
use Rattle.relation.specs.Width.{width}
use Rattle.relation.specs.Order.{before, Transitive}
use Rattle.relation.proofs.Order.{Within}
use Rattle.blocks.specs.Store.{Store, boards_with, added, store_ops}
use Rattle.blocks.proofs.Added.{length_added, added_other, added_send, added_receive}
use Rattle.blocks.proofs.Sim.{Orders, Sim, in_row, in_past, bits}

module _ (w : Walk) (m : Met) (t : Store) (h : Sound (record { walk = w; kept = m })) (r : Sim w m t) (a b : ℕ)
    (ha : a < boards) (hb : b < boards) (room : w.count < messages_most) where
  abbrev c : ℕ
  c = w.count

  abbrev events' : List ℕ
  events' = m.events ++ (a ∷ b ∷ [])

  abbrev blocks' : List ℕ
  blocks' = m.blocks ++ (m.open' ∷ [])

  abbrev words' : List ℕ
  words' = added width t.words t.past c a b

  abbrev in_row' : ℕ → ℕ → Bool
  in_row' x y = before width words' x y

  -- the boards and blocks of the events met before, and of the two new ones
  board_old : (k : ℕ) → k < 2 * c → get_or events' k 0 ≡ get_or m.events k 0
  board_old k l = get_or-append m.events (a ∷ b ∷ []) 0 k (omega (arith, h.events_length))

  board_send : get_or events' (2 * c) 0 ≡ a
  board_send = get_or_at m.events a (b ∷ []) 0 (2 * c) h.events_length

  board_receive : get_or events' (2 * c + 1) 0 ≡ b
  board_receive =
      ap (λ (k : ℕ). get_or events' (k + 1) 0) (sym h.events_length) ∙ get_or-append-add m.events (a ∷ b ∷ []) 1 0

  board_beyond : (k : ℕ) → 2 * c + 1 < k → get_or events' k 0 ≡ get_or m.events k 0
  board_beyond k l =
      get_or-eq_default events' 0 (omega (arith, h.events_length, length-append m.events (a ∷ b ∷ [])))
      ∙ sym (get_or-eq_default m.events 0 (omega (arith, h.events_length)))

  block_old : (k : ℕ) → k < c → get_or blocks' k 0 ≡ get_or m.blocks k 0
  block_old k l = get_or-append m.blocks (m.open' ∷ []) 0 k (omega (arith, h.blocks_length))

  block_new : (k : ℕ) → k ≡ c → get_or blocks' k 0 ≡ m.open'
  block_new k e = get_or_at m.blocks m.open' [] 0 k (h.blocks_length ∙ sym e)

  -- no block is behind the open one, and those of a lower number are earlier
  block_most : (k : ℕ) → k < c → get_or m.blocks k 0 ≤ m.open'
  block_most k l = go (dec_lt k w.first)
    where
      go : Dec (k < w.first) → get_or m.blocks k 0 ≤ m.open'
      go (yes q) = omega (arith, h.earlier_blocks k q)
      go (no q) = omega (arith, h.open_block k (omega arith) l)

  block_lower : (k : ℕ) → k < suc c → get_or blocks' k 0 < m.open' → k < w.first
  block_lower k l q = go (dec_lt k w.first) (ℕ_discrete k c)
    where
      go : Dec (k < w.first) → Dec (k ≡ c) → k < w.first
      go (yes f) d = f
      go (no f) (yes e) = absurd (omega (arith, block_new k e))
      go (no f) (no e) = absurd (omega (arith, block_old k (omega arith), h.open_block k (omega arith) (omega arith)))

  -- the same boards in the store
  boards_same : (k : ℕ) → get_or (boards_with t.events c a b) k 0 ≡ get_or events' k 0
  unfolding boards_with
  boards_same k = go (ℕ_discrete k (2 * c + 1)) (ℕ_discrete k (2 * c))
    where
      go : Dec (k ≡ 2 * c + 1) → Dec (k ≡ 2 * c) → get_or (set (set t.events (2 * c) a) (2 * c + 1) b) k 0 ≡ get_or events' k 0
      go (yes e) d =
          rw e (get_or-set_same (set t.events (2 * c) a) (2 * c + 1) b 0 (omega (arith, length-set t.events (2 * c) a, r.events_long)) ∙ sym board_receive)
      go (no f) (yes e) =
          get_or-set_other (set t.events (2 * c) a) (2 * c + 1) k b 0 f
          ∙ rw e (get_or-set_same t.events (2 * c) a 0 (omega (arith, r.events_long)) ∙ sym board_send)
      go (no f) (no g) =
          get_or-set_other (set t.events (2 * c) a) (2 * c + 1) k b 0 f ∙ get_or-set_other t.events (2 * c) k a 0 g ∙ r.same_boards k
          ∙ sym (⊎_elim (λ l. board_old k l) (λ l. board_beyond k l) side)
        where
          side : (k < 2 * c) ⊎ (2 * c + 1 < k)
          side = elim (dec_lt k (2 * c)) [ yes l ↦ inl l | no l ↦ inr (omega arith) ]

  -- the rows: two new ones, the others as they were
  room_words : (2 * c + 1) * width + width ≤ length t.words
  room_words = omega (arith, r.words_long)

  row_old : (x y : ℕ) → x < bits → y < 2 * c → in_row' x y ≡ in_row t x y
  row_old x y hx l =
      added_other width t.words t.past c a b room_words x hx (omega arith) y (λ e. omega arith) (λ e. omega arith)

  row_send : (x : ℕ) → x < bits → in_row' x (2 * c) ≡ in_past t a x
  row_send x hx = added_send width t.words t.past c a b room_words x hx (omega arith)

  row_receive : (x : ℕ) → x < bits → in_row' x (2 * c + 1) ≡ ((in_past t b x || in_past t a x) || eqb x (2 * c))
  row_receive x hx = added_receive width t.words t.past c a b room_words x hx (omega arith)

  -- what is past is of earlier blocks; what is before an event past on a board is past there too
  past_inside : (p x : ℕ) → p < boards → x < bits → in_past t p x ≡ true → x < 2 * w.first
  past_inside p x hp hx i =
      let o = r.past_only p x hp hx i in
      ⊎_elim (λ e. omega (arith, o.1)) (λ q. r.earlier x o.0 hx o.1 q) o.3

  past_before : (p x y : ℕ) → p < boards → x < bits → y < bits → in_past t p y ≡ true → in_row t x y ≡ true → in_past t p x ≡ true
  past_before p x y hp hx hy i q =
      let o = r.past_only p y hp hy i in
      let l : o.0 < 2 * c = omega (arith, o.1, h.first_most) in
      let ly : y < 2 * c = omega (arith, past_inside p y hp hy i, h.first_most) in
      subst (λ (k : ℕ). in_past t k x ≡ true) o.2
      (r.past_holds o.0 x hx o.1
      (inr (⊎_elim (λ (e : y ≡ o.0). subst (λ (k : ℕ). in_row t x k ≡ true) e q)
      (λ z. r.ordered.closed x y o.0 (r.inside x y hx ly q) ly l q z) o.3)))

  -- the last event: it is one met before, the send, or the receive
  which_event : (y : ℕ) → y < 2 * suc c → (y < 2 * c) ⊎ ((y ≡ 2 * c) ⊎ (y ≡ 2 * c + 1))
  which_event y l = go (dec_lt y (2 * c)) (ℕ_discrete y (2 * c))
    where
      go : Dec (y < 2 * c) → Dec (y ≡ 2 * c) → (y < 2 * c) ⊎ ((y ≡ 2 * c) ⊎ (y ≡ 2 * c + 1))
      go (yes p) d = inl p
      go (no p) (yes e) = inr (inl e)
      go (no p) (no e) = inr (inr (omega arith))

  -- what the receive's row holds
  Received : ℕ → Type 0
  Received x = (in_past t b x ≡ true) ⊎ ((in_past t a x ≡ true) ⊎ (x ≡ 2 * c))

  received : (x : ℕ) → x < bits → in_row' x (2 * c + 1) ≡ true → Received x
  unfolding Received
  received x hx i =
      ⊎_elim
      (λ p. ⊎_elim (λ q. inl q) (λ q. inr (inl q)) (or_cases (in_past t b x) (in_past t a x) p))
      (λ e. inr (inr (eqb-true x (2 * c) e)))
      (or_cases (in_past t b x || in_past t a x) (eqb x (2 * c)) (sym (row_receive x hx) ∙ i))

  receives : (x : ℕ) → x < bits → Received x → in_row' x (2 * c + 1) ≡ true
  unfolding Received
  receives x hx (inl p) = row_receive x hx ∙ or_left (in_past t b x || in_past t a x) (eqb x (2 * c)) (or_left (in_past t b x) (in_past t a x) p)
  receives x hx (inr (inl p)) = row_receive x hx ∙ or_left (in_past t b x || in_past t a x) (eqb x (2 * c)) (or_right (in_past t b x) (in_past t a x) p)
  receives x hx (inr (inr e)) = row_receive x hx ∙ or_right (in_past t b x || in_past t a x) (eqb x (2 * c)) (eq-eqb x (2 * c) e)

  row_at : (x y z : ℕ) → y ≡ z → in_row' x y ≡ true → in_row' x z ≡ true
  row_at x y z e i = subst (λ (k : ℕ). in_row' x k ≡ true) e i

  inside' : (x y : ℕ) → x < bits → y < 2 * suc c → in_row' x y ≡ true → x < 2 * suc c
  unfolding Received
  inside' x y hx l i =
      ⊎_elim (λ (o : y < 2 * c). let q : x < 2 * c = r.inside x y hx o (sym (row_old x y hx o) ∙ i) in omega arith)
      (⊎_elim send (λ e. receive (received x hx (row_at x y (2 * c + 1) e i)))) (which_event y l)
    where
      first : w.first ≤ c
      first = h.first_most

      send : y ≡ 2 * c → x < 2 * suc c
      send e = omega (arith, past_inside a x ha hx (sym (row_send x hx) ∙ row_at x y (2 * c) e i))

      receive : Received x → x < 2 * suc c
      receive (inl p) = omega (arith, past_inside b x hb hx p)
      receive (inr (inl p)) = omega (arith, past_inside a x ha hx p)
      receive (inr (inr e)) = omega arith

  -- the rows hold the sources, and are transitive
  earliers' : (x y : ℕ) → x < 2 * suc c → y < 2 * suc c → get_or events' x 0 ≡ get_or events' y 0
      → get_or blocks' (x / 2) 0 < get_or blocks' (y / 2) 0 → in_row' x y ≡ true
  unfolding Received
  earliers' x y lx ly e l = ⊎_elim old (⊎_elim send receive) (which_event y ly)
    where
      hx : x < bits
      hx = omega arith

      -- x is of an earlier block where y is new, so it is past on its board
      new : y / 2 ≡ c → (p : ℕ) → get_or events' y 0 ≡ p → in_past t p x ≡ true
      new ey p q =
          let f : x / 2 < w.first = block_lower (x / 2) (omega arith) (omega (arith, block_new (y / 2) ey)) in
          let g : w.first ≤ c = h.first_most in
          subst (λ (k : ℕ). in_past t k x ≡ true) (sym (board_old x (omega arith)) ∙ e ∙ q) (r.past_holds x x hx (omega arith) (inl refl))

      old : y < 2 * c → in_row' x y ≡ true
      old o = go (dec_lt x (2 * c))
        where
          go : Dec (x < 2 * c) → in_row' x y ≡ true
          go (yes q) =
              row_old x y hx o
              ∙ r.ordered.earliers x y q o (sym (board_old x q) ∙ e ∙ board_old y o)
              (omega (arith, block_old (x / 2) (omega arith), block_old (y / 2) (omega arith)))
          go (no q) =
              absurd (omega (arith, block_new (x / 2) (omega arith), block_old (y / 2) (omega arith), block_most (y / 2) (omega arith)))

      send : y ≡ 2 * c → in_row' x y ≡ true
      send i = row_at x (2 * c) y (sym i) (row_send x hx ∙ new (omega arith) a (ap (λ (k : ℕ). get_or events' k 0) i ∙ board_send))

      receive : y ≡ 2 * c + 1 → in_row' x y ≡ true
      receive i = row_at x (2 * c + 1) y (sym i) (receives x hx (inl (new (omega arith) b (ap (λ (k : ℕ). get_or events' k 0) i ∙ board_receive))))

  closed' : Transitive (2 * suc c) in_row'
  unfolding Received
  closed' x y z lx ly lz p q = ⊎_elim old (⊎_elim send receive) (which_event z lz)
    where
      hx : x < bits
      hx = omega arith

      hy : y < bits
      hy = omega arith

      first : w.first ≤ c
      first = h.first_most

      -- what is before an event past on board k is past there
      through : (k : ℕ) → k < boards → in_past t k y ≡ true → in_past t k x ≡ true
      through k hk i =
          let l : y < 2 * w.first = past_inside k y hk hy i in
          past_before k x y hk hx hy i (sym (row_old x y hx (omega arith)) ∙ p)

      old : z < 2 * c → in_row' x z ≡ true
      old o =
          let yz : in_row t y z ≡ true = sym (row_old y z hy o) ∙ q in
          let oy : y < 2 * c = r.inside y z hy o yz in
          let xy : in_row t x y ≡ true = sym (row_old x y hx oy) ∙ p in
          row_old x z hx o ∙ r.ordered.closed x y z (r.inside x y hx oy xy) oy o xy yz

      send : z ≡ 2 * c → in_row' x z ≡ true
      send i =
          row_at x (2 * c) z (sym i)
          (row_send x hx ∙ through a ha (sym (row_send y hy) ∙ row_at y z (2 * c) i q))

      behind : Received y → Received x
      behind (inl i) = inl (through b hb i)
      behind (inr (inl i)) = inr (inl (through a ha i))
      behind (inr (inr e)) = inr (inl (sym (row_send x hx) ∙ row_at x y (2 * c) e p))

      receive : z ≡ 2 * c + 1 → in_row' x z ≡ true
      receive i = row_at x (2 * c + 1) z (sym i) (receives x hx (behind (received y hy (row_at y z (2 * c + 1) i q))))

  ordered' : Orders (suc c) events' blocks' m.orders in_row'
  unfolding Received
  ordered' =
      record {
        rows = λ x y l. let o = h.orders_on_boards x y l in
            let lx : x < 2 * c = omega (arith, o.first_there, h.events_length) in
            let ly : y < 2 * c = omega (arith, o.second_there, h.events_length) in
            row_old x y (omega arith) ly ∙ r.ordered.rows x y l;
        owns = λ k l. ⊎_elim
            (λ (o : 2 * k < 2 * c). row_old (2 * k) (2 * k + 1) (omega arith) (omega arith) ∙ r.ordered.owns k (omega arith))
            (⊎_elim
            (λ (e : 2 * k ≡ 2 * c). row_at (2 * k) (2 * c + 1) (2 * k + 1) (omega arith) (receives (2 * k) (omega arith) (inr (inr e))))
            (λ (e : 2 * k ≡ 2 * c + 1). absurd (omega arith)))
            (which_event (2 * k) (omega arith));
        earliers = earliers';
        closed = closed';
      }

  -- and no more than every such test
  module _ (Q : ℕ → ℕ → Bool) (o : Orders (suc c) events' blocks' m.orders Q) where
    fewer : Orders c m.events m.blocks m.orders Q
    fewer =
        record {
          rows = o.rows;
          owns = λ k l. o.owns k (omega arith);
          earliers = λ x y lx ly e l. o.earliers x y (omega arith) (omega arith) (board_old x lx ∙ e ∙ sym (board_old y ly))
              (omega (arith, block_old (x / 2) (omega arith), block_old (y / 2) (omega arith)));
          closed = λ x y z lx ly lz. o.closed x y z (omega arith) (omega arith) (omega arith);
        }

    -- an event past on the board of a new event is before it
    past_least : (p x y : ℕ) → p < boards → x < bits → y / 2 ≡ c → get_or events' y 0 ≡ p → in_past t p x ≡ true → Q x y ≡ true
    past_least p x y hp hx ey e i =
        let u = r.past_only p x hp hx i in
        let g : w.first ≤ c = h.first_most in
        let le : u.0 < 2 * c = omega (arith, u.1) in
        let there : Q u.0 y ≡ true = o.earliers u.0 y (omega arith) (omega arith) (board_old u.0 le ∙ u.2 ∙ sym e)
        (omega (arith, block_old (u.0 / 2) (omega arith), block_new (y / 2) ey, h.earlier_blocks (u.0 / 2) (omega (arith, u.1)))) in
        ⊎_elim
        (λ (s : x ≡ u.0). subst (λ (k : ℕ). Q k y ≡ true) (sym s) there)
        (λ q. let lx : x < 2 * c = r.inside x u.0 hx le q in
        o.closed x u.0 y (omega arith) (omega arith) (omega arith) (r.least Q fewer x u.0 lx le q) there)
        u.3

    least' : Within (2 * suc c) in_row' Q
    unfolding Received
    least' x y lx ly i = ⊎_elim old (⊎_elim send receive) (which_event y ly)
      where
        hx : x < bits
        hx = omega arith

        to_send_holds : in_past t a x ≡ true → Q x (2 * c) ≡ true
        to_send_holds p = past_least a x (2 * c) ha hx (omega arith) board_send p

        own : Q (2 * c) (2 * c + 1) ≡ true
        own = o.owns c (omega arith)

        at : (z : ℕ) → z ≡ y → Q x z ≡ true → Q x y ≡ true
        at z e p = subst (λ (k : ℕ). Q x k ≡ true) e p

        old : y < 2 * c → Q x y ≡ true
        old l =
            let q : in_row t x y ≡ true = sym (row_old x y hx l) ∙ i in
            r.least Q fewer x y (r.inside x y hx l q) l q

        send : y ≡ 2 * c → Q x y ≡ true
        send e = at (2 * c) (sym e) (to_send_holds (sym (row_send x hx) ∙ row_at x y (2 * c) e i))

        behind : Received x → Q x (2 * c + 1) ≡ true
        behind (inl p) = past_least b x (2 * c + 1) hb hx (omega arith) board_receive p
        behind (inr (inl p)) = o.closed x (2 * c) (2 * c + 1) lx (omega arith) (omega arith) (to_send_holds p) own
        behind (inr (inr e)) = subst (λ (k : ℕ). Q k (2 * c + 1) ≡ true) (sym e) own

        receive : y ≡ 2 * c + 1 → Q x y ≡ true
        receive e = at (2 * c + 1) (sym e) (behind (received x hx (row_at x y (2 * c + 1) e i)))

  pub sim_message : Sim (record { calls = w.calls; choices = w.choices; first = w.first; count = suc w.count }) (met_ops.with_message w a b m) (store_ops.with_message w a b t)
  unfolding met_ops store_ops boards_with
  sim_message =
      record {
        events_long = length-set (set t.events (2 * c) a) (2 * c + 1) b ∙ length-set t.events (2 * c) a ∙ r.events_long;
        words_long = length_added width t.words t.past c a b ∙ r.words_long;
        past_long = r.past_long;
        same_boards = boards_same;
        ordered = ordered';
        least = least';
        inside = inside';
        earlier = λ x y hx l i. r.earlier x y hx l (sym (row_old x y hx (omega (arith, h.first_most))) ∙ i);
        past_holds = λ e x hx l s. let le : e < 2 * c = omega (arith, h.first_most) in
            subst (λ (k : ℕ). in_past t k x ≡ true) (sym (board_old e le))
            (r.past_holds e x hx l (⊎_elim (λ s. inl s) (λ q. inr (sym (row_old x e hx le) ∙ q)) s));
        past_only = λ p x hp hx i. let u = r.past_only p x hp hx i in
            let le : u.0 < 2 * c = omega (arith, u.1, h.first_most) in
            (u.0, u.1, board_old u.0 le ∙ u.2, ⊎_elim (λ s. inl s) (λ q. inr (row_old x u.0 hx le ∙ q)) u.3);
      }
