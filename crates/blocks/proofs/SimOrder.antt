-- A P row met, a block opened and a call made keep the store and the model's walk together. Assumes nothing.
use Prim.Native.Nat.{ℕ, suc, ◌+◌, ◌*◌, ◌<◌, ◌≤◌}
use native.Mathlib.Nat.{mul-le-mul_right}
use native.Mathlib.Decide.{dec_lt}
use native.Mathlib.Omega.{arith}
use mathlib.Core.Path.{◌≡◌, refl, sym, ◌∙◌, subst}
use mathlib.Core.Logic.{◌⊎◌, inl, inr, ⊎_elim}
use mathlib.Core.Bool.{Bool, true, false, not, ◌&&◌, ◌||◌, and-false, or-false}
use mathlib.Core.List.{List}
use lib.Dec.{eqb, leb, ltb}
use lib.ListN.{length, get_or}
use borrow.Author.Tests.{eq-eqb, eqb-true, lt-leb}
use Rattle.model.specs.Limits.{boards}
use Rattle.model.specs.Expansion.{chosen_more, Walk}
use Rattle.model.specs.Closure.{listed}
use Rattle.model.specs.Order.{Met, met_ops}
use Rattle.model.proofs.Bounded.{and_left, and_right, or_cases, or_left, or_right, which}
use Rattle.model.proofs.Walked.{Sound}
use Rattle.relation.specs.Width.{width}
use Rattle.relation.specs.Rows.{holds}
use Rattle.relation.specs.Order.{before}
use Rattle.relation.proofs.Order.{Within, linked}
use Rattle.closure.specs.Insertion.{inserted}
use Rattle.closure.proofs.Inserted.{length_inserted, holds_inserted}
use Rattle.closure.proofs.Closed.{linked_holds, linked_pair, linked_least, inserted_linked, inserted_closed}
use Rattle.blocks.specs.Store.{Store, passed, store_ops}
use Rattle.blocks.proofs.Passed.{length_passed, passed_kept, passed_event, passed_only}
use Rattle.blocks.proofs.Sim.{Orders, Sim, in_row, bits}

-- a P row between two events of the open block
module _ (w : Walk) (m : Met) (t : Store) (h : Sound (record { walk = w; kept = m })) (r : Sim w m t) (x₀ y₀ : ℕ)
    (hx₀ : 2 * w.first + x₀ < 2 * w.count) (hy₀ : 2 * w.first + y₀ < 2 * w.count) where
  abbrev n : ℕ
  n = 2 * w.count

  abbrev x' : ℕ
  x' = 2 * w.first + x₀

  abbrev y' : ℕ
  y' = 2 * w.first + y₀

  abbrev words' : List ℕ
  words' = inserted width t.words x' y' (2 * w.first) n

  abbrev in_row' : ℕ → ℕ → Bool
  in_row' x y = before width words' x y

  room : n * width ≤ length t.words
  room = omega (arith, r.words_long, h.count_most)

  few : n ≤ bits
  few = omega (arith, h.count_most)

  -- the rows of earlier blocks do not hold an event of the open one
  covers : (b : ℕ) → b < n → (2 * w.first ≤ b → b < n → ⊥) → (b ≡ y' → ⊥) × (holds width t.words b y' ≡ false)
  covers b l out = go (dec_lt b (2 * w.first))
    where
      go : Dec (b < 2 * w.first) → (b ≡ y' → ⊥) × (holds width t.words b y' ≡ false)
      go (yes f) = (
        λ e. omega arith,
        ⊎_elim (λ i. absurd (omega (arith, r.earlier y' b (omega (arith, few)) f i))) (λ z. z) (which (holds width t.words b y')),
      )
      go (no f) = absurd (out (omega arith) l)

  row_linked : (a b : ℕ) → a < n → b < n → in_row' a b ≡ linked (in_row t) x' y' a b
  row_linked = inserted_linked width n t.words x' y' (2 * w.first) n few hx₀ hy₀ room covers r.ordered.closed

  -- a row that is not of the open block is as it was
  row_earlier : (x y : ℕ) → x < bits → y < 2 * w.first → in_row' x y ≡ in_row t x y
  row_earlier x y hx l =
      holds_inserted width t.words x' y' (2 * w.first) n y x room (omega (arith, few)) (omega (arith, few)) hx
      ∙ rw (lt-leb (2 * w.first) y l, and-false, or-false)

  row_inside : (x y : ℕ) → x < bits → y < n → in_row' x y ≡ true → x < n
  row_inside x y hx l i =
      let there = not (holds width t.words y' x') in
      let range = leb (2 * w.first) y && ltb y n in
      let py = eqb y y' || holds width t.words y y' in
      let px = eqb x x' || holds width t.words x' x in
      ⊎_elim
      (λ p. r.inside x y hx l p)
      (λ p. ⊎_elim (λ e. omega (arith, eqb-true x x' e)) (λ z. r.inside x x' hx hx₀ z)
      (or_cases (eqb x x') (holds width t.words x' x) (and_right py px (and_right range (py && px) (and_right there (range && (py && px)) p)))))
      (or_cases (holds width t.words y x) (there && (range && (py && px)))
      (sym (holds_inserted width t.words x' y' (2 * w.first) n y x room (omega (arith, few)) (omega (arith, few)) hx) ∙ i))

  kept : Within n (in_row t) in_row'
  kept a b la lb i = row_linked a b la lb ∙ linked_holds n (in_row t) x' y' a b la lb i

  abbrev orders' : List (ℕ × ℕ)
  orders' = (met_ops.with_order w x₀ y₀ m).orders

  ordered' : Orders w.count m.events m.blocks orders' in_row'
  unfolding listed met_ops
  ordered' =
      record {
        rows = λ x y l. ⊎_elim
            (λ p. row_at x y (eqb-true x x' (and_left (eqb x x') (eqb y y') p)) (eqb-true y y' (and_right (eqb x x') (eqb y y') p)))
            (λ p. let o = h.orders_on_boards x y p in
            kept x y (omega (arith, o.first_there, h.events_length)) (omega (arith, o.second_there, h.events_length)) (r.ordered.rows x y p))
            (or_cases (eqb x x' && eqb y y') (listed x y m.orders) l);
        owns = λ k l. kept (2 * k) (2 * k + 1) (omega arith) (omega arith) (r.ordered.owns k l);
        earliers = λ x y lx ly e l. kept x y lx ly (r.ordered.earliers x y lx ly e l);
        closed = inserted_closed width n t.words x' y' (2 * w.first) n few hx₀ hy₀ room covers r.ordered.closed;
      }
    where
      row_at : (x y : ℕ) → x ≡ x' → y ≡ y' → in_row' x y ≡ true
      row_at x y e g = rw (e, g) (row_linked x' y' hx₀ hy₀ ∙ linked_pair n (in_row t) x' y')

  least' : (Q : ℕ → ℕ → Bool) → Orders w.count m.events m.blocks orders' Q → Within n in_row' Q
  unfolding listed met_ops
  least' Q o a b la lb i =
      linked_least n (in_row t) x' y' Q o.closed
      (r.least Q (record {
        rows = λ x y l. o.rows x y (or_right (eqb x x' && eqb y y') (listed x y m.orders) l);
        owns = o.owns;
        earliers = o.earliers;
        closed = o.closed;
      }))
      (o.rows x' y' (or_left (eqb x' x' && eqb y' y') (listed x' y' m.orders) (rw (eq-eqb x' x' refl, eq-eqb y' y' refl))))
      hx₀ hy₀ a b la lb (sym (row_linked a b la lb) ∙ i)

  pub sim_order : Sim w (met_ops.with_order w x₀ y₀ m) (store_ops.with_order w x₀ y₀ t)
  unfolding met_ops store_ops
  sim_order =
      record {
        events_long = r.events_long;
        words_long = length_inserted width t.words x' y' (2 * w.first) n ∙ r.words_long;
        past_long = r.past_long;
        same_boards = r.same_boards;
        ordered = ordered';
        least = least';
        inside = row_inside;
        earlier = λ x y hx l i. r.earlier x y hx l (sym (row_earlier x y hx l) ∙ i);
        past_holds = λ e x hx l s. r.past_holds e x hx l (⊎_elim (λ s. inl s) (λ q. inr (sym (row_earlier x e hx l) ∙ q)) s);
        past_only = λ p x hp hx i. let u = r.past_only p x hp hx i in
            (u.0, u.1, u.2, ⊎_elim (λ s. inl s) (λ q. inr (row_earlier x u.0 hx u.1 ∙ q)) u.3);
      }

-- the next block
module _ (w : Walk) (m : Met) (t : Store) (h : Sound (record { walk = w; kept = m })) (r : Sim w m t) where
  abbrev past' : List ℕ
  past' = passed width t.past t.events t.words (2 * w.first) (2 * w.count)

  rooms : (e : ℕ) → get_or t.events e 0 * width + width ≤ length t.past
  rooms e =
      let l : suc (get_or t.events e 0) ≤ boards = omega (arith, r.same_boards e, h.boards_most e) in
      omega (arith, mul-le-mul_right width l, r.past_long)

  in_order : 2 * w.first ≤ 2 * w.count
  in_order = omega (arith, h.first_most)

  enough : 2 * w.count ≤ bits
  enough = omega (arith, h.count_most)

  holds' : (e x : ℕ) → x < bits → e < 2 * w.count → (x ≡ e) ⊎ (in_row t x e ≡ true) → holds width past' (get_or m.events e 0) x ≡ true
  holds' e x hx l s = go (dec_lt e (2 * w.first))
    where
      go : Dec (e < 2 * w.first) → holds width past' (get_or m.events e 0) x ≡ true
      go (yes f) =
          passed_kept width t.past t.events t.words rooms (2 * w.first) (2 * w.count) in_order enough (get_or m.events e 0) x hx
          (r.past_holds e x hx f s)
      go (no f) =
          subst (λ (k : ℕ). holds width past' k x ≡ true) (r.same_boards e)
          (passed_event width t.past t.events t.words rooms (2 * w.first) (2 * w.count) in_order enough e x hx (omega arith) l s)

  only' : (p x : ℕ) → p < boards → x < bits → holds width past' p x ≡ true
      → (e : ℕ) × (e < 2 * w.count) × (get_or m.events e 0 ≡ p) × ((x ≡ e) ⊎ (in_row t x e ≡ true))
  only' p x hp hx i =
      ⊎_elim
      (λ q. let u = r.past_only p x hp hx q in (u.0, omega (arith, u.1, in_order), u.2, u.3))
      (λ u. (u.0, u.2, sym (r.same_boards u.0) ∙ u.3, u.4))
      (passed_only width t.past t.events t.words rooms (2 * w.first) (2 * w.count) in_order enough p x hx i)

  pub sim_block : Sim (record { calls = w.calls; choices = w.choices; first = w.count; count = w.count }) (met_ops.with_block w m) (store_ops.with_block w t)
  unfolding met_ops store_ops
  sim_block =
      record {
        events_long = r.events_long;
        words_long = r.words_long;
        past_long = length_passed width t.past t.events t.words (2 * w.first) (2 * w.count) ∙ r.past_long;
        same_boards = r.same_boards;
        ordered = r.ordered;
        least = r.least;
        inside = r.inside;
        earlier = λ x y hx l i. r.inside x y hx l i;
        past_holds = holds';
        past_only = only';
      }

  pub sim_call : (by_choice : Bool) → Sim (record { calls = suc w.calls; choices = chosen_more by_choice w.choices; first = w.first; count = w.count }) m t
  sim_call by_choice =
      record {
        events_long = r.events_long;
        words_long = r.words_long;
        past_long = r.past_long;
        same_boards = r.same_boards;
        ordered = r.ordered;
        least = r.least;
        inside = r.inside;
        earlier = r.earlier;
        past_holds = r.past_holds;
        past_only = r.past_only;
      }
