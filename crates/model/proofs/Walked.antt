-- What holds of a walk, wherever it stands: as many events and blocks as messages, P rows on one board, and the open
-- block's events as the file has them. It is kept by every row, call and level. Assumes nothing.
use Prim.Native.Nat.{ℕ, zero, suc, ◌+◌, ◌*◌, ◌<◌, ◌≤◌}
use native.Mathlib.Omega.{arith}
use native.Mathlib.Nat.{eq-or-lt_of_le, le_of_suc-le-suc, not-suc-le-zero}
use mathlib.Core.Path.{◌≡◌, refl, sym, ◌∙◌, ap, subst, subst₂}
use mathlib.Core.Logic.{⊎_elim}
use mathlib.Core.Bool.{Bool, true, false, not, ◌&&◌}
use mathlib.Core.List.{List, [], ◌∷◌, ◌++◌}
use lib.Dec.{eqb, ltb}
use lib.ListN.{length, get_or, drop, length-append, length-drop, get_or-append, drop_of_length-le}
use lib.Seq.{get_or-drop, drop-append-le, get_or_at}
use borrow.Author.Tests.{ltb-true, ltb-false, eqb-true, eqb-false, not-true}
use Rattle.model.specs.Limits.{boards, messages_most, calls_most}
use Rattle.model.specs.Refusal.{ok}
use Rattle.model.specs.Rows.{Row}
use Rattle.model.specs.Place.{with_message, message_fits, order_fits}
use Rattle.model.specs.Expansion.{fresh_walk, Progress, block_opened, call_made, message_met, order_met, expand}
use Rattle.model.specs.Closure.{listed}
use Rattle.model.specs.Order.{Met, nothing_met, met_ops}
use Rattle.model.proofs.Bounded.{and_left, and_right, or_cases, which, not_both}
use Rattle.model.proofs.Standing.{Fits, sheet_fits}
use Rattle.model.proofs.Walks.{Kept, walk_keeps}

-- two different events on one board, by the board of each event
pub record OnOneBoard (events : List ℕ) (x y : ℕ) : Type 0 where
  pub first_there : x < length events
  pub second_there : y < length events
  pub differ : x ≡ y → ⊥
  pub same_board : get_or events x 0 ≡ get_or events y 0

-- what it says that a row fits
pub message_parts : (events : List ℕ) (a b : ℕ) → message_fits events a b ≡ true → (a < boards) × (b < boards)
unfolding message_fits
message_parts events a b h =
    let ab = and_left (ltb a boards && ltb b boards) (ltb (length events) (2 * messages_most)) h in
    (ltb-true a boards (and_left (ltb a boards) (ltb b boards) ab), ltb-true b boards (and_right (ltb a boards) (ltb b boards) ab))

pub order_parts : (events : List ℕ) (x y : ℕ) → order_fits events x y ≡ true → OnOneBoard events x y
unfolding order_fits
order_parts events x y h =
    let a = ltb x (length events) in
    let b = ltb y (length events) in
    let c = not (eqb x y) in
    let d = eqb (get_or events x 0) (get_or events y 0) in
    let abc = and_left (a && b && c) d h in
    let ab = and_left (a && b) c abc in
    record {
      first_there = ltb-true x (length events) (and_left a b ab);
      second_there = ltb-true y (length events) (and_right a b ab);
      differ = eqb-false x y (not-true (eqb x y) (and_right (a && b) c abc));
      same_board = eqb-true (get_or events x 0) (get_or events y 0) (and_right (a && b && c) d h);
    }

-- they stay so with more events behind, and with more events in front
more_behind : (events more : List ℕ) (x y : ℕ) → OnOneBoard events x y → OnOneBoard (events ++ more) x y
more_behind events more x y h =
    record {
      first_there = omega (arith, length-append events more);
      second_there = omega (arith, length-append events more);
      differ = h.differ;
      same_board =
          get_or-append events more 0 x h.first_there ∙ h.same_board ∙ sym (get_or-append events more 0 y h.second_there);
    }

more_in_front : (k : ℕ) (events : List ℕ) (x y : ℕ) → OnOneBoard (drop k events) x y → OnOneBoard events (k + x) (k + y)
more_in_front k events x y h =
    record {
      first_there = omega (arith, length-drop k events);
      second_there = omega (arith, length-drop k events);
      differ = λ e. h.differ (omega arith);
      same_board = sym (get_or-drop k events x 0) ∙ h.same_board ∙ get_or-drop k events y 0;
    }

-- all members are below a bound, with two more behind
below_more : (n : ℕ) (l : List ℕ) (a b : ℕ) → ((k : ℕ) → get_or l k 0 < n) → a < n → b < n → (k : ℕ) → get_or (l ++ (a ∷ b ∷ [])) k 0 < n
below_more n [] a b h p q zero = p
below_more n [] a b h p q (suc zero) = q
below_more n [] a b h p q (suc (suc k)) = h zero
below_more n (c ∷ l) a b h p q zero = h zero
below_more n (c ∷ l) a b h p q (suc k) = below_more n l a b (λ j. h (suc j)) p q k

-- What holds wherever the walk stands.
pub record Sound (s : Progress Met) : Type 0 where
  pub events_length : length s.kept.events ≡ 2 * s.walk.count
  pub blocks_length : length s.kept.blocks ≡ s.walk.count
  pub first_most : s.walk.first ≤ s.walk.count
  pub count_most : s.walk.count ≤ messages_most
  pub calls_made : s.walk.calls ≤ calls_most
  pub boards_most : (k : ℕ) → get_or s.kept.events k 0 < boards
  pub orders_on_boards : (x y : ℕ) → listed x y s.kept.orders ≡ true → OnOneBoard s.kept.events x y
  -- a message of the open block has its number, and one of an earlier block a lower number
  pub open_block : (k : ℕ) → s.walk.first ≤ k → k < s.walk.count → get_or s.kept.blocks k 0 ≡ s.kept.open'
  pub earlier_blocks : (k : ℕ) → k < s.walk.first → get_or s.kept.blocks k 0 < s.kept.open'

-- the open block's events are those that the file has in it
abbrev pub Opened : Progress Met → List ℕ → Type 0
Opened s events = drop (2 * s.walk.first) s.kept.events ≡ events

pub sound_start : Sound (record { walk = fresh_walk; kept = nothing_met })
unfolding listed
sound_start =
    record {
      events_length = refl;
      blocks_length = refl;
      first_most = omega arith;
      count_most = omega arith;
      calls_made = omega arith;
      boards_most = λ k. omega arith;
      orders_on_boards = λ x y h. not_both false h refl;
      open_block = λ k h l. absurd (not-suc-le-zero l);
      earlier_blocks = λ k l. absurd (not-suc-le-zero l);
    }

-- a message met
module _ (s : Progress Met) (a b : ℕ) (h : Sound s) where
  pub sound_message : a < boards → b < boards → s.walk.count < messages_most → Sound (message_met met_ops a b s)
  unfolding message_met met_ops
  sound_message p q room =
      record {
        events_length = omega (arith, length-append s.kept.events (a ∷ b ∷ []));
        blocks_length = omega (arith, length-append s.kept.blocks (s.kept.open' ∷ []));
        first_most = omega arith;
        count_most = room;
        calls_made = h.calls_made;
        boards_most = below_more boards s.kept.events a b h.boards_most p q;
        orders_on_boards = λ x y l. more_behind s.kept.events (a ∷ b ∷ []) x y (h.orders_on_boards x y l);
        open_block = λ k f l. ⊎_elim
            (λ e. get_or_at s.kept.blocks s.kept.open' [] 0 k (h.blocks_length ∙ sym e))
            (λ l'. get_or-append s.kept.blocks (s.kept.open' ∷ []) 0 k (omega arith) ∙ h.open_block k f l')
            (eq-or-lt_of_le (le_of_suc-le-suc l));
        earlier_blocks = λ k l. rw (get_or-append s.kept.blocks (s.kept.open' ∷ []) 0 k (omega arith)) (h.earlier_blocks k l);
      }

  pub opened_message : (e : List ℕ) → Opened s e → Opened (message_met met_ops a b s) (with_message e a b)
  unfolding message_met met_ops
  opened_message e o =
      drop-append-le (2 * s.walk.first) s.kept.events (a ∷ b ∷ []) (omega (arith, h))
      ∙ ap (λ (l : List ℕ). l ++ (a ∷ b ∷ [])) o

-- a P row met
pub sound_order : (s : Progress Met) (x y : ℕ) (e : List ℕ) → Sound s → Opened s e → OnOneBoard e x y → Sound (order_met met_ops x y s)
unfolding order_met met_ops listed
sound_order s x y e h o p =
    let base : ℕ = 2 * s.walk.first in
    let there = more_in_front base s.kept.events x y (subst (λ (l : List ℕ). OnOneBoard l x y) (sym o) p) in
    record {
      events_length = h.events_length;
      blocks_length = h.blocks_length;
      first_most = h.first_most;
      count_most = h.count_most;
      calls_made = h.calls_made;
      boards_most = h.boards_most;
      orders_on_boards = λ x' y' l. ⊎_elim
          (λ c. subst₂ (λ (u v : ℕ). OnOneBoard s.kept.events u v)
          (sym (eqb-true x' (base + x) (and_left (eqb x' (base + x)) (eqb y' (base + y)) c)))
          (sym (eqb-true y' (base + y) (and_right (eqb x' (base + x)) (eqb y' (base + y)) c)))
          there)
          (h.orders_on_boards x' y')
          (or_cases (eqb x' (base + x) && eqb y' (base + y)) (listed x' y' s.kept.orders) l);
      open_block = h.open_block;
      earlier_blocks = h.earlier_blocks;
    }

pub opened_order : (s : Progress Met) (x y : ℕ) (e : List ℕ) → Opened s e → Opened (order_met met_ops x y s) e
unfolding order_met met_ops
opened_order s x y e o = o

-- a block opened, which has no event yet, and a call made
pub sound_block : (s : Progress Met) → Sound s → Sound (block_opened met_ops s)
unfolding block_opened met_ops
sound_block s h =
    record {
      events_length = h.events_length;
      blocks_length = h.blocks_length;
      first_most = omega arith;
      count_most = h.count_most;
      calls_made = h.calls_made;
      boards_most = h.boards_most;
      orders_on_boards = h.orders_on_boards;
      open_block = λ k f l. absurd (omega arith);
      earlier_blocks = λ k l. ⊎_elim
          (λ t. omega (arith, h.earlier_blocks k (ltb-true k s.walk.first t)))
          (λ f. omega (arith, h.open_block k (ltb-false k s.walk.first f) l))
          (which (ltb k s.walk.first));
    }

pub opened_block : (s : Progress Met) → Sound s → Opened (block_opened met_ops s) []
unfolding block_opened met_ops
opened_block s h = drop_of_length-le s.kept.events {i = 2 * s.walk.count} (omega arith)

pub sound_call : (by_choice : Bool) (s : Progress Met) → Sound s → s.walk.calls < calls_most → Sound (call_made met_ops by_choice s)
unfolding call_made
sound_call by_choice s h room =
    record {
      events_length = h.events_length;
      blocks_length = h.blocks_length;
      first_most = h.first_most;
      count_most = h.count_most;
      calls_made = room;
      boards_most = h.boards_most;
      orders_on_boards = h.orders_on_boards;
      open_block = h.open_block;
      earlier_blocks = h.earlier_blocks;
    }

pub opened_call : (by_choice : Bool) (s : Progress Met) (e : List ℕ) → Opened s e → Opened (call_made met_ops by_choice s) e
unfolding call_made
opened_call by_choice s e o = o

-- every row keeps it, where the rows fit the open block's events
abbrev pub sound_kept : Kept (List ℕ) Fits (λ (e : List ℕ) (s : Progress Met). Sound s × Opened s e)
sound_kept =
    record {
      empty = [];
      with_message = with_message;
      with_order = λ e x y. e;
      message = λ e a b rs s f h room.
          let p = message_parts e a b f.0 in
          (f.1, (sound_message s a b h.0 p.0 p.1 room, opened_message s a b h.0 e h.1));
      order = λ e x y rs s f h. (f.1, (sound_order s x y e h.0 h.1 (order_parts e x y f.0), opened_order s x y e h.1));
      opened = λ e s h. (sound_block s h.0, opened_block s h.0);
      made = λ e by_choice s h room. (sound_call by_choice s h.0 room, opened_call by_choice s e h.1);
      behind_block = λ e rs f. f;
      behind_call = λ e n rs f. f;
      behind_choice = λ e m n rs f. f;
    }

-- so it holds of the whole walk
pub expanded_sound : (options : List Bool) (file : List Row) → Fits [] file → (s : Progress Met) → expand met_ops options file nothing_met ≡ ok s → Sound s
expanded_sound options file fits s w = (walk_keeps sound_kept options file (λ n. sheet_fits n [] file fits) s (sound_start, refl) w).1.0
