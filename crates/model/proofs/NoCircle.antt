-- No walk of a text that is read meets a circle. A link between blocks leads to a later block; every other stays in one walked block and
-- comes from that block's rows, which the reading found without a circle. Assumes nothing.
use Prim.Native.Nat.{ℕ, suc, ◌+◌, ◌-◌, ◌*◌, ◌/◌, ◌<◌, ◌≤◌}
use native.Mathlib.Decide.{ℕ_discrete, dec_lt}
use native.Mathlib.Omega.{arith}
use mathlib.Core.Path.{◌≡◌, refl, sym, ◌∙◌, ap, subst, subst₂}
use mathlib.Core.Logic.{◌⊎◌, inl, inr, ⊎_elim}
use mathlib.Core.Bool.{Bool, true, false}
use mathlib.Core.List.{List, [], ◌∷◌}
use lib.ListN.{get_or, get_or-append}
use lib.Seq.{get_or_at}
use Rattle.model.specs.Closure.{listed}
use Rattle.model.specs.Refusal.{ok}
use Rattle.model.specs.Rows.{Row, sheet, message, order, block, call, choice}
use Rattle.model.specs.Place.{BlockBefore, given, paired, through, with_message}
use Rattle.model.specs.Expansion.{fresh_walk, Progress, block_opened, call_made, message_met, order_met, expand}
use Rattle.model.specs.Order.{Event, send_of, receive_of, number, message_of, Exchange, is_own, Met, nothing_met, met_ops, exchange_of, Before, row, own, earlier, link}
use Rattle.model.specs.Answer.{exchange_with}
use Rattle.model.specs.NoCircle.{NoCircles}
use Rattle.model.proofs.Bounded.{not_both}
use Rattle.model.proofs.Refusal.{and_then_ok}
use Rattle.model.proofs.Block.{NoCircle, listed_more, listed_first, listed_later, own_pair_from}
use Rattle.model.proofs.Clean.{Ordered, ordered_empty, Clean, read_clean, sheet_clean}
use Rattle.model.proofs.Events.{own_parts}
use Rattle.model.proofs.Order.{earlier_parts}
use Rattle.model.proofs.Standing.{Fits, read_fits, sheet_fits}
use Rattle.model.proofs.Walks.{Kept, walk_keeps}
use Rattle.model.proofs.Walked.{Sound, Opened, sound_start, sound_kept}

-- the rows behind the open block begin with it clean
clean_head : (n : ℕ) (orders : List (ℕ × ℕ)) (rs : List Row) → Clean n orders rs → Ordered n orders
clean_head n orders [] h = h
clean_head n orders (sheet k ∷ rs) h = h.0
clean_head n orders (message a b ∷ rs) h = h.0
clean_head n orders (order x y ∷ rs) h = h.0
clean_head n orders (block ∷ rs) h = h.0
clean_head n orders (call k ∷ rs) h = h.0
clean_head n orders (choice j k ∷ rs) h = h.0

-- the block of message k
abbrev block_in : Progress Met → ℕ → ℕ
block_in s k = get_or s.kept.blocks k 0

-- a P row of the walk is a row of a block whose first message is `first`
pub record RowOf (first : ℕ) (orders : List (ℕ × ℕ)) (x y : ℕ) : Type 0 where
  pub before : ℕ
  pub behind : ℕ
  pub first_is : x ≡ 2 * first + before
  pub second_is : y ≡ 2 * first + behind
  pub is_row : listed before behind orders ≡ true

-- Block b of the walk: its first message, and its events and P rows, which have no circle.
pub record BlockOf (s : Progress Met) (b : ℕ) : Type 0 where
  pub first : ℕ
  pub events : ℕ
  pub orders : List (ℕ × ℕ)
  pub no_circle : NoCircle events orders
  pub messages : (k : ℕ) → k < s.walk.count → block_in s k ≡ b → (first ≤ k) × (2 * k + 1 < 2 * first + events)
  pub rows : (x y : ℕ) → listed x y s.kept.orders ≡ true → block_in s (x / 2) ≡ b → RowOf first orders x y

-- What is so wherever the walk stands: n events and these P rows in the open block; each earlier block; and no P row between two blocks.
pub record Blocks (s : Progress Met) (n : ℕ) (orders : List (ℕ × ℕ)) : Type 0 where
  pub size : 2 * s.walk.first + n ≡ 2 * s.walk.count
  pub no_circle : NoCircle n orders
  pub rows : (x y : ℕ) → listed x y s.kept.orders ≡ true → block_in s (x / 2) ≡ s.kept.open' → RowOf s.walk.first orders x y
  pub earlier_ones : (b : ℕ) → b < s.kept.open' → BlockOf s b
  pub one_block : (x y : ℕ) → listed x y s.kept.orders ≡ true → block_in s (x / 2) ≡ block_in s (y / 2)

blocks_start : Blocks (record { walk = fresh_walk; kept = nothing_met }) 0 []
unfolding listed
blocks_start =
    record {
      size = refl;
      no_circle = ordered_empty.no_circle;
      rows = λ x y l e. not_both false l refl;
      earlier_ones = λ b h. absurd (omega arith);
      one_block = λ x y l. refl;
    }

-- a message of the walk's is in the open block or in an earlier one
block_most : (s : Progress Met) → Sound s → (k : ℕ) → k < s.walk.count → block_in s k ≤ s.kept.open'
block_most s h k l = go (dec_lt k s.walk.first)
  where
    go : Dec (k < s.walk.first) → block_in s k ≤ s.kept.open'
    go (yes e) = omega (arith, h.earlier_blocks k e)
    go (no f) = omega (arith, h.open_block k (omega arith) l)

-- the messages of both events of a P row are there
row_messages : (s : Progress Met) → Sound s → (x y : ℕ) → listed x y s.kept.orders ≡ true → (x / 2 < s.walk.count) × (y / 2 < s.walk.count)
row_messages s h x y l =
    let p = h.orders_on_boards x y l in
    (omega (arith, p.first_there, h.events_length), omega (arith, p.second_there, h.events_length))

module _ (s : Progress Met) (n : ℕ) (orders : List (ℕ × ℕ)) (h : Sound s) (j : Blocks s n orders) where
  -- a message met
  module _ (a b : ℕ) where
    abbrev t : Progress Met
    t = message_met met_ops a b s

    old_block : (k : ℕ) → k < s.walk.count → block_in t k ≡ block_in s k
    unfolding message_met met_ops
    old_block k l = get_or-append s.kept.blocks (s.kept.open' ∷ []) 0 k (omega (arith, h.blocks_length))

    new_block : block_in t s.walk.count ≡ s.kept.open'
    unfolding message_met met_ops
    new_block = get_or_at s.kept.blocks s.kept.open' [] 0 s.walk.count h.blocks_length

    blocks_message : NoCircle (n + 2) orders → Blocks t (n + 2) orders
    unfolding message_met met_ops
    blocks_message clean =
        record {
          size = omega (arith, j.size);
          no_circle = clean;
          rows = λ x y l e. j.rows x y l (sym (old_block (x / 2) (row_messages s h x y l).0) ∙ e);
          earlier_ones = λ b o. let B = j.earlier_ones b o in
              record {
                first = B.first;
                events = B.events;
                orders = B.orders;
                no_circle = B.no_circle;
                messages = λ k l e. earlier_message b o k l e (dec_lt k s.walk.count);
                rows = λ x y l e. B.rows x y l (sym (old_block (x / 2) (row_messages s h x y l).0) ∙ e);
              };
          one_block = λ x y l. let p = row_messages s h x y l in old_block (x / 2) p.0 ∙ j.one_block x y l ∙ sym (old_block (y / 2) p.1);
        }
      where
        earlier_message : (b : ℕ) (o : b < s.kept.open') (k : ℕ) → k < suc s.walk.count → block_in t k ≡ b → Dec (k < s.walk.count)
            → ((j.earlier_ones b o).first ≤ k) × (2 * k + 1 < 2 * (j.earlier_ones b o).first + (j.earlier_ones b o).events)
        earlier_message b o k l e (yes m) = (j.earlier_ones b o).messages k m (sym (old_block k m) ∙ e)
        earlier_message b o k l e (no f) =
            let is : k ≡ s.walk.count = omega arith in
            absurd (omega (arith, o, sym (ap (λ (i : ℕ). block_in t i) is) ∙ e, new_block))

  -- a P row met
  module _ (x y : ℕ) (hx : x < n) (hy : y < n) where
    abbrev u : Progress Met
    u = order_met met_ops x y s

    -- both its events are in the open block
    in_open : (z : ℕ) → z < n → block_in s ((2 * s.walk.first + z) / 2) ≡ s.kept.open'
    in_open z l = h.open_block ((2 * s.walk.first + z) / 2) (omega arith) (omega (arith, j.size))

    blocks_order : NoCircle n ((x, y) ∷ orders) → Blocks u n ((x, y) ∷ orders)
    unfolding order_met met_ops
    blocks_order clean =
        record {
          size = j.size;
          no_circle = clean;
          rows = λ v w l e. ⊎_elim (λ p. the_row v w p) (λ m. more v w (j.rows v w m e)) (listed_more (2 * s.walk.first + x) (2 * s.walk.first + y) v w s.kept.orders l);
          earlier_ones = λ b o. let B = j.earlier_ones b o in
              record {
                first = B.first;
                events = B.events;
                orders = B.orders;
                no_circle = B.no_circle;
                messages = B.messages;
                rows = λ v w l e. ⊎_elim
                    (λ p. absurd (omega (arith, o, in_open x hx, sym (ap (λ (i : ℕ). block_in s (i / 2)) p.0) ∙ e)))
                    (λ m. B.rows v w m e)
                    (listed_more (2 * s.walk.first + x) (2 * s.walk.first + y) v w s.kept.orders l);
              };
          one_block = λ v w l. ⊎_elim
              (λ p. ap (λ (i : ℕ). block_in s (i / 2)) p.0 ∙ in_open x hx ∙ sym (in_open y hy) ∙ sym (ap (λ (i : ℕ). block_in s (i / 2)) p.1))
              (λ m. j.one_block v w m)
              (listed_more (2 * s.walk.first + x) (2 * s.walk.first + y) v w s.kept.orders l);
        }
      where
        the_row : (v w : ℕ) → (v ≡ 2 * s.walk.first + x) × (w ≡ 2 * s.walk.first + y) → RowOf s.walk.first ((x, y) ∷ orders) v w
        the_row v w p = record { before = x; behind = y; first_is = p.0; second_is = p.1; is_row = listed_first x y orders }

        more : (v w : ℕ) → RowOf s.walk.first orders v w → RowOf s.walk.first ((x, y) ∷ orders) v w
        more v w r =
            record {
              before = r.before;
              behind = r.behind;
              first_is = r.first_is;
              second_is = r.second_is;
              is_row = listed_later x y r.before r.behind orders r.is_row;
            }

  -- the open block, as one of the walk's
  open_one : BlockOf s s.kept.open'
  open_one =
      record {
        first = s.walk.first;
        events = n;
        orders = orders;
        no_circle = j.no_circle;
        messages = λ k l e. go k l e (dec_lt k s.walk.first);
        rows = j.rows;
      }
    where
      go : (k : ℕ) → k < s.walk.count → block_in s k ≡ s.kept.open' → Dec (k < s.walk.first) → (s.walk.first ≤ k) × (2 * k + 1 < 2 * s.walk.first + n)
      go k l e (yes m) = absurd (omega (arith, h.earlier_blocks k m))
      go k l e (no m) = (omega arith, omega (arith, j.size))

  -- a block opened
  blocks_opened : Blocks (block_opened met_ops s) 0 []
  unfolding block_opened met_ops
  blocks_opened =
      record {
        size = omega arith;
        no_circle = ordered_empty.no_circle;
        rows = λ x y l e. let p = row_messages s h x y l in absurd (omega (arith, block_most s h (x / 2) p.0, e));
        earlier_ones = λ b o. go b o (ℕ_discrete b s.kept.open');
        one_block = j.one_block;
      }
    where
      same : (b : ℕ) → BlockOf s b → BlockOf (block_opened met_ops s) b
      same b B = record { first = B.first; events = B.events; orders = B.orders; no_circle = B.no_circle; messages = B.messages; rows = B.rows }

      go : (b : ℕ) → b < suc s.kept.open' → Dec (b ≡ s.kept.open') → BlockOf (block_opened met_ops s) b
      go b o (yes e) = same b (subst (λ (c : ℕ). BlockOf s c) (sym e) open_one)
      go b o (no f) = same b (j.earlier_ones b (omega arith))

  blocks_made : (by_choice : Bool) → Blocks (call_made met_ops by_choice s) n orders
  unfolding call_made
  blocks_made by_choice =
      record {
        size = j.size;
        no_circle = j.no_circle;
        rows = j.rows;
        earlier_ones = λ b o. let B = j.earlier_ones b o in
            record { first = B.first; events = B.events; orders = B.orders; no_circle = B.no_circle; messages = B.messages; rows = B.rows };
        one_block = j.one_block;
      }

-- The boards, the number and the P rows of the open block's events, as far as the walk has met them.
pub record Open : Type 0 where
  pub boards : List ℕ
  pub events : ℕ
  pub orders : List (ℕ × ℕ)

-- every row keeps it, where the reading found the open block clean
blocks_kept : Kept Open (λ (q : Open) (rs : List Row). Fits q.boards rs × Clean q.events q.orders rs)
    (λ (q : Open) (s : Progress Met). (Sound s × Opened s q.boards) × Blocks s q.events q.orders)
blocks_kept =
    record {
      empty = record { boards = []; events = 0; orders = [] };
      with_message = λ q a b. record { boards = with_message q.boards a b; events = q.events + 2; orders = q.orders };
      with_order = λ q x y. record { boards = q.boards; events = q.events; orders = (x, y) ∷ q.orders };
      message = λ q a b rs s f h room.
          let p = sound_kept.message q.boards a b rs s f.0 h.0 room in (
            (p.0, f.1.1),
            (p.1, blocks_message s q.events q.orders h.0.0 h.1 a b (clean_head (q.events + 2) q.orders rs f.1.1).no_circle),
          );
      order = λ q x y rs s f h.
          let p = sound_kept.order q.boards x y rs s f.0 h.0 in
          let c = clean_head q.events ((x, y) ∷ q.orders) rs f.1.1 in
          let i = c.inside x y (listed_first x y q.orders) in
          ((p.0, f.1.1), (p.1, blocks_order s q.events q.orders h.0.0 h.1 x y i.0 i.1 c.no_circle));
      opened = λ q s h. (sound_kept.opened q.boards s h.0, blocks_opened s q.events q.orders h.0.0 h.1);
      made = λ q by_choice s h room. (
        sound_kept.made q.boards by_choice s h.0 room,
        blocks_made s q.events q.orders h.0.0 h.1 by_choice,
      );
      behind_block = λ q rs f. (f.0, f.1.1);
      behind_call = λ q n rs f. (f.0, f.1.1);
      behind_choice = λ q m n rs f. (f.0, f.1.1);
    }

-- A walk whose blocks have no circle.
module _ (s : Progress Met) (n : ℕ) (orders : List (ℕ × ℕ)) (h : Sound s) (j : Blocks s n orders) where
  -- every block, those too that the walk has not come to
  one_of : (b : ℕ) → BlockOf s b
  one_of b = go (dec_lt b s.kept.open') (ℕ_discrete b s.kept.open')
    where
      go : Dec (b < s.kept.open') → Dec (b ≡ s.kept.open') → BlockOf s b
      go (yes l) d = j.earlier_ones b l
      go (no f) (yes e) = subst (λ (c : ℕ). BlockOf s c) (sym e) (open_one s n orders h j)
      go (no f) (no g) =
          record {
            first = 0;
            events = 0;
            orders = [];
            no_circle = ordered_empty.no_circle;
            messages = λ k l e. absurd (omega (arith, block_most s h k l));
            rows = λ x y l e. absurd (omega (arith, block_most s h (x / 2) (row_messages s h x y l).0, e));
          }

  abbrev block_at : Event → ℕ
  block_at x = block_in s (message_of x)

  -- x is before y by the rows of block b
  abbrev WithinBlock : ℕ → Event → Event → Type 0
  WithinBlock b x y = BlockBefore (one_of b).events (one_of b).orders (number x - 2 * (one_of b).first) (number y - 2 * (one_of b).first)

  -- a link leads to a later block, or stays in one and comes from its rows
  abbrev Leads : Event → Event → Type 0
  Leads x y = (block_at x < block_at y) ⊎ ((block_at x ≡ block_at y) × WithinBlock (block_at x) x y)

  half : (x : Event) → number x / 2 ≡ message_of x
  unfolding number message_of
  half (send_of m) = omega arith
  half (receive_of m) = omega arith

  row_leads : (x y : Event) → (exchange_of s).ordered x y ≡ true → Leads x y
  unfolding exchange_of
  row_leads x y l =
      let in-x : block_in s (number x / 2) ≡ block_at x = ap (block_in s) (half x) in
      let B = one_of (block_at x) in
      let r = B.rows (number x) (number y) l in-x in
      inr (
        sym in-x ∙ j.one_block (number x) (number y) l ∙ ap (block_in s) (half y),
        subst₂ (BlockBefore B.events B.orders) (omega (arith, r.first_is)) (omega (arith, r.second_is)) (given r.is_row),
      )

  own_leads : (x y : Event) → is_own (exchange_of s).count x y ≡ true → Leads x y
  unfolding exchange_of number message_of
  own_leads x y o = let p = own_parts (exchange_of s).count x y o in subst₂ Leads (sym p.1) (sym p.2) (pair p.0 p.3)
    where
      pair : (m : ℕ) → m < s.walk.count → Leads (send_of m) (receive_of m)
      pair m l =
          let B = one_of (block_in s m) in
          let i = B.messages m l refl in
          inr (refl, paired (own_pair_from B.events (2 * m - 2 * B.first) (2 * m + 1 - 2 * B.first) (omega (arith, i.0)) (omega (arith, i.0)) (omega (arith, i.1))))

  leads : {x y : Event} → Before (exchange_of s) x y → Leads x y
  unfolding exchange_of
  leads (row {x = x} {y = y} l) = row_leads x y l
  leads (own {x = x} {y = y} o) = own_leads x y o
  leads (earlier {x = x} {y = y} e) = inl (earlier_parts (exchange_of s) x y e).later_block
  leads (link {x = x} {y = y} {z = z} p q) = joined (leads p) (leads q)
    where
      joined : Leads x y → Leads y z → Leads x z
      joined (inl a) (inl b) = inl (omega arith)
      joined (inl a) (inr b) = inl (omega (arith, b.0))
      joined (inr a) (inl b) = inl (omega (arith, a.0))
      joined (inr a) (inr b) = inr (a.0 ∙ b.0, through a.1 (subst (λ (c : ℕ). WithinBlock c y z) (sym a.0) b.1))

  pub none_before_itself : (x : Event) → Before (exchange_of s) x x → ⊥
  none_before_itself x p = ⊎_elim (λ l. absurd (omega (arith, l))) (λ w. (one_of (block_at x)).no_circle (number x - 2 * (one_of (block_at x)).first) w.1) (leads p)

-- what holds of a walk over rows that the reading found to fit and to be clean
pub walk_no_circle : (options : List Bool) (file : List Row) → Fits [] file → Clean 0 [] file → (s : Progress Met)
    → expand met_ops options file nothing_met ≡ ok s → (x : Event) → Before (exchange_of s) x x → ⊥
unfolding blocks_kept
walk_no_circle options file fits clean s w x p =
    let k = walk_keeps blocks_kept options file (λ n. (sheet_fits n [] file fits, sheet_clean n 0 [] file clean)) s ((sound_start, refl), blocks_start) w in
    none_before_itself s k.0.events k.0.orders k.1.0.0 k.1.1 x p

-- request (h)
pub no_circles_holds : NoCircles
unfolding exchange_with
no_circles_holds choices text file options E read met x p =
    let d = and_then_ok (expand met_ops options file nothing_met) (λ s. ok (exchange_of s)) E met in
    let same : exchange_of d.0 ≡ E = cc d.2 in
    walk_no_circle options file (read_fits choices text file read) (read_clean choices text file read) d.0 d.1 x
    (subst (λ (F : Exchange). Before F x x) (sym same) p)
