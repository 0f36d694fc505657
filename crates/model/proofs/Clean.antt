-- No block of a text that is read has a circle, called or not. Assumes nothing.
use Prim.Native.Nat.{ℕ, suc, ◌+◌, ◌*◌}
use native.Mathlib.Omega.{arith}
use mathlib.Core.Path.{◌≡◌, refl, sym, subst}
use mathlib.Core.Bool.{Bool, true, false, not, ◌&&◌}
use mathlib.Core.List.{List, [], ◌∷◌}
use mathlib.Core.Logic.{⊎_elim}
use mathlib.Core.Option.{some}
use lib.Dec.{eqb, ltb}
use lib.ListN.{length, drop, length-append}
use Rattle.model.specs.Limits.{sheets}
use Rattle.model.specs.Bounded.{among}
use Rattle.model.specs.Closure.{listed}
use Rattle.model.specs.Refusal.{ok, refusal}
use Rattle.model.specs.Text.{Line, Columns}
use Rattle.model.specs.Rows.{Row, sheet, message, order, block, call, choice}
use Rattle.model.specs.Place.{Place, outside, message_fits, order_fits, moved, circle_at, judged, rows_from, read_with}
use Rattle.model.specs.Circle.{Reached, at_start, behind_row, Circle, FirstCircle}
use Rattle.model.specs.Expansion.{start_of}
use Rattle.model.proofs.Bounded.{not_both, which}
use Rattle.model.proofs.Refusal.{passed}
use Rattle.model.proofs.Standing.{cond_some, placed_moved, judged_row, read_parts}
use Rattle.model.proofs.Walked.{order_parts}
use Rattle.model.proofs.Block.{Inside, inside_more, NoCircle, before_below, block_exact, circle_none, circle_some, message_no_circle}

-- What holds of the open block, wherever the reader stands: two events a message, P rows between them, and no circle.
pub record Ordered (n : ℕ) (orders : List (ℕ × ℕ)) : Type 0 where
  pub messages : ℕ
  pub two_each : n ≡ 2 * messages
  pub inside : Inside n orders
  pub no_circle : NoCircle n orders

pub ordered_empty : Ordered 0 []
unfolding listed
ordered_empty =
    record {
      messages = 0;
      two_each = refl;
      inside = none_listed;
      no_circle = λ e p. omega (arith, (before_below 0 [] e e ((block_exact 0 [] none_listed e e).1 p)).0);
    }
  where
    none_listed : Inside 0 []
    none_listed x y l = not_both false l refl

pub ordered_message : (n : ℕ) (orders : List (ℕ × ℕ)) → Ordered n orders → Ordered (n + 2) orders
ordered_message n orders h =
    let m = h.messages in
    let same : 2 * m ≡ n = sym h.two_each in
    let inside : Inside (2 * m) orders = subst (λ (k : ℕ). Inside k orders) h.two_each h.inside in
    let none : NoCircle (2 * m) orders = subst (λ (k : ℕ). NoCircle k orders) h.two_each h.no_circle in
    record {
      messages = suc m;
      two_each = omega arith;
      inside = λ x y l. let p = h.inside x y l in (omega (arith, p.0), omega (arith, p.1));
      no_circle = subst (λ (k : ℕ). NoCircle (k + 2) orders) same (message_no_circle m orders inside none);
    }

-- every row that is judged well keeps it
pub judged_ordered : (p q : Place) (r : Row) → moved p r ≡ some q → circle_at r q ≡ false
    → Ordered (length p.events) p.orders → Ordered (length q.events) q.orders
unfolding moved circle_at
judged_ordered p q (sheet n) e c h =
    subst (λ (z : Place). Ordered (length z.events) z.orders) (cond_some (ltb n sheets && not (among n p.opened)) _ q e).1 ordered_empty
judged_ordered p q (message a b) e c h =
    subst (λ (z : Place). Ordered (length z.events) z.orders) (cond_some (message_fits p.events a b) _ q e).1
    (rw (length-append p.events (a ∷ b ∷ [])) (ordered_message (length p.events) p.orders h))
judged_ordered p q (order x y) e c h =
    let t = cond_some (order_fits p.events x y) _ q e in
    let o = order_parts p.events x y t.0 in
    let inside = inside_more (length p.events) x y p.orders h.inside o.first_there o.second_there in
    let c' : circle_at (order x y) (record { opened = p.opened; events = p.events; orders = (x, y) ∷ p.orders }) ≡ false =
    subst (λ (z : Place). circle_at (order x y) z ≡ false) (sym t.1) c in
    subst (λ (z : Place). Ordered (length z.events) z.orders) t.1
    (record {
      messages = h.messages;
      two_each = h.two_each;
      inside = inside;
      no_circle = circle_none (length p.events) ((x, y) ∷ p.orders) inside c';
    })
judged_ordered p q block e c h =
    subst (λ (z : Place). Ordered (length z.events) z.orders) (cond_some true _ q e).1 ordered_empty
judged_ordered p q (call n) e c h =
    subst (λ (z : Place). Ordered (length z.events) z.orders) (cond_some (ltb n sheets) _ q e).1 ordered_empty
judged_ordered p q (choice m n) e c h =
    subst (λ (z : Place). Ordered (length z.events) z.orders) (cond_some (ltb m sheets && ltb n sheets) _ q e).1 ordered_empty

-- so at every place that the reading comes to
reached_ordered : (p : Place) → Reached p → Ordered (length p.events) p.orders
reached_ordered p at_start = ordered_empty
reached_ordered p (behind_row ahead q r h placed none) =
    judged_ordered ahead q r (placed_moved ahead q r placed) none (reached_ordered ahead h)

-- a row that closes a circle is a P row, and the circle is there
closes : (r : Row) (q : Place) → circle_at r q ≡ true → Circle q
unfolding circle_at
closes (sheet n) q c = not_both false c refl
closes (message a b) q c = not_both false c refl
closes (order x y) q c = circle_some (length q.events) q.orders c
closes block q c = not_both false c refl
closes (call n) q c = not_both false c refl
closes (choice m n) q c = not_both false c refl

-- request (b)
pub first_circle_holds : FirstCircle
first_circle_holds p q r reached placed =
    (λ c. ordered.no_circle c.0 c.1, (closes r q, λ c. ⊎_elim (λ t. t) (λ f. absurd ((behind f).no_circle c.0 c.1)) (which (circle_at r q))))
  where
    ordered : Ordered (length p.events) p.orders
    ordered = reached_ordered p reached

    behind : circle_at r q ≡ false → Ordered (length q.events) q.orders
    behind f = judged_ordered p q r (placed_moved p q r placed) f ordered

-- The rows, behind so many events and P rows of the open block, leave every block without a circle.
abbrev pub Clean : ℕ → List (ℕ × ℕ) → List Row → Type 0
Clean n orders [] = Ordered n orders
Clean n orders (sheet k ∷ rs) = Ordered n orders × Clean 0 [] rs
Clean n orders (message a b ∷ rs) = Ordered n orders × Clean (n + 2) orders rs
Clean n orders (order x y ∷ rs) = Ordered n orders × Clean n ((x, y) ∷ orders) rs
Clean n orders (block ∷ rs) = Ordered n orders × Clean 0 [] rs
Clean n orders (call k ∷ rs) = Ordered n orders × Clean 0 [] rs
Clean n orders (choice j k ∷ rs) = Ordered n orders × Clean 0 [] rs

moved_clean : (p q : Place) (r : Row) (rs : List Row) → moved p r ≡ some q → Ordered (length p.events) p.orders
    → Clean (length q.events) q.orders rs → Clean (length p.events) p.orders (r ∷ rs)
unfolding moved
moved_clean p q (sheet n) rs e h f =
    (h, subst (λ (z : Place). Clean (length z.events) z.orders rs) (sym (cond_some (ltb n sheets && not (among n p.opened)) _ q e).1) f)
moved_clean p q (message a b) rs e h f = (
  h,
  subst (λ (k : ℕ). Clean k p.orders rs) (length-append p.events (a ∷ b ∷ []))
      (subst (λ (z : Place). Clean (length z.events) z.orders rs) (sym (cond_some (message_fits p.events a b) _ q e).1) f),
)
moved_clean p q (order x y) rs e h f =
    (h, subst (λ (z : Place). Clean (length z.events) z.orders rs) (sym (cond_some (order_fits p.events x y) _ q e).1) f)
moved_clean p q block rs e h f =
    (h, subst (λ (z : Place). Clean (length z.events) z.orders rs) (sym (cond_some true _ q e).1) f)
moved_clean p q (call n) rs e h f =
    (h, subst (λ (z : Place). Clean (length z.events) z.orders rs) (sym (cond_some (ltb n sheets) _ q e).1) f)
moved_clean p q (choice m n) rs e h f =
    (h, subst (λ (z : Place). Clean (length z.events) z.orders rs) (sym (cond_some (ltb m sheets && ltb n sheets) _ q e).1) f)

rows_clean : (choices : Bool) (c : Columns) (i : ℕ) (p : Place) (ls : List Line) (rs : List Row) → rows_from choices c i p ls ≡ ok rs
    → Ordered (length p.events) p.orders → Clean (length p.events) p.orders rs
unfolding rows_from
rows_clean choices c i p [] rs e h = let t : [] ≡ rs = cc in subst (λ (z : List Row). Clean (length p.events) p.orders z) t h
rows_clean choices c i p (l ∷ ls) rs e h =
    let s = passed (judged choices c i p l) (λ rp. elim (rows_from choices c (suc i) rp.1 ls) [ refusal number line ↦ refusal number line | ok rs' ↦ ok (rp.0 ∷ rs') ]) rs e in
    let rp = s.0 in
    let j = judged_row choices c i p l rp s.1 in
    let t = passed (rows_from choices c (suc i) rp.1 ls) (λ rs'. ok (rp.0 ∷ rs')) rs s.2 in
    let e' : rp.0 ∷ t.0 ≡ rs = cc t.2 in
    subst (λ (z : List Row). Clean (length p.events) p.orders z) e'
    (moved_clean p rp.1 rp.0 t.0 j.allowed h
    (rows_clean choices c (suc i) rp.1 ls t.0 t.1 (judged_ordered p rp.1 rp.0 j.allowed j.no_circle h)))

-- the rows of a text that is read have no circle in any block
pub read_clean : (choices : Bool) (text : List ℕ) (rs : List Row) → read_with choices text ≡ ok rs → Clean 0 [] rs
read_clean choices text rs e = let p = read_parts choices text rs e in rows_clean choices p.columns 0 outside p.lines rs p.read ordered_empty

-- and so have the rows behind each sheet's S row
pub sheet_clean : (k n : ℕ) (orders : List (ℕ × ℕ)) (rs : List Row) → Clean n orders rs → Clean 0 [] (drop (start_of k rs) rs)
unfolding start_of
sheet_clean k n orders [] f = ordered_empty
sheet_clean k n orders (sheet m ∷ rs) f = go (eqb m k) (sheet_clean k 0 [] rs f.1)
  where
    go : (b : Bool) → Clean 0 [] (drop (start_of k rs) rs) → Clean 0 [] (drop (elim b [ true ↦ 1 | false ↦ suc (start_of k rs) ]) (sheet m ∷ rs))
    go true g = f.1
    go false g = g
sheet_clean k n orders (message a b ∷ rs) f = sheet_clean k (n + 2) orders rs f.1
sheet_clean k n orders (order x y ∷ rs) f = sheet_clean k n ((x, y) ∷ orders) rs f.1
sheet_clean k n orders (block ∷ rs) f = sheet_clean k 0 [] rs f.1
sheet_clean k n orders (call m ∷ rs) f = sheet_clean k 0 [] rs f.1
sheet_clean k n orders (choice j m ∷ rs) f = sheet_clean k 0 [] rs f.1
