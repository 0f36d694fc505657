-- An invariant of walks: what every message, P row and block keeps is so wherever a walk comes to, on any list of options.
-- Assumes nothing.
use Prim.Native.Nat.{ℕ, zero, suc, ◌<◌}
use mathlib.Core.Path.{◌≡◌, refl, subst}
use mathlib.Core.Bool.{Bool, true, false, ◌&&◌}
use mathlib.Core.List.{List, [], ◌∷◌}
use lib.Dec.{leb, ltb}
use lib.ListN.{length, drop}
use borrow.Author.Tests.{ltb-true}
use Rattle.model.specs.Limits.{messages_most, levels, calls_most}
use Rattle.model.specs.Refusal.{Out, ok, refusal, calls_refusal, messages_refusal, choices_refusal}
use Rattle.model.specs.Rows.{Row, sheet, message, order, block, call, choice}
use Rattle.model.specs.Place.{line_of}
use Rattle.model.specs.Expansion.{fresh_walk, Progress, start_of, block_opened, taken, call_made, message_met, order_met, walk_rows, call_at, expand}
use Rattle.model.specs.Order.{Met, nothing_met, met_ops}
use Rattle.model.proofs.Refusal.{not_refused, and_then_ok}

-- Q is what is known of the open block, Fit says which rows may stand behind it, and Inv what is so of a walk with such a block open.
pub record Kept (Q : Type 0) (Fit : Q → List Row → Type 0) (Inv : Q → Progress Met → Type 0) : Type 0 where
  pub empty : Q
  pub with_message : Q → ℕ → ℕ → Q
  pub with_order : Q → ℕ → ℕ → Q
  pub message : (q : Q) (a b : ℕ) (rs : List Row) (s : Progress Met) → Fit q (message a b ∷ rs) → Inv q s → s.walk.count < messages_most
      → Fit (with_message q a b) rs × Inv (with_message q a b) (message_met met_ops a b s)
  pub order : (q : Q) (x y : ℕ) (rs : List Row) (s : Progress Met) → Fit q (order x y ∷ rs) → Inv q s
      → Fit (with_order q x y) rs × Inv (with_order q x y) (order_met met_ops x y s)
  pub opened : (q : Q) (s : Progress Met) → Inv q s → Inv empty (block_opened met_ops s)
  pub made : (q : Q) (by_choice : Bool) (s : Progress Met) → Inv q s → s.walk.calls < calls_most → Inv q (call_made met_ops by_choice s)
  -- behind a row that opens a block the rows fit an empty one
  pub behind_block : (q : Q) (rs : List Row) → Fit q (block ∷ rs) → Fit empty rs
  pub behind_call : (q : Q) (n : ℕ) (rs : List Row) → Fit q (call n ∷ rs) → Fit empty rs
  pub behind_choice : (q : Q) (m n : ℕ) (rs : List Row) → Fit q (choice m n ∷ rs) → Fit empty rs

module _ {Q : Type 0} {Fit : Q → List Row → Type 0} {Inv : Q → Progress Met → Type 0} (K : Kept Q Fit Inv) (options : List Bool) where
  -- it is so with some block open
  abbrev Some : Progress Met → Type 0
  Some s = (q : Q) × Inv q s

  abbrev Keeps : (Bool → ℕ → ℕ → Progress Met → Out (Progress Met)) → Type 0
  Keeps call_of = (by_choice : Bool) (n line : ℕ) (q : Q) (s t : Progress Met) → Inv q s → call_of by_choice n line s ≡ ok t → Some t

  -- the rows of a sheet keep it, if the calls in them do
  rows_keep : (call_of : Bool → ℕ → ℕ → Progress Met → Out (Progress Met)) → Keeps call_of
      → (q : Q) (rs : List Row) (line : ℕ) (s t : Progress Met) → Fit q rs → Inv q s → walk_rows met_ops options call_of rs line s ≡ ok t → Some t
  unfolding walk_rows
  rows_keep call_of keeps q [] line s t f h w = let same : s ≡ t = cc in subst Some same (q, h)
  rows_keep call_of keeps q (sheet n ∷ rs) line s t f h w = let same : s ≡ t = cc in subst Some same (q, h)
  rows_keep call_of keeps q (message a b ∷ rs) line s t f h w =
      go (ltb s.walk.count messages_most) refl w (rows_keep call_of keeps (K.with_message q a b) rs (suc line) (message_met met_ops a b s) t)
    where
      go : (c : Bool) → ltb s.walk.count messages_most ≡ c
          → elim c [ true ↦ walk_rows met_ops options call_of rs (suc line) (message_met met_ops a b s) | false ↦ refusal messages_refusal line ] ≡ ok t
          → (Fit (K.with_message q a b) rs → Inv (K.with_message q a b) (message_met met_ops a b s)
          → walk_rows met_ops options call_of rs (suc line) (message_met met_ops a b s) ≡ ok t → Some t)
          → Some t
      go true room w behind = let p = K.message q a b rs s f h (ltb-true s.walk.count messages_most room) in behind p.0 p.1 w
      go false room w behind = not_refused w
  rows_keep call_of keeps q (order x y ∷ rs) line s t f h w =
      let p = K.order q x y rs s f h in rows_keep call_of keeps (K.with_order q x y) rs (suc line) (order_met met_ops x y s) t p.0 p.1 w
  rows_keep call_of keeps q (block ∷ rs) line s t f h w =
      rows_keep call_of keeps K.empty rs (suc line) (block_opened met_ops s) t (K.behind_block q rs f) (K.opened q s h) w
  rows_keep call_of keeps q (call n ∷ rs) line s t f h w =
      let c = and_then_ok (call_of false n line s) (λ u. walk_rows met_ops options call_of rs (suc line) (block_opened met_ops u)) t w in
      let g = keeps false n line q s c.0 h c.1 in
      rows_keep call_of keeps K.empty rs (suc line) (block_opened met_ops c.0) t (K.behind_call q n rs f) (K.opened g.0 c.0 g.1) c.2
  rows_keep call_of keeps q (choice m n ∷ rs) line s t f h w =
      let k = taken options s.walk.choices m n in
      let c = and_then_ok (call_of true k line s) (λ u. walk_rows met_ops options call_of rs (suc line) (block_opened met_ops u)) t w in
      let g = keeps true k line q s c.0 h c.1 in
      rows_keep call_of keeps K.empty rs (suc line) (block_opened met_ops c.0) t (K.behind_choice q m n rs f) (K.opened g.0 c.0 g.1) c.2

  -- the rows of every sheet of the file fit an empty block
  module _ (file : List Row) (fits : (n : ℕ) → Fit K.empty (drop (start_of n file) file)) where
    -- so each level of calls keeps it
    call_keeps : (left : ℕ) → Keeps (call_at met_ops options left file)
    unfolding call_at
    call_keeps zero by_choice n line q s t h w = not_refused w
    call_keeps (suc left) by_choice n line q s t h w =
        go (ltb s.walk.calls calls_most) refl (by_choice && leb (length options) s.walk.choices) w (call_keeps left)
      where
        go : (c : Bool) → ltb s.walk.calls calls_most ≡ c → (d : Bool)
            → elim c [
              | true ↦ elim d [
                | true ↦ refusal choices_refusal line
                | false ↦ walk_rows met_ops options (call_at met_ops options left file) (drop (start_of n file) file) (line_of (start_of n file))
                    (block_opened met_ops (call_made met_ops by_choice s))
              ]
              | false ↦ refusal calls_refusal line
            ] ≡ ok t
            → Keeps (call_at met_ops options left file)
            → Some t
        go true room true w keeps = not_refused w
        go true room false w keeps =
            let g = K.made q by_choice s h (ltb-true s.walk.calls calls_most room) in
            rows_keep (call_at met_ops options left file) keeps K.empty (drop (start_of n file) file) (line_of (start_of n file))
            (block_opened met_ops (call_made met_ops by_choice s)) t (fits n) (K.opened q (call_made met_ops by_choice s) g) w
        go false room d w keeps = not_refused w

    -- and so does the whole walk
    pub walk_keeps : (t : Progress Met) → Inv K.empty (record { walk = fresh_walk; kept = nothing_met }) → expand met_ops options file nothing_met ≡ ok t
        → (q : Q) × Inv q t
    unfolding expand
    walk_keeps t h w =
        rows_keep (call_at met_ops options levels file) (call_keeps levels) K.empty (drop (start_of 0 file) file) (line_of (start_of 0 file))
        (record { walk = fresh_walk; kept = nothing_met }) t (fits 0) h w
