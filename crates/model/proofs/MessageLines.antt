-- The lines that a walk meets are those of its messages' M rows: the walk over the rows with their lines goes as the walk over the rows.
-- Assumes nothing.
use Prim.Native.Nat.{ℕ, zero, suc, ◌+◌, ◌*◌, ◌<◌}
use native.Mathlib.Nat.{zero-add, add-zero, eq-or-lt_of_le, le_of_suc-le-suc, not-suc-le-zero}
use native.Mathlib.Omega.{arith}
use mathlib.Core.Path.{◌≡◌, refl, sym, ◌∙◌, ap, subst}
use mathlib.Core.Logic.{⊎_elim}
use mathlib.Core.Bool.{Bool, true, false, ◌&&◌}
use mathlib.Core.List.{List, [], ◌∷◌, ◌++◌}
use lib.Dec.{eqb, leb, ltb}
use lib.ListN.{length, get_or, drop, length-append, get_or-append}
use lib.Seq.{get_or-drop, get_or_at, get_or-append-add, drop-drop}
use Rattle.model.specs.Limits.{messages_most, levels, calls_most}
use Rattle.model.specs.Refusal.{Out, ok, refusal, and_then, calls_refusal, messages_refusal, choices_refusal}
use Rattle.model.specs.Rows.{Row, sheet, message, order, block, call, choice}
use Rattle.model.specs.Place.{line_of}
use Rattle.model.specs.Expansion.{Walk, fresh_walk, Progress, start_of, block_opened, taken, call_made, message_met, order_met, walk_rows, call_at, expand}
use Rattle.model.specs.Order.{Met, nothing_met, met_ops}
use Rattle.model.proofs.Bounded.{not_both}
use Rattle.model.specs.Senders.{lined, with_lines, line_ops}

-- the rows with their lines: from a later row on, and where each sheet starts
lines_drop : (k i : ℕ) (rs : List Row) → drop k (with_lines i rs) ≡ with_lines (i + k) (drop k rs)
unfolding with_lines
lines_drop zero i rs = rw (add-zero i)
lines_drop (suc k) i [] = refl
lines_drop (suc k) i (r ∷ rs) = let e : suc i + k ≡ i + suc k = omega arith in lines_drop k (suc i) rs ∙ rw e

pub start_lined : (n i : ℕ) (rs : List Row) → start_of n (with_lines i rs) ≡ start_of n rs
unfolding start_of with_lines lined
start_lined n i [] = refl
start_lined n i (sheet m ∷ rs) = go (eqb m n) (start_lined n (suc i) rs)
  where
    go : (c : Bool) → start_of n (with_lines (suc i) rs) ≡ start_of n rs
        → ◌≡◌ {A = ℕ} (elim c [ true ↦ 1 | false ↦ suc (start_of n (with_lines (suc i) rs)) ]) (elim c [ true ↦ 1 | false ↦ suc (start_of n rs) ])
    go true e = refl
    go false e = ap suc e
start_lined n i (message a b ∷ rs) = ap suc (start_lined n (suc i) rs)
start_lined n i (order x y ∷ rs) = ap suc (start_lined n (suc i) rs)
start_lined n i (block ∷ rs) = ap suc (start_lined n (suc i) rs)
start_lined n i (call m ∷ rs) = ap suc (start_lined n (suc i) rs)
start_lined n i (choice k m ∷ rs) = ap suc (start_lined n (suc i) rs)

module _ (file : List Row) where
  -- a line of a row `M a b`
  pub record AtRow (line a b : ℕ) : Type 0 where
    pub row : ℕ
    pub at_line : line ≡ line_of row
    pub is_message : get_or file row block ≡ message a b

  -- the two walks stand at the same place, and each message has the line of its row
  pub record Alike (p : Progress Met) (q : Progress (List ℕ)) : Type 0 where
    pub walk : q.walk ≡ p.walk
    pub events : length p.kept.events ≡ 2 * p.walk.count
    pub lines : length q.kept ≡ p.walk.count
    pub rows : (m : ℕ) → m < p.walk.count → AtRow (get_or q.kept m 0) (get_or p.kept.events (2 * m) 0) (get_or p.kept.events (2 * m + 1) 0)

  abbrev pub Both : Out (Progress Met) → Out (Progress (List ℕ)) → Type 0
  Both (ok p) (ok q) = Alike p q
  Both (ok p) (refusal number line) = ⊥
  Both (refusal number line) (ok q) = ⊥
  Both (refusal number line) (refusal number' line') = Unit {0}

  both_then : (o : Out (Progress Met)) (o' : Out (Progress (List ℕ))) (f : Progress Met → Out (Progress Met)) (g : Progress (List ℕ) → Out (Progress (List ℕ)))
      → Both o o' → ((p : Progress Met) (q : Progress (List ℕ)) → Alike p q → Both (f p) (g q)) → Both (and_then o f) (and_then o' g)
  unfolding and_then
  both_then (ok p) (ok q) f g h k = k p q h
  both_then (ok p) (refusal number line) f g h k = absurd h
  both_then (refusal number line) (ok q) f g h k = absurd h
  both_then (refusal number line) (refusal number' line') f g h k = tt

  -- a block opened, a call made, a P row met
  alike_block : (p : Progress Met) (q : Progress (List ℕ)) → Alike p q → Alike (block_opened met_ops p) (block_opened line_ops q)
  unfolding block_opened met_ops line_ops
  alike_block p q h = record { walk = rw h.walk; events = h.events; lines = h.lines; rows = h.rows }

  alike_call : (by_choice : Bool) (p : Progress Met) (q : Progress (List ℕ)) → Alike p q → Alike (call_made met_ops by_choice p) (call_made line_ops by_choice q)
  unfolding call_made
  alike_call by_choice p q h = record { walk = rw h.walk; events = h.events; lines = h.lines; rows = h.rows }

  alike_order : (x y x' y' : ℕ) (p : Progress Met) (q : Progress (List ℕ)) → Alike p q → Alike (order_met met_ops x y p) (order_met line_ops x' y' q)
  unfolding order_met met_ops line_ops
  alike_order x y x' y' p q h = record { walk = h.walk; events = h.events; lines = h.lines; rows = h.rows }

  -- a message met, from the row with number i
  alike_message : (i a b : ℕ) (p : Progress Met) (q : Progress (List ℕ)) → get_or file i block ≡ message a b → Alike p q
      → Alike (message_met met_ops a b p) (message_met line_ops (line_of i) b q)
  unfolding message_met met_ops line_ops
  alike_message i a b p q e h =
      record {
        walk = rw h.walk;
        events = omega (arith, length-append p.kept.events (a ∷ b ∷ []), h.events);
        lines = omega (arith, length-append q.kept (line_of i ∷ []), h.lines);
        rows = λ m l. ⊎_elim (λ (d : m ≡ p.walk.count). new m d) (λ (d : m < p.walk.count). old m d) (eq-or-lt_of_le (le_of_suc-le-suc l));
      }
    where
      new : (m : ℕ) → m ≡ p.walk.count
          → AtRow (get_or (q.kept ++ (line_of i ∷ [])) m 0) (get_or (p.kept.events ++ (a ∷ b ∷ [])) (2 * m) 0) (get_or (p.kept.events ++ (a ∷ b ∷ [])) (2 * m + 1) 0)
      new m d =
          let two : length p.kept.events ≡ 2 * m = omega (arith, h.events) in
          let one : get_or (p.kept.events ++ (a ∷ b ∷ [])) (2 * m) 0 ≡ a = get_or_at p.kept.events a (b ∷ []) 0 (2 * m) two in
          let next : get_or (p.kept.events ++ (a ∷ b ∷ [])) (2 * m + 1) 0 ≡ b = rw (← two) (get_or-append-add p.kept.events (a ∷ b ∷ []) 1 0) in
          record {
            row = i;
            at_line = get_or_at q.kept (line_of i) [] 0 m (omega (arith, h.lines));
            is_message = rw (one, next) e;
          }

      old : (m : ℕ) → m < p.walk.count
          → AtRow (get_or (q.kept ++ (line_of i ∷ [])) m 0) (get_or (p.kept.events ++ (a ∷ b ∷ [])) (2 * m) 0) (get_or (p.kept.events ++ (a ∷ b ∷ [])) (2 * m + 1) 0)
      old m d =
          rw (
            get_or-append q.kept (line_of i ∷ []) 0 m (omega (arith, h.lines)),
            get_or-append p.kept.events (a ∷ b ∷ []) 0 (2 * m) (omega (arith, h.events)),
            get_or-append p.kept.events (a ∷ b ∷ []) 0 (2 * m + 1) (omega (arith, h.events)),
          )
          (h.rows m d)

  -- the row at a place of the file, and those behind it
  behind : (r : Row) (rs : List Row) (i : ℕ) → drop i file ≡ r ∷ rs → drop (suc i) file ≡ rs
  behind r rs i e = let d : suc i ≡ i + 1 = omega arith in rw d (sym (drop-drop 1 i file) ∙ ap (drop 1) e)

  row_there : (r : Row) (rs : List Row) (i : ℕ) → drop i file ≡ r ∷ rs → get_or file i block ≡ r
  row_there r rs i e = let d : i ≡ i + 0 = omega arith in ap (λ (k : ℕ). get_or file k block) d ∙ sym (get_or-drop i file 0 block) ∙ ap (λ (l : List Row). get_or l 0 block) e

  -- the rows of one sheet, from row i of the file on
  module _ (C : Bool → ℕ → ℕ → Progress Met → Out (Progress Met)) (C' : Bool → ℕ → ℕ → Progress (List ℕ) → Out (Progress (List ℕ)))
      (calls : (by_choice : Bool) (n line : ℕ) (p : Progress Met) (q : Progress (List ℕ)) → Alike p q → Both (C by_choice n line p) (C' by_choice n line q)) where
    rows_alike : (rs : List Row) (i line : ℕ) (p : Progress Met) (q : Progress (List ℕ)) → drop i file ≡ rs → Alike p q
        → Both (walk_rows met_ops [] C rs line p) (walk_rows line_ops [] C' (with_lines i rs) line q)
    unfolding walk_rows with_lines lined
    rows_alike [] i line p q e h = h
    rows_alike (sheet n ∷ rs) i line p q e h = h
    rows_alike (message a b ∷ rs) i line p q e h =
        room (ltb p.walk.count messages_most) (ltb q.walk.count messages_most) (ap (λ (w : Walk). ltb w.count messages_most) h.walk)
        (rows_alike rs (suc i) (suc line) (message_met met_ops a b p) (message_met line_ops (line_of i) b q) (behind (message a b) rs i e)
        (alike_message i a b p q (row_there (message a b) rs i e) h))
      where
        room : (c d : Bool) → d ≡ c → Both (walk_rows met_ops [] C rs (suc line) (message_met met_ops a b p)) (walk_rows line_ops [] C' (with_lines (suc i) rs) (suc line) (message_met line_ops (line_of i) b q))
            → Both (elim c [ true ↦ walk_rows met_ops [] C rs (suc line) (message_met met_ops a b p) | false ↦ refusal messages_refusal line ])
            (elim d [ true ↦ walk_rows line_ops [] C' (with_lines (suc i) rs) (suc line) (message_met line_ops (line_of i) b q) | false ↦ refusal messages_refusal line ])
        room true true f k = k
        room true false f k = not_both true refl (sym f)
        room false true f k = not_both true refl f
        room false false f k = tt
    rows_alike (order x y ∷ rs) i line p q e h = rows_alike rs (suc i) (suc line) (order_met met_ops x y p) (order_met line_ops x y q) (behind (order x y) rs i e) (alike_order x y x y p q h)
    rows_alike (block ∷ rs) i line p q e h = rows_alike rs (suc i) (suc line) (block_opened met_ops p) (block_opened line_ops q) (behind block rs i e) (alike_block p q h)
    rows_alike (call n ∷ rs) i line p q e h =
        both_then (C false n line p) (C' false n line q) (λ t. walk_rows met_ops [] C rs (suc line) (block_opened met_ops t)) (λ t. walk_rows line_ops [] C' (with_lines (suc i) rs) (suc line) (block_opened line_ops t))
        (calls false n line p q h)
        (λ t u k. rows_alike rs (suc i) (suc line) (block_opened met_ops t) (block_opened line_ops u) (behind (call n) rs i e) (alike_block t u k))
    rows_alike (choice m n ∷ rs) i line p q e h =
        let k : ℕ = taken [] p.walk.choices m n in
        let same : q.walk.choices ≡ p.walk.choices = ap (λ (w : Walk). w.choices) h.walk in
        subst (λ (c : ℕ). Both (and_then (C true k line p) (λ t. walk_rows met_ops [] C rs (suc line) (block_opened met_ops t)))
        (and_then (C' true (taken [] c m n) line q) (λ t. walk_rows line_ops [] C' (with_lines (suc i) rs) (suc line) (block_opened line_ops t)))) (sym same)
        (both_then (C true k line p) (C' true k line q) (λ t. walk_rows met_ops [] C rs (suc line) (block_opened met_ops t)) (λ t. walk_rows line_ops [] C' (with_lines (suc i) rs) (suc line) (block_opened line_ops t))
        (calls true k line p q h)
        (λ t u d. rows_alike rs (suc i) (suc line) (block_opened met_ops t) (block_opened line_ops u) (behind (choice m n) rs i e) (alike_block t u d)))

  -- a sheet's rows with their lines are the file's with their lines, from that row on
  pub body_lined : (n : ℕ) → drop (start_of n (with_lines 0 file)) (with_lines 0 file) ≡ with_lines (start_of n file) (drop (start_of n file) file)
  body_lined n = rw (start_lined n 0 file) (lines_drop (start_of n file) 0 file ∙ rw (zero-add (start_of n file)))

  abbrev body_met : ℕ → Bool → ℕ → Progress Met → Out (Progress Met)
  body_met left by_choice n p = walk_rows met_ops [] (call_at met_ops [] left file) (drop (start_of n file) file) (line_of (start_of n file)) (block_opened met_ops (call_made met_ops by_choice p))

  abbrev body_lines : ℕ → Bool → ℕ → Progress (List ℕ) → Out (Progress (List ℕ))
  body_lines left by_choice n q =
      walk_rows line_ops [] (call_at line_ops [] left (with_lines 0 file)) (drop (start_of n (with_lines 0 file)) (with_lines 0 file)) (line_of (start_of n (with_lines 0 file)))
      (block_opened line_ops (call_made line_ops by_choice q))

  calls_alike : (left : ℕ) (by_choice : Bool) (n line : ℕ) (p : Progress Met) (q : Progress (List ℕ)) → Alike p q
      → Both (call_at met_ops [] left file by_choice n line p) (call_at line_ops [] left (with_lines 0 file) by_choice n line q)
  unfolding call_at
  calls_alike zero by_choice n line p q h = tt
  calls_alike (suc left) by_choice n line p q h =
      room (ltb p.walk.calls calls_most) (ltb q.walk.calls calls_most) (ap (λ (w : Walk). ltb w.calls calls_most) h.walk)
      (by_choice && leb 0 p.walk.choices) (by_choice && leb 0 q.walk.choices) (ap (λ (w : Walk). by_choice && leb 0 w.choices) h.walk)
      (rw (body_lined n, start_lined n 0 file)
      (rows_alike (call_at met_ops [] left file) (call_at line_ops [] left (with_lines 0 file)) (calls_alike left) (drop (start_of n file) file) (start_of n file) (line_of (start_of n file))
      (block_opened met_ops (call_made met_ops by_choice p)) (block_opened line_ops (call_made line_ops by_choice q)) refl
      (alike_block (call_made met_ops by_choice p) (call_made line_ops by_choice q) (alike_call by_choice p q h))))
    where
      room : (c d : Bool) → d ≡ c → (a b : Bool) → b ≡ a → Both (body_met left by_choice n p) (body_lines left by_choice n q)
          → Both (elim c [ true ↦ elim a [ true ↦ refusal choices_refusal line | false ↦ body_met left by_choice n p ] | false ↦ refusal calls_refusal line ])
          (elim d [ true ↦ elim b [ true ↦ refusal choices_refusal line | false ↦ body_lines left by_choice n q ] | false ↦ refusal calls_refusal line ])
      room true true f true true g k = tt
      room true true f false false g k = k
      room true true f true false g k = not_both true refl (sym g)
      room true true f false true g k = not_both true refl g
      room true false f a b g k = not_both true refl (sym f)
      room false true f a b g k = not_both true refl f
      room false false f a b g k = tt

  -- the whole walk
  pub expand_alike : Both (expand met_ops [] file nothing_met) (expand line_ops [] (with_lines 0 file) [])
  unfolding expand
  expand_alike =
      rw (body_lined 0, start_lined 0 0 file)
      (rows_alike (call_at met_ops [] levels file) (call_at line_ops [] levels (with_lines 0 file)) (calls_alike levels) (drop (start_of 0 file) file) (start_of 0 file)
      (line_of (start_of 0 file)) (record { walk = fresh_walk; kept = nothing_met }) (record { walk = fresh_walk; kept = [] }) refl
      (record { walk = refl; events = refl; lines = refl; rows = λ m l. absurd (not-suc-le-zero l) }))
