-- A block is walked and closed before what follows it is looked at: that changes nothing of what the whole comes to. And where the
-- block ends, the rows behind it stand. Assumes nothing.
use Prim.Native.Nat.{ℕ, zero, suc, ◌+◌, ◌-◌, ◌*◌, ◌<◌, ◌≤◌}
use native.Mathlib.Omega.{arith}
use mathlib.Core.Path.{◌≡◌, refl, sym, ◌∙◌, ap, subst}
use mathlib.Core.Logic.{⊎_elim}
use mathlib.Core.Bool.{Bool, true, false, ◌&&◌}
use mathlib.Core.List.{List, ◌∷◌}
use lib.Dec.{leb, ltb}
use lib.ListN.{length, get_or, drop}
use Rattle.model.specs.Limits.{levels, calls_most, messages_most}
use Rattle.model.specs.Refusal.{Out, ok, refusal, and_then, calls_refusal, messages_refusal, choices_refusal}
use Rattle.model.specs.Rows.{Row, sheet, message, order, block, call, choice}
use Rattle.model.specs.Place.{line_of}
use Rattle.model.specs.Expansion.{Progress, start_of, taken, chosen_more, block_opened, call_made, message_met, order_met, walk_rows, call_at}
use Rattle.model.proofs.Refusal.{not_refused}
use Rattle.relation.specs.Width.{width}
use Rattle.sheet.specs.Bridge.{row_from, rows_of}
use Rattle.sheet.proofs.Bridge.{row_message, row_order}
use Rattle.blocks.specs.Store.{Store, store_ops}
use Rattle.walk.specs.Block.{rows_from, in_block, block_walked, AllStand}
use Rattle.walk.proofs.Meeting.{rows_next, rows_end, in_rows, in_either}
use Rattle.levels.specs.Options.{options_of}
use Rattle.next_block.specs.Levels.{after, rest}
use Rattle.next_block.proofs.Steps.{passed_none, next_line}

-- what is closed stays as it is when it is closed again
opened_twice : (s : Progress Store) → block_opened store_ops (block_opened store_ops s) ≡ block_opened store_ops s
unfolding block_opened store_ops
opened_twice s =
    let t = block_opened store_ops s in
    ap (λ (p : List ℕ). record {
      walk = record { calls = s.walk.calls; choices = s.walk.choices; first = s.walk.count; count = s.walk.count };
      kept = record { events = s.kept.events; words = s.kept.words; past = p };
    }) (passed_none width t.kept.past s.kept.events s.kept.words (2 * s.walk.count))

called_twice : (by_choice : Bool) (s : Progress Store)
    → block_opened store_ops (call_made store_ops by_choice (block_opened store_ops s)) ≡ block_opened store_ops (call_made store_ops by_choice s)
unfolding block_opened call_made store_ops
called_twice by_choice s =
    let t = block_opened store_ops s in
    ap (λ (p : List ℕ). record {
      walk = record { calls = suc s.walk.calls; choices = chosen_more by_choice s.walk.choices; first = s.walk.count; count = s.walk.count };
      kept = record { events = s.kept.events; words = s.kept.words; past = p };
    }) (passed_none width t.kept.past s.kept.events s.kept.words (2 * s.walk.count))

call_closed : (options : List Bool) (left : ℕ) (file : List Row) (by_choice : Bool) (n line : ℕ) (s : Progress Store)
    → call_at store_ops options left file by_choice n line s ≡ call_at store_ops options left file by_choice n line (block_opened store_ops s)
unfolding call_at block_opened
call_closed options zero file by_choice n line s = refl
call_closed options (suc left) file by_choice n line s =
    ap (λ (u : Progress Store). elim (ltb s.walk.calls calls_most) [
      | true ↦ elim (by_choice && leb (length options) s.walk.choices) [
        | true ↦ refusal choices_refusal line
        | false ↦ walk_rows store_ops options (call_at store_ops options left file) (drop (start_of n file) file) (line_of (start_of n file)) u
      ]
      | false ↦ refusal calls_refusal line
    ]) (sym (called_twice by_choice s))

module _ (options : ℕ) (kind one two : List ℕ) (count : ℕ) where
  -- the rows behind row i
  abbrev next : ℕ → List Row
  next i = rows_from kind one two count (i + 1)

  abbrev row_at : ℕ → Row
  row_at i = row_from (get_or kind i 0) (get_or one i 0) (get_or two i 0)

  after_closed : (from : List ℕ) (k : ℕ) (s : Progress Store) → after options kind one two count from k s ≡ after options kind one two count from k (block_opened store_ops s)
  unfolding after
  after_closed from zero s = ap ok (sym (opened_twice s))
  after_closed from (suc k) s =
      ap (λ (u : Progress Store). and_then
      (walk_rows store_ops (options_of options) (call_at store_ops (options_of options) (levels - k) (rows_of kind one two count)) (rows_from kind one two count (get_or from k 0 + 1)) (line_of (get_or from k 0 + 1)) u)
      (after options kind one two count from k)) (sym (opened_twice s))

  module _ (from : List ℕ) (level : ℕ) where
    abbrev calls : Bool → ℕ → ℕ → Progress Store → Out (Progress Store)
    calls = call_at store_ops (options_of options) (levels - level) (rows_of kind one two count)

    abbrev walked : List Row → ℕ → Progress Store → Out (Progress Store)
    walked rs line s = and_then (walk_rows store_ops (options_of options) calls rs line s) (after options kind one two count from level)

    abbrev onward : ℕ × Progress Store → Out (Progress Store)
    onward p = rest options kind one two count from level p.0 p.1

    -- the block's rows, by induction on how many are left
    by_rows : (n i : ℕ) → count - i ≡ n → (s : Progress Store)
        → walked (rows_from kind one two count i) (line_of i) s ≡ and_then (block_walked (rows_from kind one two count i) i s) onward
    unfolding walk_rows block_walked and_then block_opened
    by_rows zero i e s =
        let none = rows_end kind one two count i (omega arith) in
        rw none (after_closed from level s ∙ ap (λ (rs : List Row). walked rs (line_of i) (block_opened store_ops s)) (sym none))
    by_rows (suc n) i e s =
        subst (λ (rs : List Row). walked rs (line_of i) s ≡ and_then (block_walked rs i s) onward) (sym split)
        (go (row_at i) split (λ u. by_rows n (i + 1) (omega arith) u))
      where
        split : rows_from kind one two count i ≡ row_at i ∷ next i
        split = rows_next kind one two count i (omega arith)

        -- behind the block
        closed : (r : Row) → rows_from kind one two count i ≡ r ∷ next i → walked (r ∷ next i) (line_of i) s ≡ walked (r ∷ next i) (line_of i) (block_opened store_ops s)
            → walked (r ∷ next i) (line_of i) s ≡ onward (i, block_opened store_ops s)
        closed r f same = same ∙ ap (λ (rs : List Row). walked rs (line_of i) (block_opened store_ops s)) (sym f)

        line : (u : Progress Store) → walked (next i) (suc (line_of i)) u ≡ walked (next i) (line_of (i + 1)) u
        line u = ap (λ (l : ℕ). walked (next i) l u) (next_line options kind one two count i)

        go : (r : Row) → rows_from kind one two count i ≡ r ∷ next i
            → ((u : Progress Store) → walked (next i) (line_of (i + 1)) u ≡ and_then (block_walked (next i) (i + 1) u) onward)
            → walked (r ∷ next i) (line_of i) s ≡ and_then (block_walked (r ∷ next i) i s) onward
        go (sheet k) f on = closed (sheet k) f (after_closed from level s)
        go (message a b) f on = room (ltb s.walk.count messages_most)
          where
            room : (t : Bool)
                → and_then (elim t [ true ↦ walk_rows store_ops (options_of options) calls (next i) (suc (line_of i)) (message_met store_ops a b s) | false ↦ refusal messages_refusal (line_of i) ])
                (after options kind one two count from level)
                ≡ and_then (elim t [ true ↦ block_walked (next i) (i + 1) (message_met store_ops a b s) | false ↦ refusal messages_refusal (line_of i) ]) onward
            room true = line (message_met store_ops a b s) ∙ on (message_met store_ops a b s)
            room false = refl
        go (order x y) f on = line (order_met store_ops x y s) ∙ on (order_met store_ops x y s)
        go block f on = closed block f (ap (walked (next i) (suc (line_of i))) (sym (opened_twice s)))
        go (call k) f on =
            closed (call k) f
            (ap (λ (o : Out (Progress Store)). and_then (and_then o (λ u. walk_rows store_ops (options_of options) calls (next i) (suc (line_of i)) (block_opened store_ops u))) (after options kind one two count from level))
            (call_closed (options_of options) (levels - level) (rows_of kind one two count) false k (line_of i) s))
        go (choice j k) f on =
            closed (choice j k) f
            (ap (λ (o : Out (Progress Store)). and_then (and_then o (λ u. walk_rows store_ops (options_of options) calls (next i) (suc (line_of i)) (block_opened store_ops u))) (after options kind one two count from level))
            (call_closed (options_of options) (levels - level) (rows_of kind one two count) true (taken (options_of options) s.walk.choices j k) (line_of i) s))

    pub rest_walked : (i : ℕ) (s : Progress Store)
        → rest options kind one two count from level i s ≡ and_then (block_walked (rows_from kind one two count i) i s) onward
    rest_walked i s = by_rows (count - i) i refl s

  -- where a block ends
  pub record AfterBlock (i : ℕ) (s : Progress Store) (p : ℕ × Progress Store) : Type 0 where
    pub stand : AllStand 0 (rows_from kind one two count p.0)
    pub onward : i ≤ p.0
    pub calls : p.1.walk.calls ≡ s.walk.calls
    pub empty : p.1.walk.first ≡ p.1.walk.count

  ended : (i : ℕ) (s : Progress Store) (p : ℕ × Progress Store) → AllStand 0 (rows_from kind one two count i) → ok (i, block_opened store_ops s) ≡ ok p → AfterBlock i s p
  unfolding block_opened
  ended i s p a e =
      let f : ◌≡◌ {A = ℕ × Progress Store} (i, block_opened store_ops s) p = cc in
      subst (AfterBlock i s) f (record { stand = a; onward = omega arith; calls = refl; empty = refl })

  later : (i : ℕ) (s u : Progress Store) (p : ℕ × Progress Store) → u.walk.calls ≡ s.walk.calls → AfterBlock (i + 1) u p → AfterBlock i s p
  later i s u p e a = record { stand = a.stand; onward = omega (arith, a.onward); calls = a.calls ∙ e; empty = a.empty }

  ends : (n i m : ℕ) → count - i ≡ n → (s : Progress Store) (p : ℕ × Progress Store) → AllStand m (rows_from kind one two count i)
      → block_walked (rows_from kind one two count i) i s ≡ ok p
      → AfterBlock i s p
  unfolding block_walked message_met order_met
  ends zero i m e s p a w =
      let none = rows_end kind one two count i (omega arith) in
      ended i s p (subst (AllStand 0) (sym none) tt) (rw none at w)
  ends (suc n) i m e s p a w =
      go (row_at i) split (subst (AllStand m) split a) (rw split at w) (λ k u b v. ends n (i + 1) k (omega arith) u p b v)
    where
      split : rows_from kind one two count i ≡ row_at i ∷ next i
      split = rows_next kind one two count i (omega arith)

      go : (r : Row) → rows_from kind one two count i ≡ r ∷ next i → AllStand m (r ∷ next i) → block_walked (r ∷ next i) i s ≡ ok p
          → ((k : ℕ) (u : Progress Store) → AllStand k (next i) → block_walked (next i) (i + 1) u ≡ ok p → AfterBlock (i + 1) u p)
          → AfterBlock i s p
      go (sheet k) f b v on = ended i s p (subst (AllStand 0) (sym f) b) v
      go (message x y) f b v on = room (ltb s.walk.count messages_most) v
        where
          room : (t : Bool) → elim t [ true ↦ block_walked (next i) (i + 1) (message_met store_ops x y s) | false ↦ refusal messages_refusal (line_of i) ] ≡ ok p
              → AfterBlock i s p
          room true v = later i s (message_met store_ops x y s) p refl (on (m + 2) (message_met store_ops x y s) b.1 v)
          room false v = not_refused v
      go (order x y) f b v on = later i s (order_met store_ops x y s) p refl (on m (order_met store_ops x y s) b.1 v)
      go block f b v on = ended i s p (subst (AllStand 0) (sym f) b) v
      go (call k) f b v on = ended i s p (subst (AllStand 0) (sym f) b) v
      go (choice j k) f b v on = ended i s p (subst (AllStand 0) (sym f) b) v

  module _ (i m : ℕ) (s : Progress Store) (p : ℕ × Progress Store) (a : AllStand m (rows_from kind one two count i))
      (w : block_walked (rows_from kind one two count i) i s ≡ ok p) where
    pub block_ends : AfterBlock i s p
    block_ends = ends (count - i) i m refl s p a w

    -- a block with a row passes it
    pub block_more : in_block kind count i ≡ true → i < p.0
    unfolding block_walked
    block_more t =
        ⊎_elim
        (λ e. go (row_message (get_or kind i 0) (get_or one i 0) (get_or two i 0) e))
        (λ e. go' (row_order (get_or kind i 0) (get_or one i 0) (get_or two i 0) e))
        (in_either kind count i t)
      where
        begun : (r : Row) → row_at i ≡ r → rows_from kind one two count i ≡ r ∷ next i
        begun r e = rows_next kind one two count i (in_rows kind count i true (sym t) refl) ∙ ap (λ (r : Row). r ∷ next i) e

        on : (k : ℕ) (u : Progress Store) → AllStand k (next i) → block_walked (next i) (i + 1) u ≡ ok p → i < p.0
        on k u b v = let z = ends (count - (i + 1)) (i + 1) k refl u p b v in omega (arith, z.onward)

        go : row_at i ≡ message (get_or one i 0) (get_or two i 0) → i < p.0
        go e = room (ltb s.walk.count messages_most) (rw (begun (message (get_or one i 0) (get_or two i 0)) e) at w)
          where
            room : (t : Bool)
                → elim t [ true ↦ block_walked (next i) (i + 1) (message_met store_ops (get_or one i 0) (get_or two i 0) s) | false ↦ refusal messages_refusal (line_of i) ] ≡ ok p
                → i < p.0
            room true v = on (m + 2) _ (subst (AllStand m) (begun (message (get_or one i 0) (get_or two i 0)) e) a).1 v
            room false v = not_refused v

        go' : row_at i ≡ order (get_or one i 0) (get_or two i 0) → i < p.0
        go' e =
            on m (order_met store_ops (get_or one i 0) (get_or two i 0) s) (subst (AllStand m) (begun (order (get_or one i 0) (get_or two i 0)) e) a).1
            (rw (begun (order (get_or one i 0) (get_or two i 0)) e) at w)
