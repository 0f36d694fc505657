-- What is left to walk from a row at a level on, and what each row does to it, where the whole is not refused. Assumes nothing.
use Prim.Native.Nat.{ℕ, zero, suc, ◌+◌, ◌-◌, ◌<◌, ◌≤◌}
use native.Mathlib.Decide.{dec_lt}
use native.Mathlib.Numerals.{add-one}
use native.Mathlib.Omega.{arith}
use mathlib.Core.Path.{◌≡◌, refl, sym, ◌∙◌, ap}
use mathlib.Core.Bool.{Bool, true, false}
use mathlib.Core.List.{List, [], ◌∷◌}
use lib.Dec.{eqb, leb, ltb}
use lib.ListN.{length, get_or, set, drop}
use lib.Seq.{get_or-set_same, get_or-set_other}
use borrow.Author.Tests.{ltb-true, eqb-true, eqb-false, le-leb}
use Rattle.model.specs.Limits.{levels, calls_most, messages_most}
use Rattle.model.specs.Refusal.{Out, ok, refusal, and_then, calls_refusal, messages_refusal, choices_refusal}
use Rattle.model.specs.Rows.{Row, sheet, message, order, block, call, choice}
use Rattle.model.specs.Place.{line_of}
use Rattle.model.specs.Expansion.{fresh_walk, start_of, taken, block_opened, call_made, message_met, order_met, walk_rows, call_at, expand}
use Rattle.model.specs.Senders.{lined, with_lines, line_ops}
use Rattle.model.proofs.Bounded.{not_both}
use Rattle.model.proofs.Refusal.{not_refused}
use Rattle.model.proofs.MessageLines.{start_lined, body_lined}
use Rattle.sheet.specs.Bridge.{row_from, rows_of}
use Rattle.sheet.proofs.Bridge.{row_sheet, row_message, row_order, row_call, row_choice, row_block}
use Rattle.walk.specs.Block.{rows_from}
use Rattle.walk.proofs.Meeting.{rows_next, rows_end, rows_drop}
use Rattle.levels.specs.Letters.{letter_at}
use Rattle.levels.proofs.Letters.{row_letter}
use Rattle.message_lines.proofs.Growing.{Lined, KeepsOn, keeps_on, keeps_then, keeps_same, rows_keep, calls_keep}

-- three parts, one after another
then_then : (o : Out Lined) (f g : Lined → Out Lined) → and_then (and_then o f) g ≡ and_then o (λ s. and_then (f s) g)
unfolding and_then
then_then (ok s) f g = refl
then_then (refusal number line) f g = refl

then_alike : (o : Out Lined) (f g : Lined → Out Lined) → ((s : Lined) → f s ≡ g s) → and_then o f ≡ and_then o g
unfolding and_then
then_alike (ok s) f g h = h s
then_alike (refusal number line) f g h = refl

then_ok : (o : Out Lined) → and_then o (λ s. ok s) ≡ o
unfolding and_then
then_ok (ok s) = refl
then_ok (refusal number line) = refl

-- what is not refused passed its test
passed_test : (b : Bool) (o : Out Lined) (number line : ℕ) (f : Lined → Out Lined) (e : Lined)
    → and_then (elim b [ true ↦ o | false ↦ refusal number line ]) f ≡ ok e → (b ≡ true) × (and_then o f ≡ ok e)
unfolding and_then
passed_test true o number line f e h = (refl, h)
passed_test false o number line f e h = not_refused h

module _ (kind one two : List ℕ) (count : ℕ) where
  abbrev file : List Row
  file = rows_of kind one two count

  abbrev calling : ℕ → Bool → ℕ → ℕ → Lined → Out Lined
  calling left = call_at line_ops [] left (with_lines 0 file)

  abbrev row_at : ℕ → Row
  row_at i = row_from (get_or kind i 0) (get_or one i 0) (get_or two i 0)

  -- the rows from row i on, with their lines
  abbrev lined_from : ℕ → List Row
  lined_from i = with_lines i (rows_from kind one two count i)

  -- walked with so many levels left
  abbrev pub walked : ℕ → ℕ → Lined → Out Lined
  walked left i s = walk_rows line_ops [] (calling left) (lined_from i) (line_of i) s

  -- what is left where the rows at a level have ended, the calls at these rows being open
  unfoldable pub after : List ℕ → ℕ → Lined → Out Lined
  after from zero s = ok s
  after from (suc k) s = and_then (walked (levels - k) (get_or from k 0 + 1) (block_opened line_ops s)) (after from k)

  abbrev pub rest : List ℕ → ℕ → ℕ → Lined → Out Lined
  rest from level i s = and_then (walked (levels - level) i s) (after from level)

  -- it only adds lines
  after_keep : (from : List ℕ) (k : ℕ) (s : Lined) → KeepsOn s (after from k s)
  unfolding after block_opened line_ops
  after_keep from zero s = keeps_same s s refl
  after_keep from (suc k) s =
      let i : ℕ = get_or from k 0 + 1 in
      let t : Lined = block_opened line_ops s in
      keeps_then s (walked (levels - k) i t) (after from k)
      (keeps_on s t (walked (levels - k) i t) (keeps_same s t refl)
      (rows_keep (calling (levels - k)) (calls_keep (with_lines 0 file) (levels - k)) (lined_from i) (line_of i) t))
      (after_keep from k)

  pub rest_keep : (from : List ℕ) (level i : ℕ) (s : Lined) → KeepsOn s (rest from level i s)
  rest_keep from level i s =
      keeps_then s (walked (levels - level) i s) (after from level)
      (rows_keep (calling (levels - level)) (calls_keep (with_lines 0 file) (levels - level)) (lined_from i) (line_of i) s)
      (after_keep from level)

  -- the rows from a row of the file on, by what it is
  walked_as : (left i : ℕ) (s : Lined) (r : Row) → i < count → row_at i ≡ r
      → walked left i s ≡ walk_rows line_ops [] (calling left) (lined (line_of i) r ∷ lined_from (i + 1)) (line_of i) s
  unfolding with_lines
  walked_as left i s r h e =
      ap (λ (rs : List Row). walk_rows line_ops [] (calling left) (with_lines i rs) (line_of i) s)
      (rows_next kind one two count i h ∙ ap (λ (x : Row). x ∷ rows_from kind one two count (i + 1)) e)
      ∙ ap (λ (k : ℕ). walk_rows line_ops [] (calling left) (lined (line_of i) r ∷ with_lines k (rows_from kind one two count (i + 1))) (line_of i) s) (sym (add-one i))

  -- the rows of sheet n
  pub sheet_walked : (left n : ℕ) (s : Lined)
      → walk_rows line_ops [] (calling left) (drop (start_of n (with_lines 0 file)) (with_lines 0 file)) (line_of (start_of n (with_lines 0 file))) s
      ≡ walked left (start_of n file) s
  sheet_walked left n s =
      ap (λ (rs : List Row). walk_rows line_ops [] (calling left) rs (line_of (start_of n (with_lines 0 file))) s)
      (body_lined file n ∙ ap (with_lines (start_of n file)) (rows_drop kind one two count (start_of n file)))
      ∙ ap (λ (l : ℕ). walk_rows line_ops [] (calling left) (lined_from (start_of n file)) (line_of l) s) (start_lined n 0 file)

  -- the whole walk
  pub rest_whole : (from : List ℕ) (s : Lined) → s ≡ record { walk = fresh_walk; kept = [] }
      → rest from 0 (start_of 0 file) s ≡ expand line_ops [] (with_lines 0 file) []
  unfolding after expand
  rest_whole from s e =
      then_ok (walked levels (start_of 0 file) s) ∙ ap (walked levels (start_of 0 file)) e
      ∙ sym (sheet_walked levels 0 (record { walk = fresh_walk; kept = [] }))

  next_line : (i : ℕ) → suc (line_of i) ≡ line_of (i + 1)
  next_line i = omega arith

  module _ (from : List ℕ) (level i letter : ℕ) (read : letter ≡ letter_at kind count i) (s e : Lined) (whole : rest from level i s ≡ ok e) where
    abbrev onward : Out Lined → Out Lined
    onward o = and_then o (after from level)

    -- at an S, and behind the last row, the rows at a level end
    over : letter ≡ 83 → walked (levels - level) i s ≡ ok s
    unfolding walk_rows with_lines lined
    over z = go (dec_lt i count)
      where
        go : Dec (i < count) → walked (levels - level) i s ≡ ok s
        go (yes h) =
            walked_as (levels - level) i s (sheet (get_or one i 0)) h
            (row_sheet (get_or kind i 0) (get_or one i 0) (get_or two i 0) (row_letter kind count i letter read h ∙ z))
        go (no n) = rw (rows_end kind one two count i (omega arith))

    pub ended : letter ≡ 83 → level ≡ 0 → s ≡ e
    unfolding after and_then
    ended z l =
        let d : ok s ≡ ok e = sym (ap onward (over z) ∙ ap (λ (k : ℕ). after from k s) l) ∙ whole in cc

    pub back : letter ≡ 83 → (level ≡ 0 → ⊥) → rest from (level - 1) (get_or from (level - 1) 0 + 1) (block_opened line_ops s) ≡ ok e
    unfolding after and_then
    back z n =
        let up : level ≡ suc (level - 1) = omega arith in
        sym (ap onward (over z) ∙ ap (λ (k : ℕ). after from k s) up) ∙ whole

    module _ (here : i < count) where
      is : get_or kind i 0 ≡ letter
      is = row_letter kind count i letter read here

      -- an M row
      module _ (z : letter ≡ 77) where
        abbrev met : Lined
        met = message_met line_ops (line_of i) (get_or two i 0) s

        pub message_met_holds : rest from level (i + 1) met ≡ ok e
        unfolding walk_rows lined
        message_met_holds =
            (passed_test (ltb s.walk.count messages_most) (walked (levels - level) (i + 1) met) messages_refusal (line_of i) (after from level) e
            (sym (ap onward (split ∙ next)) ∙ whole)).1
          where
            split : ◌≡◌ {A = Out Lined} (walked (levels - level) i s) (elim (ltb s.walk.count messages_most) [
              | true ↦ walk_rows line_ops [] (calling (levels - level)) (lined_from (i + 1)) (suc (line_of i)) met
              | false ↦ refusal messages_refusal (line_of i)
            ])
            split = walked_as (levels - level) i s (message (get_or one i 0) (get_or two i 0)) here
                (row_message (get_or kind i 0) (get_or one i 0) (get_or two i 0) (is ∙ z))

            next : ◌≡◌ {A = Out Lined} (elim (ltb s.walk.count messages_most) [
              | true ↦ walk_rows line_ops [] (calling (levels - level)) (lined_from (i + 1)) (suc (line_of i)) met
              | false ↦ refusal messages_refusal (line_of i)
            ]) (elim (ltb s.walk.count messages_most) [ true ↦ walked (levels - level) (i + 1) met | false ↦ refusal messages_refusal (line_of i) ])
            next = ap (λ (l : ℕ). elim (ltb s.walk.count messages_most) [
              | true ↦ walk_rows line_ops [] (calling (levels - level)) (lined_from (i + 1)) l met
              | false ↦ refusal messages_refusal (line_of i)
            ]) (next_line i)

      -- a P row or a B row: nothing is met. An A row is refused, since no list is given.
      refused_choice : (left n : ℕ) (f : Lined → Out Lined) → and_then (and_then (calling left true n (line_of i) s) f) (after from level) ≡ ok e → ⊥
      unfolding call_at and_then
      refused_choice zero n f h = not_refused h
      refused_choice (suc left) n f h = go (ltb s.walk.calls calls_most) (leb 0 s.walk.choices) (le-leb 0 s.walk.choices (omega arith)) h
        where
          body : Out Lined
          body =
              walk_rows line_ops [] (calling left) (drop (start_of n (with_lines 0 file)) (with_lines 0 file)) (line_of (start_of n (with_lines 0 file)))
              (block_opened line_ops (call_made line_ops true s))

          go : (b c : Bool) → c ≡ true
              → and_then (and_then (elim b [ true ↦ elim c [ true ↦ refusal choices_refusal (line_of i) | false ↦ body ] | false ↦ refusal calls_refusal (line_of i) ]) f) (after from level) ≡ ok e
              → ⊥
          go true true t g = not_refused g
          go true false t g = not_both true refl (sym t)
          go false c t g = not_refused g

      pub other_passed : (letter ≡ 67 → ⊥) → (letter ≡ 83 → ⊥) → (letter ≡ 77 → ⊥)
          → (t : Lined) × (t.walk.calls ≡ s.walk.calls) × (t.kept ≡ s.kept) × (rest from level (i + 1) t ≡ ok e)
      unfolding walk_rows lined block_opened order_met line_ops
      other_passed a b c = by_order (eqb letter 80) refl
        where
          by_choice : (v : Bool) → eqb letter 65 ≡ v → (letter ≡ 80 → ⊥)
              → (t : Lined) × (t.walk.calls ≡ s.walk.calls) × (t.kept ≡ s.kept) × (rest from level (i + 1) t ≡ ok e)
          by_choice true v d =
              absurd
              (refused_choice (levels - level) (taken [] s.walk.choices (get_or one i 0) (get_or two i 0))
              (λ t. walk_rows line_ops [] (calling (levels - level)) (lined_from (i + 1)) (suc (line_of i)) (block_opened line_ops t))
              (sym (ap onward (walked_as (levels - level) i s (choice (get_or one i 0) (get_or two i 0)) here
              (row_choice (get_or kind i 0) (get_or one i 0) (get_or two i 0) (is ∙ eqb-true letter 65 v)))) ∙ whole))
          by_choice false v d =
              let x : letter ≡ 65 → ⊥ = eqb-false letter 65 v in
              let t : Lined = block_opened line_ops s in (
                t,
                refl,
                refl,
                sym (ap onward
                    (walked_as (levels - level) i s block here
                    (row_block (get_or kind i 0) (get_or one i 0) (get_or two i 0) (λ z. b (sym is ∙ z)) (λ z. c (sym is ∙ z)) (λ z. d (sym is ∙ z)) (λ z. a (sym is ∙ z)) (λ z. x (sym is ∙ z)))
                    ∙ ap (λ (l : ℕ). walk_rows line_ops [] (calling (levels - level)) (lined_from (i + 1)) l t) (next_line i))) ∙ whole,
              )

          by_order : (v : Bool) → eqb letter 80 ≡ v
              → (t : Lined) × (t.walk.calls ≡ s.walk.calls) × (t.kept ≡ s.kept) × (rest from level (i + 1) t ≡ ok e)
          by_order true v =
              let t : Lined = order_met line_ops (get_or one i 0) (get_or two i 0) s in (
                t,
                refl,
                refl,
                sym (ap onward
                    (walked_as (levels - level) i s (order (get_or one i 0) (get_or two i 0)) here
                    (row_order (get_or kind i 0) (get_or one i 0) (get_or two i 0) (is ∙ eqb-true letter 80 v))
                    ∙ ap (λ (l : ℕ). walk_rows line_ops [] (calling (levels - level)) (lined_from (i + 1)) l t) (next_line i))) ∙ whole,
              )
          by_order false v = by_choice (eqb letter 65) refl (eqb-false letter 80 v)

      -- a C row
      module _ (z : letter ≡ 67) where
        abbrev n : ℕ
        n = get_or one i 0

        abbrev entered : Lined
        entered = block_opened line_ops (call_made line_ops false s)

        abbrev behind : Lined → Out Lined
        behind u = walked (levels - level) (i + 1) (block_opened line_ops u)

        called_whole : onward (and_then (calling (levels - level) false n (line_of i) s) behind) ≡ ok e
        unfolding walk_rows lined
        called_whole =
            sym (ap onward
            (walked_as (levels - level) i s (call n) here (row_call (get_or kind i 0) n (get_or two i 0) (is ∙ z))
            ∙ ap (λ (l : ℕ). and_then (calling (levels - level) false n (line_of i) s)
            (λ u. walk_rows line_ops [] (calling (levels - level)) (lined_from (i + 1)) l (block_opened line_ops u))) (next_line i))) ∙ whole

        -- the call is neither too deep nor one too many, and its sheet's rows come first
        abbrev body : ℕ → Out Lined
        body left = walked left (start_of n file) entered

        called_by : (left : ℕ) → onward (and_then (calling left false n (line_of i) s) behind) ≡ ok e
            → (s.walk.calls < calls_most) × ((k : ℕ) × (left ≡ suc k) × (onward (and_then (body k) behind) ≡ ok e))
        unfolding call_at and_then
        called_by zero h = not_refused h
        called_by (suc k) h = go (ltb s.walk.calls calls_most) refl h
          where
            go : (b : Bool) → ltb s.walk.calls calls_most ≡ b
                → onward (and_then (elim b [
                  | true ↦ walk_rows line_ops [] (calling k) (drop (start_of n (with_lines 0 file)) (with_lines 0 file)) (line_of (start_of n (with_lines 0 file))) entered
                  | false ↦ refusal calls_refusal (line_of i)
                ]) behind) ≡ ok e
                → (s.walk.calls < calls_most) × ((j : ℕ) × (suc k ≡ suc j) × (onward (and_then (body j) behind) ≡ ok e))
            go true t g = (ltb-true s.walk.calls calls_most t, (k, refl, sym (ap (λ (o : Out Lined). onward (and_then o behind)) (sheet_walked k n entered)) ∙ g))
            go false t g = not_refused g

        pub call_room : (level < levels) × (s.walk.calls < calls_most)
        call_room = let r = called_by (levels - level) called_whole in (omega (arith, r.1.1), r.0)

        -- a row noted for a deeper level changes nothing
        after_set : (k : ℕ) → k ≤ level → (u : Lined) → after from k u ≡ after (set from level i) k u
        unfolding after
        after_set zero h u = refl
        after_set (suc k) h u =
            let d : k ≡ level → ⊥ = λ q. omega arith in
            ap (λ (r : ℕ). and_then (walked (levels - k) (r + 1) (block_opened line_ops u)) (after from k)) (sym (get_or-set_other from level k i 0 d))
            ∙ then_alike (walked (levels - k) (get_or (set from level i) k 0 + 1) (block_opened line_ops u)) (after from k) (after (set from level i) k) (after_set k (omega arith))

        pub call_entered : length from ≡ levels → rest (set from level i) (level + 1) (start_of n file) entered ≡ ok e
        unfolding after
        call_entered long =
            let r = called_by (levels - level) called_whole in
            let left : levels - (level + 1) ≡ r.1.0 = omega (arith, r.1.1) in
            let noted : get_or (set from level i) level 0 ≡ i = get_or-set_same from level i 0 (omega (arith, r.1.1)) in
            ap (λ (k : ℕ). and_then (body k) (after (set from level i) (level + 1))) left
            ∙ ap (λ (k : ℕ). and_then (body r.1.0) (after (set from level i) k)) (add-one level)
            ∙ sym (then_alike (body r.1.0) (λ u. and_then (behind u) (after from level)) (after (set from level i) (suc level))
            (λ u. then_alike (behind u) (after from level) (after (set from level i) level) (after_set level (omega arith))
            ∙ ap (λ (k : ℕ). and_then (walked (levels - level) (k + 1) (block_opened line_ops u)) (after (set from level i) level)) (sym noted)))
            ∙ sym (then_then (body r.1.0) behind (after from level))
            ∙ r.1.2
