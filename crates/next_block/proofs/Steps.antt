-- What each row between two blocks does to what is left to walk. Assumes nothing.
use Prim.Native.Nat.{ℕ, zero, suc, ◌+◌, ◌-◌, ◌*◌, ◌<◌, ◌≤◌}
use native.Mathlib.Decide.{dec_lt}
use native.Mathlib.Numerals.{add-one}
use native.Mathlib.Omega.{arith}
use mathlib.Core.Path.{◌≡◌, refl, sym, ◌∙◌, ap, ap₂, subst}
use mathlib.Core.Bool.{Bool, true, false, cond, ◌&&◌, ◌||◌}
use mathlib.Core.List.{List, ◌∷◌}
use lib.Dec.{eqb, leb, ltb}
use lib.ListN.{length, get_or, set}
use lib.Seq.{get_or-set_same, get_or-set_other}
use borrow.Author.Tests.{lt-ltb, le-ltb, eqb-true}
use Rattle.model.specs.Limits.{levels, calls_most, choices_most}
use Rattle.model.specs.Refusal.{Out, ok, refusal, and_then, depth_refusal, calls_refusal, choices_refusal}
use Rattle.model.specs.Rows.{Row, sheet, block, call, choice}
use Rattle.model.specs.Place.{line_of}
use Rattle.model.specs.Expansion.{Progress, start_of, taken, block_opened, call_made, walk_rows, call_at}
use Rattle.model.proofs.Bounded.{not_both}
use Rattle.relation.specs.Width.{width}
use Rattle.sheet.specs.Bridge.{row_from, rows_of}
use Rattle.sheet.proofs.Bridge.{row_sheet, row_call, row_choice, row_block}
use Rattle.blocks.specs.Store.{Store, store_ops, passed, passed_in}
use Rattle.walk.specs.Block.{rows_from}
use Rattle.walk.proofs.Meeting.{rows_next, rows_end, rows_drop}
use Rattle.levels.specs.Options.{options_of, is_call, is_ninth, sheet_called, choices_behind}
use Rattle.levels.proofs.Choosing.{options_length, either}
use Rattle.levels.specs.Letters.{letter_at}
use Rattle.levels.proofs.Letters.{row_there, row_letter}
use Rattle.next_block.specs.Levels.{rows_walked, after, idle, rest}

-- three parts, one after another
then_then : {C : Type 0} (o : Out (Progress Store)) (f : Progress Store → Out (Progress Store)) (g : Progress Store → Out C)
    → and_then (and_then o f) g ≡ and_then o (λ s. and_then (f s) g)
unfolding and_then
then_then (ok s) f g = refl
then_then (refusal number line) f g = refl

then_alike : {A C : Type 0} (o : Out A) (f g : A → Out C) → ((s : A) → f s ≡ g s) → and_then o f ≡ and_then o g
unfolding and_then
then_alike (ok s) f g h = h s
then_alike (refusal number line) f g h = refl

-- no event is past where there is none
pub passed_none : (W : ℕ) (past events words : List ℕ) (n : ℕ) → passed W past events words n n ≡ past
unfolding passed passed_in
passed_none W past events words n = let e : n - n ≡ 0 = omega arith in rw e

-- an empty block that is closed changes nothing
empty_opened : (calls choices met : ℕ) (t : Store) → block_opened store_ops (idle calls choices met t) ≡ idle calls choices met t
unfolding block_opened store_ops
empty_opened calls choices met t =
    ap (λ (p : List ℕ). record {
      walk = record { calls = calls; choices = choices; first = met; count = met };
      kept = record { events = t.events; words = t.words; past = p };
    }) (passed_none width t.past t.events t.words (2 * met))

module _ (options : ℕ) (kind one two : List ℕ) (count : ℕ) where
  abbrev file : List Row
  file = rows_of kind one two count

  abbrev row_at : ℕ → Row
  row_at i = row_from (get_or kind i 0) (get_or one i 0) (get_or two i 0)

  pub next_line : (i : ℕ) → suc (line_of i) ≡ line_of (i + 1)
  next_line i = omega arith

  -- the rows from a row of the file on, by what it is
  walked_as : (left i : ℕ) (s : Progress Store) (r : Row) → i < count → row_at i ≡ r
      → rows_walked options kind one two count left i s
      ≡ walk_rows store_ops (options_of options) (call_at store_ops (options_of options) left file) (r ∷ rows_from kind one two count (i + 1)) (line_of i) s
  walked_as left i s r h e =
      ap (λ (rs : List Row). walk_rows store_ops (options_of options) (call_at store_ops (options_of options) left file) rs (line_of i) s)
      (rows_next kind one two count i h ∙ ap (λ (r : Row). r ∷ rows_from kind one two count (i + 1)) e)

  module _ (i letter : ℕ) (read : letter ≡ letter_at kind count i) where
    -- at an S, and behind the last row, the rows at a level end
    sheet_over : letter ≡ 83 → (left : ℕ) (s : Progress Store) → rows_walked options kind one two count left i s ≡ ok s
    unfolding walk_rows
    sheet_over e left s = go (dec_lt i count)
      where
        go : Dec (i < count) → rows_walked options kind one two count left i s ≡ ok s
        go (yes h) =
            walked_as left i s (sheet (get_or one i 0)) h
            (row_sheet (get_or kind i 0) (get_or one i 0) (get_or two i 0) (row_letter kind count i letter read h ∙ e))
        go (no n) = rw (rows_end kind one two count i (omega arith))

    module _ (from : List ℕ) (level calls choices met : ℕ) (t : Store) where
      abbrev s : Progress Store
      s = idle calls choices met t

      pub rest_end : letter ≡ 83 → level ≡ 0 → rest options kind one two count from level i s ≡ ok s
      unfolding after and_then
      rest_end e z =
          ap (λ (o : Out (Progress Store)). and_then o (after options kind one two count from level)) (sheet_over e (levels - level) s)
          ∙ ap (λ (k : ℕ). after options kind one two count from k s) z
          ∙ ap ok (empty_opened calls choices met t)

      pub rest_back : letter ≡ 83 → (level ≡ 0 → ⊥)
          → rest options kind one two count from level i s ≡ rest options kind one two count from (level - 1) (get_or from (level - 1) 0 + 1) s
      unfolding after and_then
      rest_back e n =
          let up : level ≡ suc (level - 1) = omega arith in
          ap (λ (o : Out (Progress Store)). and_then o (after options kind one two count from level)) (sheet_over e (levels - level) s)
          ∙ ap (λ (k : ℕ). after options kind one two count from k s) up
          ∙ ap (λ (u : Progress Store). rest options kind one two count from (level - 1) (get_or from (level - 1) 0 + 1) u) (empty_opened calls choices met t)

      -- a B row
      pub rest_block : (letter ≡ 83 → ⊥) → (letter ≡ 77 → ⊥) → (letter ≡ 80 → ⊥) → (letter ≡ 67 → ⊥) → (letter ≡ 65 → ⊥)
          → rest options kind one two count from level i s ≡ rest options kind one two count from level (i + 1) s
      unfolding walk_rows
      rest_block a b c d x =
          let h = row_there kind count i letter read a in
          let l : get_or kind i 0 ≡ letter = row_letter kind count i letter read h in
          ap (λ (o : Out (Progress Store)). and_then o (after options kind one two count from level))
          (walked_as (levels - level) i s block h
          (row_block (get_or kind i 0) (get_or one i 0) (get_or two i 0) (λ e. a (sym l ∙ e)) (λ e. b (sym l ∙ e)) (λ e. c (sym l ∙ e)) (λ e. d (sym l ∙ e)) (λ e. x (sym l ∙ e)))
          ∙ ap₂ (λ (n : ℕ) (u : Progress Store). walk_rows store_ops (options_of options) (call_at store_ops (options_of options) (levels - level) file) (rows_from kind one two count (i + 1)) n u)
          (next_line i) (empty_opened calls choices met t))

      -- a call, by a C row or by an A row
      module _ (e : is_call letter ≡ true) where
        abbrev by_choice : Bool
        by_choice = eqb letter 65

        abbrev n : ℕ
        n = sheet_called letter (get_or one i 0) (get_or two i 0) options choices

        not_sheet : letter ≡ 83 → ⊥
        unfolding is_call
        not_sheet z = not_both (is_call letter) e (rw z)

        here : i < count
        here = row_there kind count i letter read not_sheet

        abbrev behind : Progress Store → Out (Progress Store)
        behind s' = rows_walked options kind one two count (levels - level) (i + 1) (block_opened store_ops s')

        abbrev calling : ℕ → Out (Progress Store)
        calling left = call_at store_ops (options_of options) left file by_choice n (line_of i) s

        call_walked : rows_walked options kind one two count (levels - level) i s ≡ and_then (calling (levels - level)) behind
        unfolding walk_rows is_call sheet_called
        call_walked = go (eqb letter 65) refl
          where
            onward : (o : Out (Progress Store)) → and_then o (λ s'. walk_rows store_ops (options_of options) (call_at store_ops (options_of options) (levels - level) file) (rows_from kind one two count (i + 1)) (suc (line_of i)) (block_opened store_ops s'))
                ≡ and_then o behind
            onward o = ap (λ (l : ℕ). and_then o
                (λ s'. walk_rows store_ops (options_of options) (call_at store_ops (options_of options) (levels - level) file) (rows_from kind one two count (i + 1)) l (block_opened store_ops s'))) (next_line i)

            is : get_or kind i 0 ≡ letter
            is = row_letter kind count i letter read here

            by : Bool → Out (Progress Store)
            by b = call_at store_ops (options_of options) (levels - level) file b (cond b (taken (options_of options) choices (get_or one i 0) (get_or two i 0)) (get_or one i 0)) (line_of i) s

            go : (b : Bool) → eqb letter 65 ≡ b → rows_walked options kind one two count (levels - level) i s ≡ and_then (by b) behind
            go true f =
                walked_as (levels - level) i s (choice (get_or one i 0) (get_or two i 0)) here
                (row_choice (get_or kind i 0) (get_or one i 0) (get_or two i 0) (is ∙ eqb-true letter 65 f))
                ∙ onward (by true)
            go false f =
                let g : (eqb letter 67 || false) ≡ true = subst (λ (b : Bool). (eqb letter 67 || b) ≡ true) f e in
                let c : letter ≡ 67 = eqb-true letter 67 (either (eqb letter 67) g) in
                walked_as (levels - level) i s (call (get_or one i 0)) here
                (row_call (get_or kind i 0) (get_or one i 0) (get_or two i 0) (is ∙ c))
                ∙ onward (by false)

        abbrev onward : Out (Progress Store) → Out (Progress Store)
        onward o = and_then (and_then o behind) (after options kind one two count from level)

        pub rest_deep : level ≡ levels → rest options kind one two count from level i s ≡ refusal depth_refusal (line_of i)
        unfolding and_then call_at
        rest_deep z =
            let none : levels - level ≡ 0 = omega arith in
            ap (λ (o : Out (Progress Store)). and_then o (after options kind one two count from level)) call_walked
            ∙ ap (λ (k : ℕ). onward (calling k)) none

        module _ (d : level < levels) where
          abbrev left : ℕ
          left = levels - (level + 1)

          entered : Bool → Bool → Out (Progress Store)
          entered b c =
              elim b [
                | true ↦ elim c [
                  | true ↦ refusal choices_refusal (line_of i)
                  | false ↦ rows_walked options kind one two count left (start_of n file) (block_opened store_ops (call_made store_ops by_choice s))
                ]
                | false ↦ refusal calls_refusal (line_of i)
              ]

          ninth : (by_choice && leb (length (options_of options)) choices) ≡ is_ninth letter choices
          unfolding is_ninth
          ninth = rw (options_length choices_most options)

          call_entered : calling (levels - level) ≡ entered (ltb calls calls_most) (is_ninth letter choices)
          unfolding call_at entered
          call_entered =
              let one_less : levels - level ≡ suc left = omega arith in
              ap calling one_less
              ∙ ap (λ (rs : List Row). elim (ltb calls calls_most) [
                | true ↦ elim (by_choice && leb (length (options_of options)) choices) [
                  | true ↦ refusal choices_refusal (line_of i)
                  | false ↦ walk_rows store_ops (options_of options) (call_at store_ops (options_of options) left file) rs (line_of (start_of n file)) (block_opened store_ops (call_made store_ops by_choice s))
                ]
                | false ↦ refusal calls_refusal (line_of i)
              ]) (rows_drop kind one two count (start_of n file))
              ∙ ap (entered (ltb calls calls_most)) ninth

          rest_entered : (b c : Bool) → ltb calls calls_most ≡ b → is_ninth letter choices ≡ c → rest options kind one two count from level i s ≡ onward (entered b c)
          rest_entered b c f g =
              ap (λ (o : Out (Progress Store)). and_then o (after options kind one two count from level)) call_walked
              ∙ ap onward (call_entered ∙ ap₂ entered f g)

          pub rest_calls : calls_most ≤ calls → rest options kind one two count from level i s ≡ refusal calls_refusal (line_of i)
          unfolding and_then entered
          rest_calls m = rest_entered false (is_ninth letter choices) (le-ltb calls calls_most m) refl

          pub rest_ninth : calls < calls_most → is_ninth letter choices ≡ true → rest options kind one two count from level i s ≡ refusal choices_refusal (line_of i)
          unfolding and_then entered
          rest_ninth m f = rest_entered true true (lt-ltb calls calls_most m) f

          -- a row noted for a deeper level changes nothing
          after_set : (k : ℕ) → k ≤ level → (u : Progress Store) → after options kind one two count from k u ≡ after options kind one two count (set from level i) k u
          unfolding after
          after_set zero h u = refl
          after_set (suc k) h u =
              let d : k ≡ level → ⊥ = λ e. omega arith in
              ap (λ (r : ℕ). and_then (rows_walked options kind one two count (levels - k) (r + 1) (block_opened store_ops u)) (after options kind one two count from k))
              (sym (get_or-set_other from level k i 0 d))
              ∙ then_alike (rows_walked options kind one two count (levels - k) (get_or (set from level i) k 0 + 1) (block_opened store_ops u))
              (after options kind one two count from k) (after options kind one two count (set from level i) k) (after_set k (omega arith))

          module _ (long : length from ≡ levels) (first : ℕ) (starts : first ≡ start_of n file) (m : calls < calls_most) (room : is_ninth letter choices ≡ false)
              (more : ℕ) (met-more : more ≡ choices_behind letter choices) where
            made_empty : block_opened store_ops (call_made store_ops by_choice s) ≡ idle (calls + 1) more met t
            unfolding call_made choices_behind
            made_empty =
                ap₂ (λ (k l : ℕ). block_opened store_ops (idle k l met t)) (sym (add-one calls)) (sym met-more) ∙ empty_opened (calls + 1) more met t

            noted_here : get_or (set from level i) level 0 ≡ i
            noted_here = get_or-set_same from level i 0 (omega arith)

            pub rest_called : rest options kind one two count from level i s ≡ rest options kind one two count (set from level i) (level + 1) first (idle (calls + 1) more met t)
            unfolding after entered
            rest_called =
                let start = start_of n file in
                rest_entered true false (lt-ltb calls calls_most m) room
                ∙ then_then (rows_walked options kind one two count left start (block_opened store_ops (call_made store_ops by_choice s))) behind (after options kind one two count from level)
                ∙ ap (λ (u : Progress Store). and_then (rows_walked options kind one two count left start u) (λ s'. and_then (behind s') (after options kind one two count from level))) made_empty
                ∙ then_alike (rows_walked options kind one two count left start (idle (calls + 1) more met t)) (λ s'. and_then (behind s') (after options kind one two count from level))
                (after options kind one two count (set from level i) (suc level))
                (λ u. then_alike (behind u) (after options kind one two count from level) (after options kind one two count (set from level i) level) (after_set level (omega arith))
                ∙ ap (λ (k : ℕ). and_then (rows_walked options kind one two count (levels - level) (k + 1) (block_opened store_ops u)) (after options kind one two count (set from level i) level))
                (sym noted_here))
                ∙ ap₂ (λ (k r : ℕ). and_then (rows_walked options kind one two count left r (idle (calls + 1) more met t)) (after options kind one two count (set from level i) k))
                (sym (add-one level)) (sym starts)
