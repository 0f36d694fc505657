-- What the loop between two blocks keeps, row by row, and where it leaves them. Each law has the premises of one place of the code.
-- Assumes nothing.
use Prim.Native.Nat.{ℕ, zero, suc, ◌+◌, ◌-◌, ◌<◌, ◌≤◌}
use native.Mathlib.Omega.{arith}
use mathlib.Core.Path.{◌≡◌, refl, sym, ◌∙◌, ap, subst}
use mathlib.Core.Bool.{Bool, true, false, ◌||◌}
use mathlib.Core.List.{List, ◌∷◌}
use lib.Dec.{eqb}
use lib.ListN.{length, get_or, set, length-set}
use lib.Seq.{get_or-set_same, get_or-set_other}
use mir.Syntax.{w64}
use mir.Val.{Fits}
use borrow.Author.Tests.{lt-ltb, eqb-true, eqb-false}
use Rattle.model.specs.Limits.{rows_most, levels, calls_most}
use Rattle.model.specs.Rows.{Row}
use Rattle.model.specs.Place.{line_of}
use Rattle.model.specs.Expansion.{start_of}
use Rattle.model.proofs.Bounded.{not_both}
use Rattle.sheet.specs.Bridge.{row_from, rows_of}
use Rattle.sheet.proofs.Bridge.{row_call, row_choice, row_block}
use Rattle.blocks.specs.Store.{Store}
use Rattle.walk.specs.Block.{rows_from, in_block, AllStand}
use Rattle.walk.proofs.Meeting.{rows_next, not_in}
use Rattle.levels.specs.Letters.{letter_at}
use Rattle.levels.proofs.Letters.{row_there, row_letter, letter_inside}
use Rattle.levels.specs.Options.{is_call, is_ninth, sheet_called, choices_behind}
use Rattle.next_block.specs.Levels.{BehindBlocks, idle, rest, rank, Behind, Sheets, Between, Reaches}
use Rattle.std.specs.Prelude.{Result, Ok, Err}
use Rattle.outcome.specs.declared.Refusal.{Refusal}
use Rattle.outcome.specs.declared.Reason.TheVariants as reason
use Rattle.next_block.specs.declared.Reached.{Reached}
use Rattle.next_block.specs.declared.Reached.TheVariants as reached
use Rattle.next_block.proofs.Steps.{rest_end, rest_back, rest_block, rest_deep, rest_calls, rest_ninth, rest_called}
use Rattle.levels.proofs.Choosing.{either}

-- where the walk came to, known by another name
pub reaches_as : {options : ℕ} {kind one two : List ℕ} {count : ℕ} {from : List ℕ} {level i calls choices : ℕ} {r r' : Reached} {from' : List ℕ} → r ≡ r'
    → Reaches options kind one two count from level i calls choices (Ok r) from'
    → Reaches options kind one two count from level i calls choices (Ok r') from'
reaches_as {options = options} {kind = kind} {one = one} {two = two} {count = count} {from = from} {level = level} {i = i} {calls = calls} {choices = choices} {from' = from'} e h =
    subst (λ (r : Reached). Reaches options kind one two count from level i calls choices (Ok r) from') e h

-- a row that calls is no S row, and the rows behind it stand in a new block
call_no_sheet : (letter : ℕ) → is_call letter ≡ true → letter ≡ 83 → ⊥
unfolding is_call
call_no_sheet letter e z = not_both (is_call letter) e (rw z)

call_stand : (k a b : ℕ) (rs : List Row) → is_call k ≡ true → AllStand 0 (row_from k a b ∷ rs) → AllStand 0 rs
unfolding is_call
call_stand k a b rs e h = go (eqb k 65) refl
  where
    go : (t : Bool) → eqb k 65 ≡ t → AllStand 0 rs
    go true f = (subst (λ (r : Row). AllStand 0 (r ∷ rs)) (row_choice k a b (eqb-true k 65 f)) h).1
    go false f =
        let c : k ≡ 67 = eqb-true k 67 (either (eqb k 67) (subst (λ (t : Bool). (eqb k 67 || t) ≡ true) f e)) in
        (subst (λ (r : Row). AllStand 0 (r ∷ rs)) (row_call k a b c) h).1

module _ (options : ℕ) (kind one two : List ℕ) (count : ℕ) (from₀ : List ℕ) (level₀ row calls₀ choices₀ : ℕ) where
  abbrev Left : Result Reached Refusal → List ℕ → Type 0
  Left r from = Reaches options kind one two count from₀ level₀ row calls₀ choices₀ r from

  -- from here the whole comes to what it came to from the first row
  pub record Seeking (from : List ℕ) (level i calls choices : ℕ) : Type 0 where
    pub exact : (met : ℕ) (t : Store) → rest options kind one two count from₀ level₀ row (idle calls₀ choices₀ met t) ≡ rest options kind one two count from level i (idle calls choices met t)
    pub between : Between options kind one two count from level i calls
    pub nearer : rank count level i calls ≤ rank count level₀ row calls₀

  pub seeking_start : Between options kind one two count from₀ level₀ row calls₀ → Seeking from₀ level₀ row calls₀ choices₀
  seeking_start b = record { exact = λ met t. refl; between = b; nearer = omega arith }

  module _ (from : List ℕ) (level i calls choices : ℕ) (j : Seeking from level i calls choices) where
    -- a block is reached
    pub seeking_block : (r : Bool) → r ≡ in_block kind count i → r ≡ true → Left (Ok (reached.Block level i calls choices)) from
    seeking_block r e t =
        record { exact = j.exact; stands = record { between = j.between; row = sym e ∙ t; nearer = j.nearer } }

    module _ (letter : ℕ) (read : letter ≡ letter_at kind count i) where
      -- sheet 0 has ended
      pub seeking_end : letter ≡ 83 → level ≡ 0 → Left (Ok (reached.End calls choices)) from
      seeking_end e z =
          record { exact = λ met t. j.exact met t ∙ rest_end options kind one two count i letter read from level calls choices met t e z; stands = j.between.few }

      -- a B row
      module _ (r : Bool) (test : r ≡ in_block kind count i) (out : r ≡ false) (q : Bool) (asks : q ≡ is_call letter) (no_call : q ≡ false) (b : letter ≡ 83 → ⊥) where
        a : letter ≡ 67 → ⊥
        unfolding is_call
        a e = not_both (is_call letter) (rw e) (sym asks ∙ no_call)

        x : letter ≡ 65 → ⊥
        unfolding is_call
        x e = not_both (is_call letter) (rw e) (sym asks ∙ no_call)

        pub on_there : i < count
        on_there = row_there kind count i letter read b

        is : get_or kind i 0 ≡ letter
        is = row_letter kind count i letter read on_there

        -- the row behind it, and some more, can be counted
        pub on_next : (start : List ℕ) (k : ℕ) → Sheets options kind one two count start → k ≤ 2 → Fits w64 (i + k)
        on_next start k lent few = omega (arith, on_there, lent.rows.few)

        pub on_inside : i + 1 ≤ count
        on_inside = omega (arith, on_there)

        pub seeking_on : Seeking from level (i + 1) calls choices
        seeking_on =
            let p = not_in kind count i r test out on_there in
            record {
              exact = λ met t. j.exact met t
                  ∙ rest_block options kind one two count i letter read from level calls choices met t b (λ e. p.0 (is ∙ e)) (λ e. p.1 (is ∙ e)) a x;
              between = record {
                deep = j.between.deep;
                long = j.between.long;
                few = j.between.few;
                stand =
                    (subst (AllStand 0) (rows_next kind one two count i on_there
                    ∙ ap (λ r. r ∷ rows_from kind one two count (i + 1))
                    (row_block (get_or kind i 0) (get_or one i 0) (get_or two i 0) (λ e. b (sym is ∙ e)) p.0 p.1 (λ e. a (sym is ∙ e)) (λ e. x (sym is ∙ e))))
                    j.between.stand).1;
                behind = j.between.behind;
              };
              nearer = omega (arith, j.nearer, on_there);
            }

      module _ (start : List ℕ) (lent : Sheets options kind one two count start) where
        -- a sheet that was called has ended
        pub back_inside : (level ≡ 0 → ⊥) → get_or from (level - 1) 0 < count
        back_inside n = (j.between.behind (level - 1) (omega arith)).inside

        pub back_next : (k : ℕ) → (level ≡ 0 → ⊥) → k ≤ 2 → Fits w64 (get_or from (level - 1) 0 + k)
        back_next k n few = omega (arith, back_inside n, lent.rows.few)

        pub back_less : (k : ℕ) → (level ≡ 0 → ⊥) → rank count (level - 1) (get_or from (level - 1) 0 + k) calls < rank count level i calls
        back_less k n = omega (arith, lent.rows.few)

        pub seeking_back : letter ≡ 83 → (level ≡ 0 → ⊥) → Seeking from (level - 1) (get_or from (level - 1) 0 + 1) calls choices
        seeking_back e n =
            record {
              exact = λ met t. j.exact met t ∙ rest_back options kind one two count i letter read from level calls choices met t e n;
              between = record {
                deep = omega (arith, j.between.deep);
                long = j.between.long;
                few = j.between.few;
                stand = (j.between.behind (level - 1) (omega arith)).stand;
                behind = λ k h. j.between.behind k (omega arith);
              };
              nearer = omega (arith, j.nearer, back_less 1 n);
            }

        -- a call
        module _ (q : Bool) (asks : q ≡ is_call letter) (taken : q ≡ true) where
          e : is_call letter ≡ true
          e = sym asks ∙ taken

          pub call_there : i < count
          call_there = row_there kind count i letter read no_sheet
            where
              no_sheet : letter ≡ 83 → ⊥
              no_sheet z = call_no_sheet letter e z

          -- its line, and its two numbers, can be read
          pub call_few : i < rows_most
          call_few = omega (arith, call_there, lent.rows.few)

          pub call_one : i < length one
          call_one = omega (arith, call_there, lent.rows.one_long)

          pub call_two : i < length two
          call_two = omega (arith, call_there, lent.rows.two_long)

          pub call_line : Fits w64 (i + 2)
          call_line = omega (arith, call_there, lent.rows.few)

          letter_is : get_or kind i 0 ≡ letter
          letter_is = row_letter kind count i letter read call_there

          is_call_holds : is_call (get_or kind i 0) ≡ true
          is_call_holds = subst (λ (k : ℕ). is_call k ≡ true) (sym letter_is) e

          pub call_sheet : (sheet : ℕ) → sheet ≡ sheet_called letter (get_or one i 0) (get_or two i 0) options choices → sheet < length start
          call_sheet sheet f =
              subst (λ (n : ℕ). n < length start) (sym f)
              (subst (λ (k : ℕ). sheet_called k (get_or one i 0) (get_or two i 0) options choices < length start) letter_is (lent.known i choices call_there is_call_holds))

          pub seeking_deep : (r : Refusal) → r ≡ record { reason = reason.Depth; line = line_of i } → level ≡ levels → Left (Err r) from
          seeking_deep r f z =
              rw f (record { exact = λ met t. j.exact met t ∙ rest_deep options kind one two count i letter read from level calls choices met t e z; stands = tt })

          module _ (n : level ≡ levels → ⊥) where
            pub deeper : level < levels
            deeper = omega (arith, j.between.deep)

            pub seeking_calls : (r : Refusal) → r ≡ record { reason = reason.Calls; line = line_of i } → calls_most ≤ calls → Left (Err r) from
            seeking_calls r f m =
                rw f (record { exact = λ met t. j.exact met t ∙ rest_calls options kind one two count i letter read from level calls choices met t e deeper m; stands = tt })

            module _ (m : calls < calls_most) (o : Bool) (ninth : o ≡ is_ninth letter choices) where
              pub seeking_ninth : (r : Refusal) → r ≡ record { reason = reason.Choices; line = line_of i } → o ≡ true → Left (Err r) from
              seeking_ninth r g f =
                  rw g
                  (record {
                    exact = λ met t. j.exact met t ∙ rest_ninth options kind one two count i letter read from level calls choices met t e deeper m (sym ninth ∙ f);
                    stands = tt;
                  })

              module _ (room : o ≡ false) (sheet : ℕ) (called : sheet ≡ sheet_called letter (get_or one i 0) (get_or two i 0) options choices)
                  (more : ℕ) (met-more : more ≡ choices_behind letter choices) (first : ℕ) (starts : first ≡ get_or start sheet 0) where
                pub called_less : rank count (level + 1) first (calls + 1) < rank count level i calls
                called_less = omega (arith, lent.rows.few)

                begins : first ≡ start_of (sheet_called letter (get_or one i 0) (get_or two i 0) options choices) (rows_of kind one two count)
                begins =
                    starts ∙ ap (λ (n : ℕ). get_or start n 0) called
                    ∙ subst (λ (k : ℕ). get_or start (sheet_called k (get_or one i 0) (get_or two i 0) options choices) 0
                    ≡ start_of (sheet_called k (get_or one i 0) (get_or two i 0) options choices) (rows_of kind one two count)) letter_is
                    (lent.starts i choices call_there is_call_holds)

                behind_call : Behind options kind one two count i
                behind_call =
                    record {
                      inside = call_there;
                      stand = call_stand (get_or kind i 0) (get_or one i 0) (get_or two i 0) (rows_from kind one two count (i + 1)) is_call_holds
                          (subst (AllStand 0) (rows_next kind one two count i call_there) j.between.stand);
                    }

                noted : (k : ℕ) → k < level + 1 → (b : Bool) → eqb k level ≡ b → Behind options kind one two count (get_or (set from level i) k 0)
                noted k h true e =
                    let here : get_or (set from level i) k 0 ≡ i = ap (λ (k : ℕ). get_or (set from level i) k 0) (eqb-true k level e)
                    ∙ get_or-set_same from level i 0 (omega (arith, j.between.long, deeper)) in
                    subst (Behind options kind one two count) (sym here) behind_call
                noted k h false e =
                    let d : k ≡ level → ⊥ = eqb-false k level e in
                    subst (Behind options kind one two count) (sym (get_or-set_other from level k i 0 d)) (j.between.behind k (omega arith))

                pub seeking_called : Seeking (set from level i) (level + 1) first (calls + 1) more
                seeking_called =
                    record {
                      exact = λ met t. j.exact met t
                          ∙ rest_called options kind one two count i letter read from level calls choices met t e deeper j.between.long first begins m
                          (sym ninth ∙ room) more met-more;
                      between = record {
                        deep = omega (arith, deeper);
                        long = length-set from level i ∙ j.between.long;
                        few = omega arith;
                        stand =
                            subst (λ (k : ℕ). AllStand 0 (rows_from kind one two count k)) (sym begins)
                            (lent.stand (sheet_called letter (get_or one i 0) (get_or two i 0) options choices));
                        behind = λ k h. noted k h (eqb k level) refl;
                      };
                      nearer = omega (arith, j.nearer, called_less);
                    }

module _ (options : ℕ) (kind one two : List ℕ) (count : ℕ) (from₀ : List ℕ) (level₀ row calls₀ choices₀ : ℕ) where
  abbrev At : List ℕ → ℕ → ℕ → ℕ → ℕ → Type 0
  At from level i calls choices = Seeking options kind one two count from₀ level₀ row calls₀ choices₀ from level i calls choices

  -- a B row is no row of a block and no call
  block_outside : (i : ℕ) → i < count → get_or kind i 0 ≡ 66 → false ≡ in_block kind count i
  unfolding in_block
  block_outside i h e = rw (lt-ltb i count h, e)

  block_no_call : false ≡ is_call 66
  unfolding is_call
  block_no_call = refl

  -- B rows, one after another: so many from row i on
  blocks_on : (from : List ℕ) (level calls choices i n : ℕ) → i + n ≤ count → ((k : ℕ) → i ≤ k → k < i + n → get_or kind k 0 ≡ 66)
      → At from level i calls choices → At from level (i + n) calls choices
  blocks_on from level calls choices i zero h b j = subst (λ (k : ℕ). At from level k calls choices) (omega arith) j
  blocks_on from level calls choices i (suc n) h b j =
      let inside : i < count = omega arith in
      let is : get_or kind i 0 ≡ 66 = b i (omega arith) (omega arith) in
      subst (λ (k : ℕ). At from level k calls choices) (omega arith)
      (blocks_on from level calls choices (i + 1) n (omega arith) (λ k l m. b k (omega (arith, l)) (omega (arith, m)))
      (seeking_on options kind one two count from₀ level₀ row calls₀ choices₀ from level i calls choices j 66 (sym is ∙ letter_inside kind count i inside)
      false (block_outside i inside is) refl false block_no_call refl (λ z. absurd (omega (arith, z)))))

  -- behind a B row, the walk goes on at the first row that is none
  module _ (from : List ℕ) (level i calls choices : ℕ) (j : At from level i calls choices) (letter : ℕ) (read : letter ≡ letter_at kind count i)
      (r : Bool) (test : r ≡ in_block kind count i) (out : r ≡ false) (q : Bool) (asks : q ≡ is_call letter) (no_call : q ≡ false) (b : letter ≡ 83 → ⊥)
      (next : ℕ) (passed : BehindBlocks kind count (i + 1) next) where
    pub behind_less : rank count level next calls < rank count level i calls
    behind_less = omega (arith, passed.on, passed.inside)

    pub seeking_behind : At from level next calls choices
    seeking_behind =
        let same : i + 1 + (next - (i + 1)) ≡ next = omega (arith, passed.on) in
        subst (λ (k : ℕ). At from level k calls choices) same
        (blocks_on from level calls choices (i + 1) (next - (i + 1)) (omega (arith, passed.inside)) (λ k l m. passed.blocks k l (omega (arith, m, same)))
        (seeking_on options kind one two count from₀ level₀ row calls₀ choices₀ from level i calls choices j letter read r test out q asks no_call b))
