-- What the loop keeps on its way to the last message asked for, row by row, and what each place of the code asks. Assumes nothing.
use Prim.Native.Nat.{ℕ, ◌+◌, ◌-◌, ◌<◌, ◌≤◌, ◌*◌}
use native.Mathlib.Omega.{arith}
use mathlib.Core.Path.{◌≡◌, refl, sym, ◌∙◌, ap, subst}
use mathlib.Core.Bool.{Bool, true, false}
use mathlib.Core.List.{List, [], ◌∷◌, ◌++◌, append_assoc}
use lib.Dec.{eqb}
use lib.ListN.{length, get_or, set, take, drop, length-set, length-append}
use lib.Seq.{length-take-le, take_at, get_or-set_same, get_or-set_other}
use mir.Syntax.{w16, w64}
use mir.Val.{Fits}
use borrow.Author.Tests.{eqb-true, eqb-false}
use Rattle.model.specs.Limits.{levels, calls_most, rows_most}
use Rattle.model.specs.Refusal.{Out, ok, refusal}
use Rattle.model.specs.Rows.{Row}
use Rattle.model.specs.Place.{line_of}
use Rattle.model.specs.Expansion.{fresh_walk, start_of, block_opened, call_made, message_met, expand}
use Rattle.model.specs.Senders.{with_lines, line_ops}
use Rattle.sheet.specs.Bridge.{rows_of}
use Rattle.levels.specs.Options.{is_call, sheet_called}
use Rattle.levels.specs.Letters.{letter_at}
use Rattle.next_block.specs.Levels.{rank, Sheets}
use Rattle.levels.proofs.Letters.{row_there, row_letter}
use Rattle.levels.proofs.Choosing.{called_c}
use Rattle.expansion.specs.Lent.{RowsRead}
use Rattle.expansion.proofs.Reading.{start_long, start_zero, sheets_lent}
use Rattle.message_lines.specs.Lines.{lines_in}
use Rattle.message_lines.proofs.Next.{set_next}
use Rattle.message_lines.proofs.Growing.{Lined, KeepsOn, Keeps}
use Rattle.message_lines.proofs.Left.{rest, rest_keep, rest_whole, ended, back, message_met_holds, other_passed, call_room, call_entered}

module _ (kind one two : List ℕ) (count asked : ℕ) (given : List ℕ) where
  abbrev file : List Row
  file = rows_of kind one two count

  -- a walk that is not refused, so many lines being met, comes to the end from here
  pub record Looking (from : List ℕ) (level i calls met : ℕ) : Type 0 where
    pub deep : level ≤ levels
    pub long : length from ≡ levels
    pub few : calls ≤ calls_most
    pub behind : (k : ℕ) → k < level → get_or from k 0 < count
    pub state : Lined
    pub made : state.walk.calls ≡ calls
    pub lines : length state.kept ≡ met
    pub last : Lined
    pub exact : rest kind one two count from level i state ≡ ok last
    pub whole : lines_in file ≡ last.kept

  -- the lines met so far are written, and while one is asked for that is not met the walk goes on
  pub record Writing (now from : List ℕ) (level i calls met : ℕ) : Type 0 where
    pub so_far : met ≤ asked
    pub written : now ≡ take met (lines_in file) ++ drop met given
    pub keeps : length now ≡ length given
    pub on_way : met < asked → Looking from level i calls met

  pub all_written : (now from : List ℕ) (level i calls met : ℕ) → Writing now from level i calls met → asked ≤ met
      → now ≡ take asked (lines_in file) ++ drop asked given
  all_written now from level i calls met w n =
      let e : met ≡ asked = omega (arith, w.so_far) in
      w.written ∙ ap (λ (k : ℕ). take k (lines_in file) ++ drop k given) e

  module _ (start : List ℕ) (lent : RowsRead kind one two count start) (there : asked ≤ length (lines_in file)) where
    lent_sheets : Sheets 0 kind one two count start
    lent_sheets = sheets_lent kind one two count start lent 0

    pub start_there : 0 < length start
    start_there = omega (arith, start_long kind one two count start lent)

    looking_start : (from : List ℕ) (first : ℕ) → first ≡ get_or start 0 0 → length from ≡ levels → 0 < asked → Looking from 0 first 0 0
    unfolding lines_in
    looking_start from first e f a = go (expand line_ops [] (with_lines 0 file) []) refl
      where
        fresh : Lined
        fresh = record { walk = fresh_walk; kept = [] }

        same : rest kind one two count from 0 first fresh ≡ expand line_ops [] (with_lines 0 file) []
        same =
            ap (λ (k : ℕ). rest kind one two count from 0 k fresh) (e ∙ start_zero kind one two count start lent)
            ∙ rest_whole kind one two count from fresh refl

        go : (o : Out Lined) → expand line_ops [] (with_lines 0 file) [] ≡ o → Looking from 0 first 0 0
        go (ok s) d =
            record {
              deep = omega arith;
              long = f;
              few = omega arith;
              behind = λ k h. absurd (omega arith);
              state = fresh;
              made = refl;
              lines = refl;
              last = s;
              exact = same ∙ d;
              whole = rw (d, lines_in);
            }
        go (refusal number line) d = absurd (omega (arith, subst (λ (l : List ℕ). asked ≤ length l) (none d) there))
          where
            none : expand line_ops [] (with_lines 0 file) [] ≡ refusal number line → lines_in file ≡ []
            none x = rw (x, lines_in)

    pub writing_start : (from : List ℕ) (first : ℕ) → first ≡ get_or start 0 0 → length from ≡ levels → Writing given from 0 first 0 0
    writing_start from first e f =
        record { so_far = omega arith; written = refl; keeps = refl; on_way = looking_start from first e f }

    module _ (now from : List ℕ) (level i calls met : ℕ) (w : Writing now from level i calls met) (more : met < asked) (letter : ℕ) (read : letter ≡ letter_at kind count i) where
      j : Looking from level i calls met
      j = w.on_way more

      -- a row at which no line is written
      goes_on : (from' : List ℕ) (level' i' calls' : ℕ) → Looking from' level' i' calls' met → Writing now from' level' i' calls' met
      goes_on from' level' i' calls' l = record { so_far = w.so_far; written = w.written; keeps = w.keeps; on_way = λ _. l }

      here : (letter ≡ 83 → ⊥) → i < count
      here n = row_there kind count i letter read n

      -- a C row
      module _ (z : letter ≡ 67) where
        no_sheet : letter ≡ 83 → ⊥
        no_sheet e = omega arith

        room : (level < levels) × (j.state.walk.calls < calls_most)
        room = call_room kind one two count from level i letter read j.state j.last j.exact (here no_sheet) z

        pub call_deep : level < levels
        call_deep = room.0

        pub call_scaled : Fits w64 (level * 8)
        call_scaled = omega (arith, room.0)

        pub call_level : Fits w64 (level + 1)
        call_level = omega (arith, room.0)

        pub call_count : Fits w64 (calls + 1)
        call_count = omega (arith, j.few)

        pub call_one : i < length one
        call_one = omega (arith, here no_sheet, lent.one_long)

        -- its place in a column of 16-bit numbers can be counted
        pub call_place : Fits w64 (i * 2)
        call_place = omega (arith, here no_sheet, lent_sheets.rows.few)

        is : get_or kind i 0 ≡ letter
        is = row_letter kind count i letter read (here no_sheet)

        calls_it : is_call (get_or kind i 0) ≡ true
        unfolding is_call
        calls_it = rw (is, z)

        called : sheet_called (get_or kind i 0) (get_or one i 0) (get_or two i 0) 0 0 ≡ get_or one i 0
        called = sym (called_c (get_or kind i 0) 0 (get_or one i 0) (get_or two i 0) 0 (λ e. omega (arith, is)))

        pub call_sheet : get_or one i 0 < length start
        call_sheet = subst (λ (n : ℕ). n < length start) called (lent_sheets.known i 0 (here no_sheet) calls_it)

        pub call_less : (first : ℕ) → rank count (level + 1) first (calls + 1) < rank count level i calls
        call_less first = omega (arith, room.1, j.made, lent_sheets.rows.few)

        module _ (first : ℕ) (starts : first ≡ get_or start (get_or one i 0) 0) where
          begins : first ≡ start_of (get_or one i 0) file
          begins =
              starts
              ∙ subst (λ (n : ℕ). get_or start n 0 ≡ start_of n file) called (lent_sheets.starts i 0 (here no_sheet) calls_it)

          noted : (k : ℕ) → k < level + 1 → (b : Bool) → eqb k level ≡ b → get_or (set from level i) k 0 < count
          noted k h true e =
              let same : get_or (set from level i) k 0 ≡ i = ap (λ (n : ℕ). get_or (set from level i) n 0) (eqb-true k level e)
              ∙ get_or-set_same from level i 0 (omega (arith, j.long, room.0)) in
              omega (arith, here no_sheet)
          noted k h false e =
              let d : k ≡ level → ⊥ = eqb-false k level e in
              let same : get_or (set from level i) k 0 ≡ get_or from k 0 = get_or-set_other from level k i 0 d in
              omega (arith, j.behind k (omega arith))

          looking_called : Looking (set from level i) (level + 1) first (calls + 1) met
          unfolding block_opened call_made line_ops
          looking_called =
              record {
                deep = omega (arith, room.0);
                long = length-set from level i ∙ j.long;
                few = omega (arith, room.1, j.made);
                behind = λ k h. noted k h (eqb k level) refl;
                state = block_opened line_ops (call_made line_ops false j.state);
                made = omega (arith, j.made);
                lines = j.lines;
                last = j.last;
                exact = rw begins (call_entered kind one two count from level i letter read j.state j.last j.exact (here no_sheet) z j.long);
                whole = j.whole;
              }

          pub writing_called : Writing now (set from level i) (level + 1) first (calls + 1) met
          writing_called = goes_on (set from level i) (level + 1) first (calls + 1) looking_called

      -- a sheet has ended, and it is not sheet 0: a message is not met yet
      module _ (z : letter ≡ 83) where
        pub inside : level ≡ 0 → ⊥
        inside l =
            let e : j.state ≡ j.last = ended kind one two count from level i letter read j.state j.last j.exact z l in
            let long : length j.last.kept ≡ met = ap (λ (s : Lined). length s.kept) (sym e) ∙ j.lines in
            let most : asked ≤ length j.last.kept = subst (λ (l : List ℕ). asked ≤ length l) j.whole there in
            omega arith

        pub back_level : 1 ≤ level
        back_level = let n = inside in omega arith

        pub back_noted : level - 1 < levels
        back_noted = let n = inside in omega (arith, j.deep)

        pub back_scaled : Fits w64 ((level - 1) * 8)
        back_scaled = omega (arith, back_noted)

        came_from : get_or from (level - 1) 0 < count
        came_from = let n = inside in j.behind (level - 1) (omega arith)

        -- a few rows after the call; only `writing_back` says how many
        pub back_next : (k : ℕ) → k ≤ rows_most → Fits w64 (get_or from (level - 1) 0 + k)
        back_next k h = omega (arith, came_from, lent_sheets.rows.few)

        pub back_less : (k : ℕ) → rank count (level - 1) (get_or from (level - 1) 0 + k) calls < rank count level i calls
        back_less k = let n = inside in omega (arith, lent_sheets.rows.few)

        looking_back : Looking from (level - 1) (get_or from (level - 1) 0 + 1) calls met
        unfolding block_opened line_ops
        looking_back =
            record {
              deep = omega (arith, j.deep);
              long = j.long;
              few = j.few;
              behind = λ k h. j.behind k (omega arith);
              state = block_opened line_ops j.state;
              made = j.made;
              lines = j.lines;
              last = j.last;
              exact = back kind one two count from level i letter read j.state j.last j.exact z inside;
              whole = j.whole;
            }

        pub writing_back : Writing now from (level - 1) (get_or from (level - 1) 0 + 1) calls met
        writing_back = goes_on from (level - 1) (get_or from (level - 1) 0 + 1) calls looking_back

      -- any other row is there, and the walk goes on after it
      module _ (b : letter ≡ 83 → ⊥) where
        -- a few lines after the row's number; only `writing_message` says how many
        pub row_line : (k : ℕ) → k ≤ rows_most → Fits w64 (i + k)
        row_line k h = omega (arith, here b, lent_sheets.rows.few)

        pub row_next : Fits w64 (i + 1)
        row_next = omega (arith, here b, lent_sheets.rows.few)

        pub row_less : rank count level (i + 1) calls < rank count level i calls
        row_less = omega (arith, here b)

        -- an M row
        module _ (z : letter ≡ 77) where
          abbrev grown : Lined
          grown = message_met line_ops (line_of i) (get_or two i 0) j.state

          onward : rest kind one two count from level (i + 1) grown ≡ ok j.last
          onward = message_met_holds kind one two count from level i letter read j.state j.last j.exact (here b) z

          kept_long : length (j.state.kept ++ (line_of i ∷ [])) ≡ met + 1
          kept_long = length-append j.state.kept (line_of i ∷ []) ∙ ap (λ (k : ℕ). k + 1) j.lines

          pub line_narrow : (k : ℕ) → k ≤ rows_most → Fits w16 (i + k)
          line_narrow k h = omega (arith, here b, lent_sheets.rows.few)

          -- a place for it
          pub line_room : asked ≤ length given → met < length now
          line_room room = omega (arith, w.keeps)

          looking_message : Looking from level (i + 1) calls (met + 1)
          unfolding message_met line_ops
          looking_message =
              record {
                deep = j.deep;
                long = j.long;
                few = j.few;
                behind = j.behind;
                state = grown;
                made = j.made;
                lines = kept_long;
                last = j.last;
                exact = onward;
                whole = j.whole;
              }

          -- the lines of the walk begin with those met, and this row's is the next
          begins_with : (t : List ℕ) → lines_in file ≡ j.state.kept ++ t → take met (lines_in file) ≡ j.state.kept
          begins_with t e = ap (take met) e ∙ take_at j.state.kept t met j.lines

          next_line : take (met + 1) (lines_in file) ≡ take met (lines_in file) ++ ((i + 2) ∷ [])
          unfolding message_met line_ops
          next_line =
              let k : Keeps grown j.last = subst (λ (o : Out Lined). KeepsOn grown o) onward (rest_keep kind one two count from level (i + 1) grown) in
              let all : lines_in file ≡ (j.state.kept ++ (line_of i ∷ [])) ++ k.more = j.whole ∙ k.same in
              ap (take (met + 1)) all
              ∙ take_at (j.state.kept ++ (line_of i ∷ [])) k.more (met + 1) kept_long
              ∙ ap (λ (l : List ℕ). l ++ (line_of i ∷ []))
              (sym (begins_with ((line_of i ∷ []) ++ k.more) (all ∙ append_assoc j.state.kept (line_of i ∷ []) k.more)))

          pub writing_message : asked ≤ length given → Writing (set now met (i + 2)) from level (i + 1) calls (met + 1)
          writing_message room =
              let long : length (take met (lines_in file)) ≡ met = length-take-le met (lines_in file) (omega (arith, there)) in
              record {
                so_far = omega (arith, more);
                written =
                    ap (λ (l : List ℕ). set l met (i + 2)) w.written
                    ∙ set_next (take met (lines_in file)) given met (i + 2) long (omega arith)
                    ∙ ap (λ (l : List ℕ). l ++ drop (met + 1) given) (sym next_line);
                keeps = length-set now met (i + 2) ∙ w.keeps;
                on_way = λ _. looking_message;
              }

        -- a P row or a B row
        module _ (a : letter ≡ 67 → ⊥) (c : letter ≡ 77 → ⊥) where
          looking_on : Looking from level (i + 1) calls met
          looking_on =
              let p = other_passed kind one two count from level i letter read j.state j.last j.exact (here b) a b c in
              record {
                deep = j.deep;
                long = j.long;
                few = j.few;
                behind = j.behind;
                state = p.0;
                made = p.1 ∙ j.made;
                lines = ap length p.2 ∙ j.lines;
                last = j.last;
                exact = p.3;
                whole = j.whole;
              }

          pub writing_on : Writing now from level (i + 1) calls met
          writing_on = goes_on from level (i + 1) calls looking_on
