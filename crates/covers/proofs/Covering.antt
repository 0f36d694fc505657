-- What stands directly before a send, word by word and row by row. Assumes nothing.
use mathlib.Core.Path.{◌≡◌, refl, sym, ◌∙◌, ap, subst⁻¹}
use mathlib.Core.Bool.{Bool, true, false, not, ◌&&◌, ◌||◌}
use mathlib.Core.List.{List}
use Prim.Native.Nat.{ℕ, ◌+◌, ◌*◌, ◌-◌, ◌/◌, ◌%◌, ◌^◌, ◌<◌, ◌≤◌}
use native.Mathlib.Decide.{ℕ_discrete, dec_lt}
use native.Mathlib.Omega.{arith}
use lib.Bits.{bit_and, bit_or, or_lt, and_le_l}
use lib.Dec.{eqb, ltb}
use lib.ListN.{length, get_or, set, replicate, length-set}
use lib.Pow.{shr_le}
use lib.Seq.{get_or-set_same, get_or-set_other}
use borrow.Author.Tests.{eq-eqb, ne_eqb}
use Rattle.model.specs.Limits.{messages_most}
use Rattle.model.specs.Limits as limits
use Rattle.model.specs.Bounded.{any}
use Rattle.model.proofs.Bounded.{any_from, any_some, both_ways}
use Rattle.relation.specs.Width.{width, word_bits}
use Rattle.relation.specs.Rows.{has, holds}
use Rattle.relation.proofs.Bits.{has_or}
use Rattle.relation.proofs.Words.{has_and, has_not, shifted, even_bits, has_even_bits, word_holds, alone_row}
use Rattle.joined_rows.specs.Joins.{copied_from}
use Rattle.joined_rows.proofs.Joined.{length_copied_from, copied_row, copied_other}
use Rattle.board.specs.Boards.{BoardsBelow}
use Rattle.board.specs.Masks.{mask_rows, MasksOf, Standing}
use Rattle.covers.specs.Covers.{RowOf, is_hidden_by, hidden_at, received_at, cover_at, CoverWord, Sheet, CoverRows}

abbrev row_bits : ℕ
row_bits = word_bits * width

-- A word of the row, bit by bit.
pub word_covers : (row hidden mask : ℕ) → row < 2 ^ word_bits → hidden < 2 ^ word_bits
    → CoverWord row hidden mask (bit_and (bit_and row (2 ^ word_bits - 1 - bit_or hidden (bit_and (row / 2 ^ 1) even_bits))) mask)
word_covers row hidden mask small low b h =
    let half : row / 2 ^ 1 ≤ row = shr_le row 1 in
    let sent : bit_and (row / 2 ^ 1) even_bits < 2 ^ word_bits = omega (arith, and_le_l (row / 2 ^ 1) even_bits) in
    let one : b + 1 ≡ 1 + b = omega arith in
    rw (
      has_and,
      has_and,
      has_not b word_bits (bit_or hidden (bit_and (row / 2 ^ 1) even_bits)) h (or_lt word_bits hidden (bit_and (row / 2 ^ 1) even_bits) low sent),
      has_or,
      has_and (row / 2 ^ 1) even_bits b,
      has_even_bits b h,
      ← shifted row 1 b,
      one,
    )
    (turns (has row b) (has hidden b) (has row (1 + b)) (eqb (b % 2) 0) (has mask b))
  where
    turns : (r h n v m : Bool) → (r && not (h || n && v) && m) ≡ (r && not (h || v && n) && m)
    turns r h true true m = refl
    turns r h true false m = refl
    turns r h false true m = refl
    turns r h false false m = refl

-- the board of a send is one of the paper's
pub send_below : (boards : List ℕ) (count e b : ℕ) → BoardsBelow count boards → e < count → b ≡ get_or boards (2 * e) 0 → b < limits.boards
send_below boards count e b low l i = subst⁻¹ (λ (k : ℕ). k < limits.boards) i (low (2 * e) (omega arith))

pub mask_at : (masks boards : List ℕ) (e i b : ℕ) → b ≡ get_or boards (2 * e) 0 → get_or masks (b * width + i) 0 ≡ get_or masks (get_or boards (2 * e) 0 * width + i) 0
mask_at masks boards e i b s = ap (λ (k : ℕ). get_or masks (k * width + i) 0) s

-- The words of a send's row below i are covered.
module _ (words masks boards : List ℕ) (count e : ℕ) (hidden : List ℕ) where
  pub record Covering (i : ℕ) (row : List ℕ) : Type 0 where
    pub exact : (x : ℕ) → x < word_bits * i → holds width row 0 x ≡ cover_at words boards count e x
    pub long : length row ≡ width
    pub most : i ≤ width

  pub covering_start : Covering 0 (replicate width 0)
  covering_start = record { exact = λ x h. absurd (omega arith); long = refl; most = omega arith }

  -- a bit of word i, as the event that it stands for
  at_bit : (i b mask r : ℕ) → i < width → b < word_bits → Standing count boards words masks → e < count → RowOf (hidden_at words count e) hidden
      → mask ≡ get_or masks (get_or boards (2 * e) 0 * width + i) 0 → CoverWord (get_or words (2 * e * width + i) 0) (get_or hidden i 0) mask r
      → has r b ≡ cover_at words boards count e (word_bits * i + b)
  unfolding cover_at received_at
  at_bit i b mask r hi hb S l hid at c =
      let x = word_bits * i + b in
      let board = get_or boards (2 * e) 0 in
      let on : has mask b ≡ (ltb x (2 * count) && eqb (get_or boards x 0) board) =
      ap (λ (w : ℕ). has w b) at ∙ sym (word_holds width masks board i b hb) ∙ S.masks_of.on_board board x (S.boards_below (2 * e) (omega arith)) (omega arith) in
      let out : has (get_or hidden i 0) b ≡ hidden_at words count e x = sym (alone i b hb) ∙ hid x (omega arith) in
      c b hb ∙ rw (← word_holds width words (2 * e) i b hb, on, out, behind (ℕ_discrete (b % 2) 0))
    where
      alone : (i b : ℕ) → b < word_bits → holds width hidden 0 (word_bits * i + b) ≡ has (get_or hidden i 0) b
      alone i b h =
          let d : (word_bits * i + b) / word_bits ≡ i = omega arith in
          let m : (word_bits * i + b) % word_bits ≡ b = omega arith in
          alone_row width hidden (word_bits * i + b) ∙ rw (d, m)

      -- an even bit has its receive's behind it
      behind : Dec (b % 2 ≡ 0)
          → (eqb (b % 2) 0 && has (get_or words (2 * e * width + i) 0) (b + 1))
          ≡ (eqb ((word_bits * i + b) % 2) 0 && holds width words (2 * e) (word_bits * i + b + 1))
      behind (yes even) =
          let p : (word_bits * i + b) % 2 ≡ 0 = omega arith in
          let q : word_bits * i + b + 1 ≡ word_bits * i + (b + 1) = omega arith in
          rw (eq-eqb (b % 2) 0 even, eq-eqb ((word_bits * i + b) % 2) 0 p, q) (sym (word_holds width words (2 * e) i (b + 1) (omega arith)))
      behind (no odd) =
          let p : (word_bits * i + b) % 2 ≡ 0 → ⊥ = λ z. odd (omega arith) in
          rw (ne_eqb (b % 2) 0 odd, ne_eqb ((word_bits * i + b) % 2) 0 p)

  pub covering_more : (i mask r : ℕ) (row : List ℕ) → Standing count boards words masks → e < count → RowOf (hidden_at words count e) hidden
      → mask ≡ get_or masks (get_or boards (2 * e) 0 * width + i) 0 → Covering i row
      → CoverWord (get_or words (2 * e * width + i) 0) (get_or hidden i 0) mask r → i < width
      → Covering (i + 1) (set row i r)
  covering_more i mask r row S l hid at g c h =
      record { exact = λ x k. go x k (dec_lt x (word_bits * i)); long = length-set row i r ∙ g.long; most = omega arith }
    where
      go : (x : ℕ) → x < word_bits * (i + 1) → Dec (x < word_bits * i) → holds width (set row i r) 0 x ≡ cover_at words boards count e x
      go x k (yes p) =
          let apart : x / word_bits ≡ i → ⊥ = λ z. omega arith in
          alone_row width (set row i r) x ∙ ap (λ (w : ℕ). has w (x % word_bits)) (get_or-set_other row i (x / word_bits) r 0 apart)
          ∙ sym (alone_row width row x) ∙ g.exact x p
      go x k (no p) =
          let d : x / word_bits ≡ i = omega arith in
          let whole : word_bits * i + x % word_bits ≡ x = omega arith in
          alone_row width (set row i r) x
          ∙ ap (λ (j : ℕ). has (get_or (set row i r) j 0) (x % word_bits)) d
          ∙ ap (λ (w : ℕ). has w (x % word_bits)) (get_or-set_same row i r 0 (omega (arith, g.long)))
          ∙ at_bit i (x % word_bits) mask r h (omega arith) S l hid at c
          ∙ ap (cover_at words boards count e) whole

  pub covering_end : (i : ℕ) (row : List ℕ) → Covering i row → width ≤ i → RowOf (cover_at words boards count e) row
  covering_end i row g h x l = g.exact x (omega arith)

-- The rows of the receives below e are made; those of the sends are as they were.
module _ (words boards : List ℕ) (count : ℕ) where
  pub record Made (e : ℕ) (now : List ℕ) : Type 0 where
    pub made : (k x : ℕ) → k < e → x < row_bits → holds width now (2 * k + 1) x ≡ cover_at words boards count k x
    pub sends : (k x : ℕ) → k < count → x < row_bits → holds width now (2 * k) x ≡ holds width words (2 * k) x
    pub same : length now ≡ length words
    pub most : e ≤ count

  pub made_start : Made 0 words
  made_start = record { made = λ k x h l. absurd (omega arith); sends = λ k x h l. refl; same = refl; most = omega arith }

  -- what covers a send is read from the rows of the sends alone
  same_cover : (now : List ℕ) (e : ℕ) → Made e now → count ≤ messages_most → e < count → (x : ℕ) → x < row_bits → cover_at now boards count e x ≡ cover_at words boards count e x
  unfolding cover_at received_at hidden_at
  same_cover now e m few l x h = rw (m.sends e x l h, same_hidden, same_received (ℕ_discrete (x % 2) 0))
    where
      hidden_now : (k : ℕ) → k < count → is_hidden_by now e x k ≡ is_hidden_by words e x k
      hidden_now k g = rw (m.sends e (2 * k) l (omega arith), m.sends k x g h)

      same_hidden : any count (is_hidden_by now e x) ≡ any count (is_hidden_by words e x)
      same_hidden =
          both_ways (any count (is_hidden_by now e x)) (any count (is_hidden_by words e x))
          (λ t. let s = any_some count (is_hidden_by now e x) t in any_from count (is_hidden_by words e x) s.0 s.1 (sym (hidden_now s.0 s.1) ∙ s.2))
          (λ t. let s = any_some count (is_hidden_by words e x) t in any_from count (is_hidden_by now e x) s.0 s.1 (hidden_now s.0 s.1 ∙ s.2))

      same_received : Dec (x % 2 ≡ 0) → (eqb (x % 2) 0 && holds width now (2 * e) (x + 1)) ≡ (eqb (x % 2) 0 && holds width words (2 * e) (x + 1))
      same_received (yes even) = rw (m.sends e (x + 1) l (omega arith))
      same_received (no odd) = rw (ne_eqb (x % 2) 0 odd)

  pub made_standing : (e : ℕ) (now masks : List ℕ) → Made e now → Sheet count boards words → MasksOf count boards masks → mask_rows * width ≤ length masks
      → Standing count boards now masks
  made_standing e now masks m S o l =
      record {
        few = S.few;
        boards_long = S.boards_long;
        words_long = omega (arith, m.same, S.words_long);
        masks_long = l;
        boards_below = S.boards_below;
        masks_of = o;
      }

  pub made_more : (e : ℕ) (now row exit : List ℕ) → Made e now → Sheet count boards words → RowOf (cover_at now boards count e) row
      → exit ≡ copied_from width now (2 * e + 1) row 0 → e < count → Made (e + 1) exit
  made_more e now row exit m S r s h =
      let room : (2 * e + 1) * width + width ≤ length now = omega (arith, m.same, S.words_long) in
      subst⁻¹ (Made (e + 1)) s
      (record {
        made = λ k x i l. go k x i l (ℕ_discrete k e) room;
        sends = λ k x i l. copied_other width now (2 * e + 1) row 0 (2 * k) x room l (λ z. omega arith) ∙ m.sends k x i l;
        same = length_copied_from width now (2 * e + 1) row 0 ∙ m.same;
        most = omega arith;
      })
    where
      go : (k x : ℕ) → k < e + 1 → x < row_bits → Dec (k ≡ e) → (2 * e + 1) * width + width ≤ length now
          → holds width (copied_from width now (2 * e + 1) row 0) (2 * k + 1) x ≡ cover_at words boards count k x
      go k x i l (yes z) room =
          copied_row width now (2 * e + 1) row 0 (2 * k + 1) x room l (ap (λ (j : ℕ). 2 * j + 1) z) ∙ r x l ∙ same_cover now e m S.few h x l
          ∙ ap (λ (j : ℕ). cover_at words boards count j x) (sym z)
      go k x i l (no z) room = copied_other width now (2 * e + 1) row 0 (2 * k + 1) x room l (λ j. z (omega arith)) ∙ m.made k x (omega arith) l

  pub made_end : (e : ℕ) (now : List ℕ) → Made e now → count ≤ e → CoverRows count boards words now
  made_end e now m h = record { rows = λ k x l i. m.made k x (omega (arith, m.most)) i; same = m.same }
