-- The masks grow message by message: four marks each. Assumes nothing.
use mathlib.Core.Path.{◌≡◌, refl, sym, ◌∙◌, subst}
use mathlib.Core.Bool.{false, ◌&&◌, ◌||◌, and-false, and-true, or-false}
use mathlib.Core.List.{List}
use Prim.Native.Nat.{ℕ, ◌+◌, ◌*◌, ◌%◌, ◌<◌, ◌≤◌}
use native.Mathlib.Decide.{ℕ_discrete, dec_lt}
use native.Mathlib.Nat.{le_antisymm}
use native.Mathlib.Omega.{arith}
use lib.Dec.{eqb, ltb}
use lib.ListN.{length, get_or}
use borrow.Author.Tests.{eq-eqb, ne_eqb, lt-ltb, le-ltb, lt-leb}
use Rattle.model.specs.Limits.{boards, messages_most}
use Rattle.relation.specs.Width.{width, word_bits}
use Rattle.relation.specs.Rows.{holds, marked, cleared}
use Rattle.relation.proofs.Tests.{eqb_same}
use Rattle.relation.proofs.Marked.{length_marked, holds_marked}
use Rattle.relation.proofs.Cleared.{holds_cleared}
use Rattle.board.specs.Boards.{BoardsBelow}
use Rattle.board.specs.Masks.{mask_rows, is_send, masks_with, MasksOf}

eqb_swap : (a b : ℕ) → eqb a b ≡ eqb b a
eqb_swap a b = eqb_same a b b a sym sym

-- cleared words are the masks of no message
pub masks_none : (on l : List ℕ) → MasksOf 0 on (cleared (mask_rows * width) l)
masks_none on l =
    record {
      on_board = λ b k hb hk. clear b k (omega arith) hk ∙ rw (le-ltb k (2 * 0) (omega arith));
      to_board = λ b k hb hk. clear (boards + b) k (omega arith) hk ∙ rw (le-ltb k (2 * 0) (omega arith));
      sends = λ k hk. clear (2 * boards) k (omega arith) hk ∙ rw (le-ltb k (2 * 0) (omega arith));
    }
  where
    clear : (b k : ℕ) → b < mask_rows → k < word_bits * width → holds width (cleared (mask_rows * width) l) b k ≡ false
    clear b k hb hk = holds_cleared width l mask_rows b k hk ∙ rw (lt-leb mask_rows b hb)

module _ (on l : List ℕ) (n : ℕ) (M : MasksOf n on l) (few : n < messages_most) (room : mask_rows * width ≤ length l)
    (s t : ℕ) (source : s ≡ get_or on (2 * n) 0) (target : t ≡ get_or on (2 * n + 1) 0) (hs : s < boards) (ht : t < boards) where
  abbrev one : List ℕ
  one = marked width l s (2 * n)

  abbrev two : List ℕ
  two = marked width one t (2 * n + 1)

  abbrev three : List ℕ
  three = marked width two (boards + t) (2 * n)

  abbrev four : List ℕ
  four = marked width three (2 * boards) (2 * n)

  four_marks : (b k : ℕ) → k < word_bits * width
      → holds width four b k ≡ (holds width l b k || eqb b s && eqb k (2 * n) || eqb b t && eqb k (2 * n + 1)
      || eqb b (boards + t) && eqb k (2 * n) || eqb b (2 * boards) && eqb k (2 * n))
  four_marks b k h =
      let l1 : length one ≡ length l = length_marked width l s (2 * n) in
      let l2 : length two ≡ length one = length_marked width one t (2 * n + 1) in
      let l3 : length three ≡ length two = length_marked width two (boards + t) (2 * n) in
      rw (
        holds_marked width three (2 * boards) (2 * n) b k (omega arith) (omega arith) h,
        holds_marked width two (boards + t) (2 * n) b k (omega arith) (omega arith) h,
        holds_marked width one t (2 * n + 1) b k (omega arith) (omega arith) h,
        holds_marked width l s (2 * n) b k (omega arith) (omega arith) h,
      )

  on_more : (b k : ℕ) → b < boards → k < word_bits * width → holds width four b k ≡ (ltb k (2 * (n + 1)) && eqb (get_or on k 0) b)
  on_more b k hb hk =
      four_marks b k hk
      ∙ rw (ne_eqb b (boards + t) (λ e. omega arith), ne_eqb b (2 * boards) (λ e. omega arith), M.on_board b k hb hk) (go (dec_lt k (2 * n)) (ℕ_discrete k (2 * n)) (ℕ_discrete k (2 * n + 1)))
    where
      go : Dec (k < 2 * n) → Dec (k ≡ 2 * n) → Dec (k ≡ 2 * n + 1)
          → (ltb k (2 * n) && eqb (get_or on k 0) b || eqb b s && eqb k (2 * n) || eqb b t && eqb k (2 * n + 1) || false || false)
          ≡ (ltb k (2 * (n + 1)) && eqb (get_or on k 0) b)
      go (yes h) d e =
          rw (lt-ltb k (2 * n) h, lt-ltb k (2 * (n + 1)) (omega arith), ne_eqb k (2 * n) (λ i. omega arith), ne_eqb k (2 * n + 1) (λ i. omega arith))
          (simp (and-false, or-false))
      go (no g) (yes d) e =
          rw (le-ltb k (2 * n) (omega arith), lt-ltb k (2 * (n + 1)) (omega arith), eq-eqb k (2 * n) d, ne_eqb k (2 * n + 1) (λ i. omega arith), d, ← source)
          (simp (and-false, and-true, or-false) (eqb_swap b s))
      go (no g) (no d) (yes e) =
          rw (le-ltb k (2 * n) (omega arith), lt-ltb k (2 * (n + 1)) (omega arith), ne_eqb k (2 * n) d, eq-eqb k (2 * n + 1) e, e, ← target)
          (simp (and-false, and-true, or-false) (eqb_swap b t))
      go (no g) (no d) (no e) =
          rw (le-ltb k (2 * n) (omega arith), le-ltb k (2 * (n + 1)) (omega arith), ne_eqb k (2 * n) d, ne_eqb k (2 * n + 1) e)
          (simp (and-false, or-false))

  to_more : (b k : ℕ) → b < boards → k < word_bits * width → holds width four (boards + b) k ≡ (is_send (n + 1) k && eqb (get_or on (k + 1) 0) b)
  to_more b k hb hk =
      four_marks (boards + b) k hk
      ∙ rw (
        ne_eqb (boards + b) s (λ e. omega arith),
        ne_eqb (boards + b) t (λ e. omega arith),
        ne_eqb (boards + b) (2 * boards) (λ e. omega arith),
        eqb_same (boards + b) (boards + t) b t (λ e. omega arith) (λ e. omega arith),
        M.to_board b k hb hk,
      )
      (go (dec_lt k (2 * n)) (ℕ_discrete k (2 * n)) (ℕ_discrete k (2 * n + 1)))
    where
      go : Dec (k < 2 * n) → Dec (k ≡ 2 * n) → Dec (k ≡ 2 * n + 1)
          → (is_send n k && eqb (get_or on (k + 1) 0) b || false || false || eqb b t && eqb k (2 * n) || false)
          ≡ (is_send (n + 1) k && eqb (get_or on (k + 1) 0) b)
      go (yes h) d e =
          rw (lt-ltb k (2 * n) h, lt-ltb k (2 * (n + 1)) (omega arith), ne_eqb k (2 * n) (λ i. omega arith)) (simp (and-false, or-false))
      go (no g) (yes d) e =
          rw (le-ltb k (2 * n) (omega arith), lt-ltb k (2 * (n + 1)) (omega arith), eq-eqb (k % 2) 0 (omega arith), eq-eqb k (2 * n) d, d, ← target)
          (simp (and-true, or-false) (eqb_swap b t))
      go (no g) (no d) (yes e) =
          rw (le-ltb k (2 * n) (omega arith), lt-ltb k (2 * (n + 1)) (omega arith), ne_eqb (k % 2) 0 (λ i. omega arith), ne_eqb k (2 * n) d)
          (simp (and-false, or-false))
      go (no g) (no d) (no e) =
          rw (le-ltb k (2 * n) (omega arith), le-ltb k (2 * (n + 1)) (omega arith), ne_eqb k (2 * n) d) (simp (and-false, or-false))

  sends_more : (k : ℕ) → k < word_bits * width → holds width four (2 * boards) k ≡ is_send (n + 1) k
  sends_more k hk =
      four_marks (2 * boards) k hk
      ∙ rw (ne_eqb (2 * boards) s (λ e. omega arith), ne_eqb (2 * boards) t (λ e. omega arith), ne_eqb (2 * boards) (boards + t) (λ e. omega arith), M.sends k hk)
      (go (dec_lt k (2 * n)) (ℕ_discrete k (2 * n)) (ℕ_discrete k (2 * n + 1)))
    where
      go : Dec (k < 2 * n) → Dec (k ≡ 2 * n) → Dec (k ≡ 2 * n + 1) → (is_send n k || false || false || false || eqb k (2 * n)) ≡ is_send (n + 1) k
      go (yes h) d e =
          rw (lt-ltb k (2 * n) h, lt-ltb k (2 * (n + 1)) (omega arith), ne_eqb k (2 * n) (λ i. omega arith)) (simp or-false)
      go (no g) (yes d) e =
          rw (le-ltb k (2 * n) (omega arith), lt-ltb k (2 * (n + 1)) (omega arith), eq-eqb (k % 2) 0 (omega arith), eq-eqb k (2 * n) d)
      go (no g) (no d) (yes e) =
          rw (le-ltb k (2 * n) (omega arith), lt-ltb k (2 * (n + 1)) (omega arith), ne_eqb (k % 2) 0 (λ i. omega arith), ne_eqb k (2 * n) d)
      go (no g) (no d) (no e) =
          rw (le-ltb k (2 * n) (omega arith), le-ltb k (2 * (n + 1)) (omega arith), ne_eqb k (2 * n) d)

  pub masks_more : MasksOf (n + 1) on four
  masks_more = record { on_board = on_more; to_board = to_more; sends = sends_more }

-- What the loop keeps: the masks of the messages passed.
pub record Masking (on : List ℕ) (count long n : ℕ) (masks : List ℕ) : Type 0 where
  pub exact : MasksOf n on masks
  pub same : length masks ≡ long
  pub most : n ≤ count
  pub below : BoardsBelow count on

pub masking_start : (on : List ℕ) (count : ℕ) (l masks : List ℕ) → masks ≡ cleared (mask_rows * width) l → BoardsBelow count on
    → Masking on count (length masks) 0 masks
masking_start on count l masks e below =
    record { exact = subst (MasksOf 0 on) (sym e) (masks_none on l); same = refl; most = omega arith; below = below }

pub masking_more : (on : List ℕ) (count long n : ℕ) (masks more : List ℕ) (s t : ℕ) → Masking on count long n masks → more ≡ masks_with masks n s t
    → s ≡ get_or on (2 * n) 0 → t ≡ get_or on (2 * n + 1) 0 → n < count → count ≤ messages_most → mask_rows * width ≤ long
    → Masking on count long (n + 1) more
unfolding masks_with
masking_more on count long n masks more s t j e source target h few room =
    let hs : get_or on (2 * n) 0 < boards = j.below (2 * n) (omega arith) in
    let ht : get_or on (2 * n + 1) 0 < boards = j.below (2 * n + 1) (omega arith) in
    record {
      exact = rw e (masks_more on masks n j.exact (omega arith) (omega arith) s t source target (omega arith) (omega arith));
      same = rw e (simp length_marked j.same);
      most = omega arith;
      below = j.below;
    }

pub masking_end : (on : List ℕ) (count long n : ℕ) (masks : List ℕ) → Masking on count long n masks → count ≤ n → MasksOf count on masks
masking_end on count long n masks j h = rw (le_antisymm h j.most) j.exact

-- the four marks, one behind the other
pub marks_made : (l l1 l2 l3 l4 : List ℕ) (m s t : ℕ) → l4 ≡ marked width l3 (2 * boards) (2 * m) → l3 ≡ marked width l2 (boards + t) (2 * m)
    → l2 ≡ marked width l1 t (2 * m + 1) → l1 ≡ marked width l s (2 * m) → l4 ≡ masks_with l m s t
unfolding masks_with
marks_made l l1 l2 l3 l4 m s t e4 e3 e2 e1 = rw (e4, e3, e2, e1)
