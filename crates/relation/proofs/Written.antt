-- A row that is written from its bits: it has just these, and a row with these bits is it. Assumes nothing.
use mathlib.Core.Path.{◌≡◌, refl, sym, ◌∙◌, ap, ap₂}
use mathlib.Core.Bool.{Bool, true, false, cond, ◌&&◌}
use mathlib.Core.List.{List, [], ◌∷◌}
use Prim.Native.Nat.{ℕ, zero, suc, ◌+◌, ◌*◌, ◌/◌, ◌%◌, ◌^◌, ◌<◌, ◌≤◌}
use native.Mathlib.Nat.{pow-suc, div-one, mod-lt, add-zero, zero-add, zero-mul, not-suc-le-zero}
use native.Mathlib.Decide.{dec_lt}
use native.Mathlib.Omega.{arith}
use lib.Arith.{lt-one}
use lib.Dec.{eqb, ltb}
use lib.ListN.{length, get_or}
use borrow.Author.Tests.{lt-ltb, le-ltb}
use Rattle.relation.specs.Width.{word_bits}
use Rattle.relation.specs.Rows.{has, holds, word_from, row_from}
use Rattle.relation.proofs.Bits.{has_zero}
use Rattle.relation.proofs.Words.{half, alone_row, word_holds}
use Rattle.relation.proofs.Ones.{digit}

-- the lowest digit of a word, and the rest of it
parts : (b : Bool) (n : ℕ) → ((cond b 1 0 + 2 * n) / 2 ≡ n) × (eqb ((cond b 1 0 + 2 * n) % 2) 1 ≡ b)
parts true n = let r : (1 + 2 * n) % 2 ≡ 1 = omega arith in (omega arith, rw r)
parts false n = let r : (0 + 2 * n) % 2 ≡ 0 = omega arith in (omega arith, rw r)

pub has_from : (bits k : ℕ) (p : ℕ → Bool) (i : ℕ) → i < bits → has (word_from bits k p) i ≡ p (k + i)
unfolding word_from has
has_from zero k p i l = absurd (not-suc-le-zero l)
has_from (suc bits) k p zero l = rw div-one (parts (p k) (word_from bits (suc k) p)).1 ∙ ap p (sym (add-zero k))
has_from (suc bits) k p (suc i) l =
    let e : suc k + i ≡ k + suc i = omega arith in
    half (cond (p k) 1 0 + 2 * word_from bits (suc k) p) i
    ∙ ap (λ (n : ℕ). has n i) (parts (p k) (word_from bits (suc k) p)).0
    ∙ has_from bits (suc k) p i (omega arith) ∙ ap p e

-- a word is settled by its bits
pub word_back : (bits k : ℕ) (p : ℕ → Bool) (w : ℕ) → w < 2 ^ bits → ((i : ℕ) → i < bits → has w i ≡ p (k + i)) → w ≡ word_from bits k p
unfolding word_from has
word_back zero k p w l h = lt-one l
word_back (suc bits) k p w l h =
    let e : 2 ^ suc bits ≡ 2 ^ bits * 2 = pow-suc 2 bits in
    let rest : w / 2 ≡ word_from bits (suc k) p
    = word_back bits (suc k) p (w / 2) (omega arith) (λ i m. let f : k + suc i ≡ suc k + i = omega arith in sym (half w i) ∙ h (suc i) (omega arith) ∙ ap p f) in
    let first : eqb (w % 2) 1 ≡ p k = ap (λ (n : ℕ). eqb (n % 2) 1) (sym (div-one w)) ∙ h 0 (omega arith) ∙ ap p (add-zero k) in
    let low : w % 2 ≡ cond (p k) 1 0 = digit (w % 2) (mod-lt w (omega arith)) ∙ ap (λ (b : Bool). cond b 1 0) first in
    let split : w ≡ w % 2 + 2 * (w / 2) = omega arith in
    split ∙ ap₂ (λ (a b : ℕ). a + 2 * b) low rest

-- word i of the row, and none beyond it
row_word : (W k : ℕ) (p : ℕ → Bool) (i : ℕ) → i < W → get_or (row_from W k p) i 0 ≡ word_from word_bits (word_bits * i + k) p
unfolding row_from
row_word zero k p i l = absurd (not-suc-le-zero l)
row_word (suc W) k p zero l = let e : k ≡ word_bits * 0 + k = omega arith in ap (λ (n : ℕ). word_from word_bits n p) e
row_word (suc W) k p (suc i) l =
    let e : word_bits * i + (word_bits + k) ≡ word_bits * suc i + k = omega arith in
    row_word W (word_bits + k) p i (omega arith) ∙ ap (λ (n : ℕ). word_from word_bits n p) e

row_end : (W k : ℕ) (p : ℕ → Bool) (i : ℕ) → W ≤ i → get_or (row_from W k p) i 0 ≡ 0
unfolding row_from
row_end zero k p i l = refl
row_end (suc W) k p zero l = absurd (not-suc-le-zero l)
row_end (suc W) k p (suc i) l = row_end W (word_bits + k) p i (omega arith)

-- the events in the row
pub row_from_holds : (W : ℕ) (p : ℕ → Bool) (k : ℕ) → holds W (row_from W 0 p) 0 k ≡ (ltb k (word_bits * W) && p k)
row_from_holds W p k = alone_row W (row_from W 0 p) k ∙ go (dec_lt k (word_bits * W))
  where
    go : Dec (k < word_bits * W) → has (get_or (row_from W 0 p) (k / word_bits) 0) (k % word_bits) ≡ (ltb k (word_bits * W) && p k)
    go (yes l) =
        let e : word_bits * (k / word_bits) + 0 + k % word_bits ≡ k = omega arith in
        rw (row_word W 0 p (k / word_bits) (omega arith), lt-ltb k (word_bits * W) l)
        (has_from word_bits (word_bits * (k / word_bits) + 0) p (k % word_bits) (omega arith) ∙ ap p e)
    go (no n) = rw (row_end W 0 p (k / word_bits) (omega arith), le-ltb k (word_bits * W) (omega arith)) (has_zero (k % word_bits))

-- words of so many bits are those written from them
words_back : (W k : ℕ) (p : ℕ → Bool) (row : List ℕ) → length row ≡ W → ((j : ℕ) → get_or row j 0 < 2 ^ word_bits)
    → ((i b : ℕ) → i < W → b < word_bits → has (get_or row i 0) b ≡ p (word_bits * i + k + b)) → row ≡ row_from W k p
unfolding row_from
words_back zero k p [] e small h = refl
words_back zero k p (w ∷ row) e small h = absurd (omega arith)
words_back (suc W) k p [] e small h = absurd (omega arith)
words_back (suc W) k p (w ∷ row) e small h =
    ap₂ (λ (u : ℕ) (l : List ℕ). u ∷ l)
    (word_back word_bits k p w (small 0) (λ b m. let f : word_bits * 0 + k + b ≡ k + b = omega arith in h 0 b (omega arith) m ∙ ap p f))
    (words_back W (word_bits + k) p row (omega arith) (λ j. small (suc j))
    (λ i b l m. let f : word_bits * suc i + k + b ≡ word_bits * i + (word_bits + k) + b = omega arith in h (suc i) b (omega arith) m ∙ ap p f))

pub row_back : (W : ℕ) (p : ℕ → Bool) (row : List ℕ) → length row ≡ W → ((j : ℕ) → get_or row j 0 < 2 ^ word_bits)
    → ((k : ℕ) → k < word_bits * W → holds W row 0 k ≡ p k) → row ≡ row_from W 0 p
row_back W p row e small h =
    words_back W 0 p row e small (λ i b l m.
    let f : word_bits * i + b ≡ word_bits * i + 0 + b = omega arith in
    let at : holds W row 0 (word_bits * i + b) ≡ has (get_or row i 0) b = word_holds W row 0 i b m ∙ rw (zero-mul, zero-add) in
    sym at ∙ h (word_bits * i + b) (omega arith) ∙ ap p f)
