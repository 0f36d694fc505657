-- What `cleared` means: the first words are zero, so the rows there hold nothing, and the rest is as it was.
-- Assumes nothing.
use mathlib.Core.Path.{◌≡◌, ap, sym, ◌∙◌}
use mathlib.Core.Bool.{◌&&◌}
use mathlib.Core.List.{List, ◌++◌}
use Prim.Native.Nat.{ℕ, suc, ◌+◌, ◌-◌, ◌*◌, ◌<◌, ◌≤◌}
use native.Mathlib.Nat.{mul-le-mul_right}
use native.Mathlib.Decide.{dec_le}
use native.Mathlib.Omega.{arith}
use lib.Dec.{leb}
use lib.ListN.{length, get_or, drop, replicate, length-replicate, get_or-replicate, get_or-append}
use lib.Seq.{get_or-append-add, get_or-drop, drop-append-add, drop-drop}
use borrow.Author.Tests.{le-leb, lt-leb}
use Rattle.relation.specs.Width.{word_bits}
use Rattle.relation.specs.Rows.{holds, cleared, word_of, bit_of}
use Rattle.relation.proofs.Bits.{has_zero}
use Rattle.relation.proofs.Place.{column_lt}

cleared_at : (n : ℕ) (l : List ℕ) (k : ℕ) → k < n → get_or (cleared n l) k 0 ≡ 0
unfolding cleared
cleared_at n l k h =
    get_or-append (replicate n 0) (drop n l) 0 k (rw (length-replicate n) h) ∙ get_or-replicate n k 0 0 h

cleared_beyond : (n : ℕ) (l : List ℕ) (k : ℕ) → n ≤ k → get_or (cleared n l) k 0 ≡ get_or l k 0
unfolding cleared
cleared_beyond n l k h =
    ap (λ (i : ℕ). get_or (replicate n 0 ++ drop n l) i 0) at ∙ get_or-append-add (replicate n 0) (drop n l) (k - n) 0 ∙ get_or-drop n l (k - n) 0
    ∙ ap (λ (i : ℕ). get_or l i 0) (omega arith)
  where
    at : k ≡ length {A = ℕ} (replicate n 0) + (k - n)
    at = rw (length-replicate n) (omega arith)

pub holds_cleared : (W : ℕ) (l : List ℕ) (rows y x : ℕ) → x < word_bits * W
    → holds W (cleared (rows * W) l) y x ≡ (leb rows y && holds W l y x)
unfolding holds
holds_cleared W l rows y x hx = go (dec_le rows y)
  where
    go : Dec (rows ≤ y) → holds W (cleared (rows * W) l) y x ≡ (leb rows y && holds W l y x)
    go (yes h) =
        rw (cleared_beyond (rows * W) l (word_of W y x) (omega (arith, mul-le-mul_right W h)), le-leb rows y h)
    go (no n) =
        let h : suc y ≤ rows = omega arith in
        rw (cleared_at (rows * W) l (word_of W y x) (omega (arith, column_lt W x hx, mul-le-mul_right W h)), lt-leb rows y h)
        (has_zero (bit_of x))

-- the first n words were changed and the rest not: with the first k zero, k at least n, that is forgotten
pub cleared_behind : (k : ℕ) (used l : List ℕ) (n : ℕ) → length used ≡ n → n ≤ k → cleared k (used ++ drop n l) ≡ cleared k l
unfolding cleared
cleared_behind k used l n e h =
    let rest = k - n in
    let at : length used + rest ≡ k = omega arith in
    let back : n + rest ≡ k = omega arith in
    let same : drop k (used ++ drop n l) ≡ drop k l =
    ap (λ j. drop j (used ++ drop n l)) (sym at) ∙ drop-append-add used (drop n l) rest ∙ drop-drop rest n l ∙ ap (λ j. drop j l) back in
    ap (λ t. replicate k 0 ++ t) same

-- So many words were cleared. That they are k is asked apart, so that another number is refused at that equation.
pub cleared_all : (k m : ℕ) (l exit : List ℕ) → exit ≡ cleared m l → m ≡ k → exit ≡ cleared k l
cleared_all k m l exit s all = s ∙ ap (λ i. cleared i l) all
