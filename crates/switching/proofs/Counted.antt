-- The messages of a row, counted word by word. Assumes nothing.
use mathlib.Core.Path.{◌≡◌, refl, sym, ◌∙◌, ap, ap₂}
use mathlib.Core.Bool.{false, ◌&&◌, and-true, and-false}
use mathlib.Core.List.{List}
use Prim.Native.Nat.{ℕ, ◌+◌, ◌*◌, ◌/◌, ◌%◌, ◌^◌, ◌<◌, ◌≤◌}
use native.Mathlib.Nat.{lt_of_le_of_lt, le_trans, le_of_eq}
use native.Mathlib.Omega.{arith}
use borrow.Author.Tests.{eq-eqb, ne_eqb}
use lib.Bits.{bit_and, and_le_l}
use lib.Count.{ones, ones-le}
use lib.ListN.{get_or}
use Rattle.model.specs.Limits.{messages_most}
use Rattle.model.specs.Bounded.{how_many}
use Rattle.model.proofs.Bounded.{many_same, many_most, many_split, many_doubles}
use Rattle.relation.specs.Width.{width, word_bits}
use Rattle.relation.specs.Rows.{has}
use Rattle.relation.proofs.Words.{has_and, alone_row, even_bits, has_even_bits}
use Rattle.relation.proofs.Ones.{ones_bits}
use Rattle.run.specs.State.{in_row}
use Rattle.switching.specs.TwoOrMore.{half_word}

-- the messages of a word
pub word_counted : (w : ℕ) → w < 2 ^ word_bits → ones (bit_and w even_bits) ≡ how_many half_word (λ j. has w (2 * j))
word_counted w l =
    let even : (j : ℕ) → j < half_word → has (bit_and w even_bits) (2 * j) ≡ has w (2 * j)
    = λ j m. has_and w even_bits (2 * j) ∙ ap (λ b. has w (2 * j) && b) (has_even_bits (2 * j) (omega arith) ∙ eq-eqb (2 * j % 2) 0 (omega arith)) ∙ and-true (has w (2 * j)) in
    let odd : (j : ℕ) → j < half_word → has (bit_and w even_bits) (2 * j + 1) ≡ false
    = λ j m. has_and w even_bits (2 * j + 1) ∙ ap (λ b. has w (2 * j + 1) && b) (has_even_bits (2 * j + 1) (omega arith) ∙ ne_eqb ((2 * j + 1) % 2) 0 (λ z. omega (arith, z))) ∙ and-false (has w (2 * j + 1)) in
    ones_bits word_bits (bit_and w even_bits) (lt_of_le_of_lt (and_le_l w even_bits) l)
    ∙ many_doubles half_word (has (bit_and w even_bits)) odd ∙ many_same half_word _ _ even

-- and their count is small
pub ones_fit : (w : ℕ) → w < 2 ^ word_bits → ones (bit_and w even_bits) < 2 ^ word_bits
ones_fit w l = omega (arith, ones-le word_bits (bit_and w even_bits) (lt_of_le_of_lt (and_le_l w even_bits) l))

-- the count so far
pub record Counting (row : List ℕ) (count i : ℕ) : Type 0 where
  pub counted : count ≡ how_many (half_word * i) (λ m. in_row row (2 * m))
  pub most : i ≤ width
  pub few : count ≤ half_word * i

pub counting_starts : (row : List ℕ) → Counting row 0 0
unfolding how_many
counting_starts row = record { counted = refl; most = omega arith; few = omega arith }

-- bit j of word i is that of message halfWord i + j
in_word : (row : List ℕ) (i j : ℕ) → j < half_word → in_row row (2 * (half_word * i + j)) ≡ has (get_or row i 0) (2 * j)
in_word row i j m =
    let at : 2 * (half_word * i + j) / word_bits ≡ i = omega (arith, m) in
    let bit : 2 * (half_word * i + j) % word_bits ≡ 2 * j = omega (arith, m) in
    alone_row width row (2 * (half_word * i + j)) ∙ ap₂ (λ a b. has (get_or row a 0) b) at bit

pub counting_on : (row : List ℕ) (count i more : ℕ) → Counting row count i → i < width → more ≡ how_many half_word (λ j. has (get_or row i 0) (2 * j))
    → Counting row (count + more) (i + 1)
counting_on row count i more g m counted =
    let e : half_word * (i + 1) ≡ half_word * i + half_word = omega arith in
    let here : more ≡ how_many half_word (λ j. in_row row (2 * (half_word * i + j)))
    = counted ∙ many_same half_word _ _ (λ j k. sym (in_word row i j k)) in
    let all = ap₂ ◌+◌ g.counted here
    ∙ sym (many_split (half_word * i) half_word (λ m. in_row row (2 * m)))
    ∙ ap (λ n. how_many n (λ m. in_row row (2 * m))) (sym e) in
    record {
      counted = all;
      most = omega (arith, m);
      few = le_trans (le_of_eq all) (many_most (half_word * (i + 1)) (λ m. in_row row (2 * m)));
    }

pub word_most : (w more : ℕ) → more ≡ how_many half_word (λ j. has w (2 * j)) → more ≤ half_word
word_most w more counted = le_trans (le_of_eq counted) (many_most half_word (λ j. has w (2 * j)))

pub counting_ends : (row : List ℕ) (count i : ℕ) → Counting row count i → width ≤ i → count ≡ how_many messages_most (λ m. in_row row (2 * m))
counting_ends row count i g l = let e : half_word * i ≡ messages_most = omega (arith, g.most, l) in g.counted ∙ ap (λ n. how_many n (λ m. in_row row (2 * m))) e
