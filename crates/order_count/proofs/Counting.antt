-- The P rows are counted send by send, word by word. Assumes nothing.
use mathlib.Core.Path.{◌≡◌, refl, sym, ◌∙◌, ap, ap₂}
use mathlib.Core.Bool.{Bool, true, false, cond}
use mathlib.Core.List.{List, [], ◌∷◌}
use Prim.Native.Nat.{ℕ, zero, suc, ◌+◌, ◌-◌, ◌*◌, ◌/◌, ◌%◌, ◌^◌, ◌<◌, ◌≤◌}
use native.Mathlib.Nat.{mod-lt, one-mul}
use native.Mathlib.Numerals.{add-one}
use native.Mathlib.Omega.{arith}
use lib.Bits.{bit_and, and_mask}
use lib.Count.{ones, ones-le}
use lib.ListN.{length, get_or, length-append}
use lib.Pow.{pow_pos, shl_exact}
use Rattle.model.specs.Limits.{messages_most}
use Rattle.model.specs.Bounded.{how_many}
use Rattle.model.proofs.Bounded.{many_same, many_most, many_split}
use Rattle.relation.specs.Width.{width, word_bits}
use Rattle.relation.specs.Rows.{has, holds}
use Rattle.relation.proofs.Words.{has_mod, word_holds}
use Rattle.relation.proofs.Ones.{ones_bits}
use Rattle.order_count.specs.Orders.{orders_from, orders_to}

pub word_counted : (w r : ℕ) → w < 2 ^ word_bits → r ≡ ones w → r ≡ how_many word_bits (has w)
word_counted w r small e = e ∙ ones_bits word_bits w small

pub word_few : (w r : ℕ) → w < 2 ^ word_bits → r ≡ ones w → r ≤ word_bits
word_few w r small e = omega (arith, e, ones-le word_bits w small)

-- one shifted by fewer places than a word has is a power
pub power : (few : ℕ) → few < word_bits → 1 * 2 ^ few % 2 ^ word_bits ≡ 2 ^ few
power few h = shl_exact 1 few word_bits (omega arith) (omega arith) ∙ one-mul (2 ^ few)

pub power_least : (few : ℕ) → few < word_bits → 1 ≤ 1 * 2 ^ few % 2 ^ word_bits
power_least few h = rw (power few h) (pow_pos few)

pub first_counted : (w few r : ℕ) → few < word_bits → r ≡ ones (bit_and w (1 * 2 ^ few % 2 ^ word_bits - 1)) → r ≡ how_many few (has w)
first_counted w few r h e =
    e ∙ ap (λ (n : ℕ). ones (bit_and w (n - 1))) (power few h) ∙ ap ones (and_mask w few)
    ∙ ones_bits few (w % 2 ^ few) (mod-lt w (pow_pos few))
    ∙ many_same few (has (w % 2 ^ few)) (has w) (λ b l. has_mod w few b l)

pub first_few : (w few r : ℕ) → few < word_bits → r ≡ ones (bit_and w (1 * 2 ^ few % 2 ^ word_bits - 1)) → r ≤ few
first_few w few r h e = omega (arith, first_counted w few r h e, many_most few (has w))

-- The events directly before one send.
module _ (words : List ℕ) (count e : ℕ) where
  abbrev in_row : ℕ → Bool
  in_row = holds width words (2 * e + 1)

  -- the events of the words below i are counted
  pub record Counted (i found : ℕ) : Type 0 where
    pub exact : found ≡ how_many (word_bits * i) in_row
    pub most : i ≤ 2 * count / word_bits
    pub few : found ≤ word_bits * i

  pub counted_start : Counted 0 0
  unfolding how_many
  counted_start = record { exact = refl; most = omega arith; few = omega arith }

  -- the first few bits of word i behind those before it
  more : (i n found r : ℕ) → n ≤ word_bits → found ≡ how_many (word_bits * i) in_row → r ≡ how_many n (has (get_or words ((2 * e + 1) * width + i) 0))
      → found + r ≡ how_many (word_bits * i + n) in_row
  more i n found r h s t =
      ap₂ ◌+◌ s (t ∙ many_same n (has (get_or words ((2 * e + 1) * width + i) 0)) (λ b. in_row (word_bits * i + b))
      (λ b l. sym (word_holds width words (2 * e + 1) i b (omega arith))))
      ∙ sym (many_split (word_bits * i) n in_row)

  pub counted_more : (i found r : ℕ) → Counted i found → r ≡ how_many word_bits (has (get_or words ((2 * e + 1) * width + i) 0)) → i < 2 * count / word_bits
      → Counted (i + 1) (found + r)
  counted_more i found r c s h =
      let next : word_bits * i + word_bits ≡ word_bits * (i + 1) = omega arith in
      record {
        exact = more i word_bits found r (omega arith) c.exact s ∙ ap (λ (n : ℕ). how_many n in_row) next;
        most = omega arith;
        few = omega (arith, c.few, s, many_most word_bits (has (get_or words ((2 * e + 1) * width + i) 0)));
      }

  pub counted_whole : (i found : ℕ) → Counted i found → 2 * count / word_bits ≤ i → 2 * count % word_bits ≡ 0 → found ≡ how_many (2 * count) in_row
  counted_whole i found c h z =
      let all : word_bits * i ≡ 2 * count = omega (arith, c.most) in
      c.exact ∙ ap (λ (n : ℕ). how_many n in_row) all

  pub counted_last : (i found r : ℕ) → Counted i found → 2 * count / word_bits ≤ i
      → r ≡ how_many (2 * count % word_bits) (has (get_or words ((2 * e + 1) * width + 2 * count / word_bits) 0)) → found + r ≡ how_many (2 * count) in_row
  counted_last i found r c h s =
      let last : 2 * count / word_bits ≡ i = omega (arith, c.most) in
      let all : word_bits * i + 2 * count % word_bits ≡ 2 * count = omega arith in
      more i (2 * count % word_bits) found r (omega arith) c.exact
      (s ∙ ap (λ (k : ℕ). how_many (2 * count % word_bits) (has (get_or words ((2 * e + 1) * width + k) 0))) last)
      ∙ ap (λ (n : ℕ). how_many n in_row) all

-- the rows with one send more, by the events below x
rows_with : (words : List ℕ) (e x : ℕ) → length (orders_to words (suc e) x) ≡ length (orders_to words e x) + how_many x (holds width words (2 * e + 1))
unfolding orders_to orders_from how_many
rows_with words e zero = refl
rows_with words e (suc x) =
    let test = holds width words (2 * e + 1) x in
    omega (
      arith,
      rows_with words e x,
      length-append (orders_to words (suc e) x) (orders_from words x (suc e)),
      length-append (orders_from words x e) (cond test ((x, 2 * e) ∷ []) []),
      length-append (orders_to words e x) (orders_from words x e),
      if_length test (x, 2 * e),
    )
  where
    if_length : (b : Bool) (p : ℕ × ℕ) → length (cond b (p ∷ []) []) ≡ cond b 1 0
    if_length true p = refl
    if_length false p = refl

rows_none : (words : List ℕ) (x : ℕ) → length (orders_to words 0 x) ≡ 0
unfolding orders_to orders_from
rows_none words zero = refl
rows_none words (suc x) = length-append (orders_to words 0 x) [] ∙ omega (arith, rows_none words x)

module _ (words : List ℕ) (count : ℕ) where
  -- the rows with the sends below e are counted
  pub record AllCounted (e found : ℕ) : Type 0 where
    pub exact : found ≡ length (orders_to words e (2 * count))
    pub most : e ≤ count
    pub few : found ≤ 2 * messages_most * e

  pub all_start : AllCounted 0 0
  all_start = record { exact = sym (rows_none words (2 * count)); most = omega arith; few = omega arith }

  pub all_more : (e found r : ℕ) → AllCounted e found → r ≡ how_many (2 * count) (holds width words (2 * e + 1)) → e < count → count ≤ messages_most
      → AllCounted (e + 1) (found + r)
  all_more e found r c s h few =
      let next : found + r ≡ length (orders_to words (suc e) (2 * count)) = omega (arith, c.exact, rows_with words e (2 * count)) in
      record {
        exact = next ∙ ap (λ (k : ℕ). length (orders_to words k (2 * count))) (sym (add-one e));
        most = omega arith;
        few = omega (arith, s, many_most (2 * count) (holds width words (2 * e + 1)), c.few);
      }

  pub all_end : (e found : ℕ) → AllCounted e found → count ≤ e → found ≡ length (orders_to words count (2 * count))
  all_end e found c h = let i : e ≡ count = omega (arith, c.most) in c.exact ∙ ap (λ (k : ℕ). length (orders_to words k (2 * count))) i
