-- Texts put one behind the other, and a writer's promise from them. Assumes nothing.
use mathlib.Core.Path.{◌≡◌, refl, sym, ◌∙◌, ap, subst}
use mathlib.Core.Bool.{Bool, true, false, cond}
use mathlib.Core.List.{List, [], ◌∷◌, ◌++◌, append_assoc, append-nil}
use Prim.Native.Nat.{ℕ, suc, ◌+◌, ◌-◌, ◌/◌, ◌%◌, ◌<◌, ◌≤◌}
use native.Mathlib.Nat.{zero-add}
use native.Mathlib.Numerals.{add-one}
use native.Mathlib.Omega.{arith}
use lib.Dec.{ltb}
use lib.ListN.{length, get_or, set, take, drop, length-append, length-set, length-drop}
use lib.Seq.{sets, sets-eq, paste, paste-zero, paste-suc, take_at, drop_at, drop-drop, drop-length, take_all}
use borrow.Author.Tests.{lt-ltb, le-ltb}
use borrow.Rule.Slice.PartMut.{mid_of, put_mid, mid_len, Post-is}
use Rattle.model.specs.Text.{ascii, space, line_end}
use Rattle.model.specs.Cure.{Written, digit, digits_of, row_text, heading_text}
use Rattle.sheet_text.specs.Writing.{Puts, Writes, row_of, digits_most, row_bytes_most, heading_bytes}

pub put_one : (l : List ℕ) (at byte : ℕ) → Puts at (byte ∷ []) l (set l at byte) (at + 1)
put_one l at byte = record { bytes = refl; next = refl; same = length-set l at byte }

sets_append : (l : List ℕ) (i : ℕ) (a b : List ℕ) → sets l i (a ++ b) ≡ sets (sets l i a) (i + length a) b
sets_append l i [] b =
    let e : i ≡ i + 0 = omega arith in
    ap (λ (k : ℕ). sets l k b) e
sets_append l i (v ∷ a) b =
    let e : suc i + length a ≡ i + suc (length a) = omega arith in
    sets_append (set l i v) (suc i) a b ∙ ap (λ (k : ℕ). sets (sets (set l i v) (suc i) a) k b) e

-- one behind the other
pub puts_more : (at mid n : ℕ) (a b l k exit : List ℕ) → Puts at a l k mid → Puts mid b k exit n → Puts at (a ++ b) l exit n
puts_more at mid n a b l k exit p q =
    record {
      bytes = q.bytes ∙ ap (λ (j : List ℕ). sets j mid b) p.bytes ∙ ap (λ (i : ℕ). sets (sets l at a) i b) p.next ∙ sym (sets_append l at a b);
      next = q.next ∙ ap (λ (i : ℕ). i + length b) p.next ∙ simp length-append (omega arith);
      same = q.same ∙ p.same;
    }

-- the digits of a number, by how many they are, and their bytes
module _ (at n : ℕ) (l : List ℕ) where
  pub one_digit : (exit : List ℕ) (r a : ℕ) → n < 10 → a ≡ digit n → Puts at (a ∷ []) l exit r → Puts at (digits_of n) l exit r
  unfolding digits_of
  one_digit exit r a h e p = rw (lt-ltb n 10 h, ← e) p

  pub two_digits : (k exit : List ℕ) (mid r a b : ℕ) → 10 ≤ n → n < 100 → a ≡ digit (n / 10) → b ≡ digit (n % 10) → Puts at (a ∷ []) l k mid
      → Puts mid (b ∷ []) k exit r → Puts at (digits_of n) l exit r
  unfolding digits_of
  two_digits k exit mid r a b g h e f p q = rw (le-ltb n 10 g, lt-ltb n 100 h, ← e, ← f) (puts_more at mid r _ _ l k exit p q)

  pub three_digits : (k j exit : List ℕ) (mid last r a b c : ℕ) → 100 ≤ n → a ≡ digit (n / 100) → b ≡ digit (n / 10 % 10) → c ≡ digit (n % 10)
      → Puts at (a ∷ []) l k mid → Puts mid (b ∷ []) k j last → Puts last (c ∷ []) j exit r → Puts at (digits_of n) l exit r
  unfolding digits_of
  three_digits k j exit mid last r a b c g e f d p q s =
      let far : 10 ≤ n = omega arith in
      rw (le-ltb n 10 far, le-ltb n 100 g, ← e, ← f, ← d) (puts_more at last r _ _ l j exit (puts_more at mid last _ _ l k j p q) s)

-- what is put at the start is written
pub put_writes : (t l exit : List ℕ) (n : ℕ) → length t ≤ length l → Puts 0 t l exit n → Writes t l exit n
put_writes t l exit n room p =
    record {
      bytes = p.bytes ∙ sets-eq t l 0 (rw zero-add room) ∙ ap (λ (k : ℕ). t ++ drop k l) (zero-add (length t));
      long = p.next ∙ zero-add (length t);
      room = room;
    }

-- one text behind the other, the second at the start of what is left
pub writes_more : (a b l mid rest exit : List ℕ) (n m : ℕ) → Writes a l mid n → Writes b (drop n mid) rest m → exit ≡ take n mid ++ rest → Writes (a ++ b) l exit (n + m)
writes_more a b l mid rest exit n m p q e =
    let front : take n mid ≡ a = ap (take n) p.bytes ∙ take_at a (drop (length a) l) n (sym p.long) in
    let back : drop n mid ≡ drop (length a) l = ap (drop n) p.bytes ∙ drop_at a (drop (length a) l) n (sym p.long) in
    let both : length (a ++ b) ≡ length a + length b = length-append a b in
    let left : length (drop n mid) ≡ length (drop (length a) l) = ap length back in
    let tail : rest ≡ b ++ drop (length a + length b) l =
    q.bytes ∙ ap (λ (k : List ℕ). b ++ drop (length b) k) back ∙ ap (λ (k : List ℕ). b ++ k) (drop-drop (length b) (length a) l) in
    record {
      bytes =
          e ∙ ap (λ (k : List ℕ). k ++ rest) front ∙ ap (λ (k : List ℕ). a ++ k) tail ∙ sym (append_assoc a b (drop (length a + length b) l))
          ∙ ap (λ (k : ℕ). (a ++ b) ++ drop k l) (sym both);
      long = ap (λ (k : ℕ). k + m) p.long ∙ ap (λ (k : ℕ). length a + k) q.long ∙ sym both;
      room = omega (arith, both, left, q.room, p.room, length-drop (length a) l);
    }

pub writes_same : (t l exit : List ℕ) (n : ℕ) → Writes t l exit n → length exit ≡ length l
writes_same t l exit n w =
    ap length w.bytes ∙ length-append t (drop (length t) l) ∙ omega (arith, length-drop (length t) l, w.room)

-- the rest from a place on, lent to a writer, and the whole behind it
abbrev pub rest_from : ℕ → List ℕ → List ℕ
rest_from at l = mid_of at (length l - at) l

abbrev pub with_rest : ℕ → List ℕ → List ℕ → List ℕ
with_rest at l rest = put_mid at (length l - at) l rest

pub rest_long : (at : ℕ) (l : List ℕ) → length (rest_from at l) ≡ length l - at
rest_long at l = mid_len at (length l) l (omega arith)

rest_is : (at : ℕ) (l : List ℕ) → rest_from at l ≡ drop at l
rest_is at l = take_all (length l - at) (drop at l) (omega (arith, length-drop at l))

with_rest_is : (at : ℕ) (l rest : List ℕ) → at ≤ length l → with_rest at l rest ≡ take at l ++ rest
with_rest_is at l rest h =
    ap (λ (k : List ℕ). take at l ++ (rest ++ k)) (Post-is at (length l) l h ∙ drop-length l) ∙ ap (λ (k : List ℕ). take at l ++ k) (append-nil rest)

pub rest_written : (a b l now rest : List ℕ) (at m : ℕ) → Writes a l now at → Writes b (rest_from at now) rest m
    → Writes (a ++ b) l (with_rest at now rest) (at + m)
rest_written a b l now rest at m p q =
    let h : at ≤ length now = omega (arith, p.long, p.room, writes_same a l now at p) in
    writes_more a b l now rest (with_rest at now rest) at m p (subst (λ (k : List ℕ). Writes b k rest m) (rest_is at now) q) (with_rest_is at now rest h)

-- what is left behind a text
pub rest_room : (a l now : List ℕ) (at n : ℕ) → Writes a l now at → at + n ≤ length l → n ≤ length (rest_from at now)
rest_room a l now at n p h = omega (arith, rest_long at now, writes_same a l now at p)

-- a row has at most ten bytes
digits_few : (n : ℕ) → length (digits_of n) ≤ digits_most
unfolding digits_of
digits_few n = go (ltb n 10) (ltb n 100)
  where
    go : (a b : Bool)
        → length (cond a (digit n ∷ []) (cond b (digit (n / 10) ∷ digit (n % 10) ∷ []) (digit (n / 100) ∷ digit (n / 10 % 10) ∷ digit (n % 10) ∷ []))) ≤ digits_most
    go true b = omega arith
    go false true = omega arith
    go false false = omega arith

pub row_few : (r : Written) → length (row_text r) ≤ row_bytes_most
unfolding row_text
row_few r = simp length-append (omega (arith, digits_few r.one, digits_few r.two))

-- nothing written yet
pub writes_none : (l : List ℕ) → Writes [] l l 0
writes_none l = record { bytes = refl; long = refl; room = omega arith }

-- a row, byte by byte
pub row_writes : (letter one two : ℕ) (l k1 k2 k3 k4 k5 exit : List ℕ) (gap first between second end n : ℕ) → row_bytes_most ≤ length l
    → Puts 0 (letter ∷ []) l k1 gap → Puts gap (space ∷ []) k1 k2 first → Puts first (digits_of one) k2 k3 between → between ≤ first + digits_most
    → Puts between (space ∷ []) k3 k4 second → Puts second (digits_of two) k4 k5 end → end ≤ second + digits_most → Puts end (line_end ∷ []) k5 exit n
    → Writes (row_text (row_of letter one two)) l exit n
unfolding row_text
row_writes letter one two l k1 k2 k3 k4 k5 exit gap first between second end n room a b c few d e more f =
    let whole =
    puts_more 0 end n _ _ l k5 exit
    (puts_more 0 second end _ _ l k4 k5
    (puts_more 0 between second _ _ l k3 k4 (puts_more 0 first between _ _ l k2 k3 (puts_more 0 gap first _ _ l k1 k2 a b) c) d) e)
    f in
    let same : ((letter ∷ []) ++ (space ∷ []) ++ digits_of one ++ (space ∷ []) ++ digits_of two ++ (line_end ∷ []))
    ≡ (letter ∷ space ∷ digits_of one) ++ (space ∷ digits_of two ++ (line_end ∷ [])) = simp append_assoc in
    let put : Puts 0 ((letter ∷ space ∷ digits_of one) ++ (space ∷ digits_of two ++ (line_end ∷ []))) l exit n = subst (λ (t : List ℕ). Puts 0 t l exit n) same whole in
    let short : n ≤ row_bytes_most = omega (arith, a.next, b.next, d.next, f.next) in
    put_writes ((letter ∷ space ∷ digits_of one) ++ (space ∷ digits_of two ++ (line_end ∷ []))) l exit n (omega (arith, put.next)) put

-- The heading, copied byte by byte.
abbrev pub house : List ℕ
house = 107 ∷ 105 ∷ 110 ∷ 100 ∷ 32 ∷ 111 ∷ 110 ∷ 101 ∷ 32 ∷ 116 ∷ 119 ∷ 111 ∷ 10 ∷ []

pub record Copied (l : List ℕ) (i : ℕ) (now : List ℕ) : Type 0 where
  pub bytes : now ≡ paste l 0 house i
  pub most : i ≤ heading_bytes
  pub same : length now ≡ length l
  pub room : heading_bytes ≤ length l

pub copied_none : (l : List ℕ) → heading_bytes ≤ length l → Copied l 0 l
copied_none l h = record { bytes = paste-zero l 0 house; most = omega arith; same = refl; room = h }

pub copied_more : (l now : List ℕ) (i : ℕ) → Copied l i now → i < heading_bytes → Copied l (i + 1) (set now i (get_or house i 0))
copied_more l now i c h =
    let at : 0 + i ≡ i = zero-add i in
    let inside : 0 + i < length l = omega (arith, c.room) in
    record {
      bytes =
          ap (λ (k : List ℕ). set k i (get_or house i 0)) c.bytes
          ∙ ap (λ (j : ℕ). set (paste l 0 house i) j (get_or house i 0)) (sym at)
          ∙ paste-suc l 0 house i 0 inside h
          ∙ ap (paste l 0 house) (sym (add-one i));
      most = omega arith;
      same = length-set now i (get_or house i 0) ∙ c.same;
      room = c.room;
    }

pub copied_all : (l now : List ℕ) (i : ℕ) → Copied l i now → heading_bytes ≤ i → Writes heading_text l now heading_bytes
unfolding heading_text ascii
copied_all l now i c h =
    let all : i ≡ heading_bytes = omega (arith, c.most) in
    record { bytes = c.bytes ∙ ap (paste l 0 house) all; long = refl; room = c.room }
