-- Reading gives back what was written: lines, fields, numbers and rows. A law of the model's text, for every row whose numbers a sheet
-- file may hold. Assumes nothing.
use Prim.Native.Nat.{ℕ, suc, ◌*◌, ◌≤◌}
use native.Mathlib.Omega.{arith}
use mathlib.Core.Path.{◌≡◌, refl, ◌∙◌, ap}
use mathlib.Core.Bool.{Bool, true, false, not, ◌&&◌}
use mathlib.Core.List.{List, [], ◌∷◌, ◌++◌, append_assoc}
use mathlib.Core.Option.{Option, none, some}
use lib.Dec.{eqb, leb}
use lib.ListN.{length, length-append}
use borrow.Author.Tests.{eqb-true, leb-true, not-true}
use Rattle.model.specs.Limits.{number_most}
use Rattle.model.specs.Bounded.{every}
use Rattle.model.specs.Text.{ascii, line_end, space, Line, ahead_of_line, lines_of, ahead_of_field, fields_of, digits_only, decimal, well_begun, number_up_to, number_of, Columns}
use Rattle.model.specs.Rows.{formed, from_fields, row_of}
use Rattle.model.specs.Cure.{Written, digits_of, row_text, rows_text, heading_text}
use Rattle.model.proofs.Bounded.{and_left, and_right, and_both, not_both, every_at}

-- no byte of the list is k
unfoldable pub without : ℕ → List ℕ → Bool
without k [] = true
without k (b ∷ bs) = not (eqb b k) && without k bs

without_append : (k : ℕ) (a b : List ℕ) → without k a ≡ true → without k b ≡ true → without k (a ++ b) ≡ true
unfolding without
without_append k [] b p q = q
without_append k (c ∷ a) b p q =
    and_both (not (eqb c k)) (without k (a ++ b)) (and_left (not (eqb c k)) (without k a) p)
    (without_append k a b (and_right (not (eqb c k)) (without k a) p) q)

-- a line up to its end
pub line_read : (bytes rest : List ℕ) → without line_end bytes ≡ true
    → lines_of (bytes ++ (line_end ∷ rest)) ≡ record { bytes = bytes; ended = true } ∷ lines_of rest
unfolding without lines_of ahead_of_line
line_read [] rest h = refl
line_read (b ∷ bytes) rest h =
    let p : eqb b line_end ≡ false = not-true (eqb b line_end) (and_left (not (eqb b line_end)) (without line_end bytes) h) in
    rw (p, line_read bytes rest (and_right (not (eqb b line_end)) (without line_end bytes) h))

-- a field up to the space behind it, and the last field
field_read : (f rest : List ℕ) → without space f ≡ true → fields_of (f ++ (space ∷ rest)) ≡ f ∷ fields_of rest
unfolding without fields_of ahead_of_field
field_read [] rest h = refl
field_read (b ∷ f) rest h =
    let p : eqb b space ≡ false = not-true (eqb b space) (and_left (not (eqb b space)) (without space f) h) in
    rw (p, field_read f rest (and_right (not (eqb b space)) (without space f) h))

field_last : (f : List ℕ) → without space f ≡ true → fields_of f ≡ f ∷ []
unfolding without fields_of ahead_of_field
field_last [] h = refl
field_last (b ∷ f) h =
    let p : eqb b space ≡ false = not-true (eqb b space) (and_left (not (eqb b space)) (without space f) h) in
    rw (p, field_last f (and_right (not (eqb b space)) (without space f) h))

-- the digits of every number that a sheet file may hold: computed
is_number : Option ℕ → ℕ → Bool
is_number none n = false
is_number (some k) n = eqb k n

is_number_holds : (o : Option ℕ) (n : ℕ) → is_number o n ≡ true → o ≡ some n
unfolding is_number
is_number_holds none n h = not_both false h refl
is_number_holds (some k) n h = ap some (eqb-true k n h)

good_digits : ℕ → Bool
good_digits n =
    is_number (number_of (digits_of n)) n && without space (digits_of n) && without line_end (digits_of n) && leb (length (digits_of n)) 3

all_good : every (suc number_most) good_digits ≡ true
unfolding every good_digits is_number number_up_to digits_of without digits_only decimal well_begun
all_good = refl

pub record Digits (n : ℕ) : Type 0 where
  pub number : number_of (digits_of n) ≡ some n
  pub no_space : without space (digits_of n) ≡ true
  pub no_line_end : without line_end (digits_of n) ≡ true
  pub few : length (digits_of n) ≤ 3

pub digits_good : (n : ℕ) → n ≤ number_most → Digits n
unfolding good_digits
digits_good n l =
    let g = every_at (suc number_most) good_digits all_good n (omega arith) in
    let a = is_number (number_of (digits_of n)) n in
    let b = without space (digits_of n) in
    let c = without line_end (digits_of n) in
    let d = leb (length (digits_of n)) 3 in
    let abc = and_left (a && b && c) d g in
    let ab = and_left (a && b) c abc in
    record {
      number = is_number_holds (number_of (digits_of n)) n (and_left a b ab);
      no_space = and_right a b ab;
      no_line_end = and_right (a && b) c abc;
      few = leb-true (length (digits_of n)) 3 (and_right (a && b && c) d g);
    }

-- a row that a sheet file may hold: a letter, and numbers of a sheet file
pub record Plain (r : Written) : Type 0 where
  pub no_space : eqb r.letter space ≡ false
  pub no_line_end : eqb r.letter line_end ≡ false
  pub one_most : r.one ≤ number_most
  pub two_most : r.two ≤ number_most

abbrev pub AllPlain : List Written → Type 0
AllPlain [] = Unit {0}
AllPlain (r ∷ rs) = Plain r × AllPlain rs

pub plain_append : (rs ks : List Written) → AllPlain rs → AllPlain ks → AllPlain (rs ++ ks)
plain_append [] ks p q = q
plain_append (r ∷ rs) ks p q = (p.0, plain_append rs ks p.1 q)

-- the line of a row
unfoldable pub line_bytes : Written → List ℕ
line_bytes r = (r.letter ∷ space ∷ digits_of r.one) ++ (space ∷ digits_of r.two)

abbrev pub line_in : Written → Line
line_in r = record { bytes = line_bytes r; ended = true }

unfoldable pub lines_in : List Written → List Line
lines_in [] = []
lines_in (r ∷ rs) = line_in r ∷ lines_in rs

pub lines_append : (rs ks : List Written) → lines_in (rs ++ ks) ≡ lines_in rs ++ lines_in ks
unfolding lines_in
lines_append [] ks = refl
lines_append (r ∷ rs) ks = ap (λ ls. line_in r ∷ ls) (lines_append rs ks)

row_ended : (r : Written) (rest : List ℕ) → row_text r ++ rest ≡ line_bytes r ++ (line_end ∷ rest)
unfolding row_text line_bytes
row_ended r rest = simp append_assoc

line_plain : (r : Written) → Plain r → without line_end (line_bytes r) ≡ true
unfolding line_bytes without
line_plain r p =
    let a = digits_good r.one p.one_most in
    let b = digits_good r.two p.two_most in
    rw p.no_line_end (without_append line_end (digits_of r.one) (space ∷ digits_of r.two) a.no_line_end b.no_line_end)

-- the rows written, as lines
pub rows_lines : (rs : List Written) → AllPlain rs → lines_of (rows_text rs) ≡ lines_in rs
unfolding rows_text lines_in lines_of
rows_lines [] p = refl
rows_lines (r ∷ rs) p =
    ap lines_of (row_ended r (rows_text rs)) ∙ line_read (line_bytes r) (rows_text rs) (line_plain r p.0)
    ∙ ap (λ ls. line_in r ∷ ls) (rows_lines rs p.1)

-- the house heading: kind, then one, then two
abbrev pub house : Columns
house = record { kind = 0; one = 1; two = 2 }

-- a row written is read as the row of its letter and numbers
pub row_read : (r : Written) → Plain r → row_of false house (line_in r) ≡ formed false r.letter r.one r.two
unfolding row_of line_bytes from_fields without
row_read r p =
    let a = digits_good r.one p.one_most in
    let b = digits_good r.two p.two_most in
    let e : fields_of ((r.letter ∷ space ∷ digits_of r.one) ++ (space ∷ digits_of r.two)) ≡ (r.letter ∷ []) ∷ digits_of r.one ∷ digits_of r.two ∷ [] =
    field_read (r.letter ∷ []) (digits_of r.one ++ (space ∷ digits_of r.two)) (rw p.no_space)
    ∙ ap (λ fs. (r.letter ∷ []) ∷ fs) (field_read (digits_of r.one) (digits_of r.two) a.no_space ∙ ap (λ fs. digits_of r.one ∷ fs) (field_last (digits_of r.two) b.no_space)) in
    rw (e, a.number, b.number)

-- the heading is a line of its own, and names the columns so
pub heading_line : (rest : List ℕ) → lines_of (heading_text ++ rest) ≡ record { bytes = ascii "kind one two"; ended = true } ∷ lines_of rest
unfolding heading_text ascii without
heading_line rest = ap lines_of (append_assoc (ascii "kind one two") (line_end ∷ []) rest) ∙ line_read (ascii "kind one two") rest refl

-- a row has at most ten bytes
row_short : (r : Written) → Plain r → length (row_text r) ≤ 10
unfolding row_text
row_short r p =
    let a = digits_good r.one p.one_most in
    let b = digits_good r.two p.two_most in
    simp length-append (omega arith)

pub rows_short : (rs : List Written) → AllPlain rs → length (rows_text rs) ≤ 10 * length rs
unfolding rows_text
rows_short [] p = omega arith
rows_short (r ∷ rs) p = simp length-append (omega (arith, row_short r p.0, rows_short rs p.1))
