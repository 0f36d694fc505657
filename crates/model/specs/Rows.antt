-- "The sheet file": the five forms of a row, and the A row of request (c). Assumes nothing.
use Rattle.std.specs.Prelude.{ℕ, Bool, cond, ◌&&◌, List, [], ◌∷◌, eqb, length, get_or}
use Prim.Native.Char.{code}
use Rattle.std.proofs.Math.Option.{Option, none, some}
use Rattle.model.specs.Text.{Line, Columns, fields_of, number_of}

-- `S n 0`, `M a b`, `P x y`, `B 0 0`, `C n 0`; and `A m n`, a choice between two subprograms
pub data Row : Type 0 where
  sheet : ℕ → Row
  message : ℕ → ℕ → Row
  order : ℕ → ℕ → Row
  block : Row
  call : ℕ → Row
  choice : ℕ → ℕ → Row

-- a row of the given kind and numbers; an unused field is 0. `A` is a letter where choices are let through, and nowhere else
unfoldable pub formed : Bool → ℕ → ℕ → ℕ → Option Row
formed choices kind one two =
    cond (eqb kind (code "S") && eqb two 0) (some (sheet one))
    (cond (eqb kind (code "M")) (some (message one two))
    (cond (eqb kind (code "P")) (some (order one two))
    (cond (eqb kind (code "B") && eqb one 0 && eqb two 0) (some block)
    (cond (eqb kind (code "C") && eqb two 0) (some (call one))
    (cond (choices && eqb kind (code "A")) (some (choice one two)) none)))))

-- kind is one letter, the other two are numbers
unfoldable pub from_fields : Bool → List ℕ → Option ℕ → Option ℕ → Option Row
from_fields choices [] one two = none
from_fields choices (k ∷ []) none two = none
from_fields choices (k ∷ []) (some a) none = none
from_fields choices (k ∷ []) (some a) (some b) = formed choices k a b
from_fields choices (k ∷ l ∷ ls) one two = none

-- a row: three fields in the heading's order, one space between, and its line end; nothing else is one (refusal 5)
unfoldable pub row_of : Bool → Columns → Line → Option Row
row_of choices c l =
    let fs = fields_of l.bytes in
    cond (l.ended && eqb (length fs) 3)
    (from_fields choices (get_or fs c.kind []) (number_of (get_or fs c.one [])) (number_of (get_or fs c.two []))) none
