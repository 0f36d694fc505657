-- Calls of sheets that have no start in the table, by the columns. Assumes nothing.
use Rattle.std.specs.Prelude.{ℕ, zero, suc, Bool, not, cond, ◌&&◌, ◌||◌, List, eqb, get_or, Result, Ok, Err}
use Prim.Native.Char.{code}
use Rattle.std.proofs.Math.Option.{Option, none, some}
use Rattle.model.specs.Place.{line_of}
use Rattle.place.specs.Stand.{is_open}
use Rattle.outcome.specs.declared.Reason.TheVariants.{Absent}
use Rattle.outcome.specs.declared.Refusal.{Refusal}

-- a row of the given kind and numbers calls a sheet that has no start; an A row names two calls
unfoldable pub calls_absent : ℕ → ℕ → ℕ → List ℕ → Bool
calls_absent kind m n starts =
    (eqb kind (code "C") && not (is_open starts m)) || (eqb kind (code "A") && not (is_open starts m && is_open starts n))

-- the line of the first such row of so many, from row i on
unfoldable pub absent_in : List ℕ → List ℕ → List ℕ → List ℕ → ℕ → ℕ → Option ℕ
absent_in kind one two starts i zero = none
absent_in kind one two starts i (suc n) =
    cond (calls_absent (get_or kind i 0) (get_or one i 0) (get_or two i 0) starts) (some (line_of i)) (absent_in kind one two starts (suc i) n)

unfoldable pub absent_at : Option ℕ → Result (Unit {0}) Refusal
absent_at none = Ok tt
absent_at (some line) = Err (record { reason = Absent; line = line })

-- sheet 0 has a start, and so has every sheet that so many rows call
unfoldable pub presence_in : List ℕ → List ℕ → List ℕ → List ℕ → ℕ → Result (Unit {0}) Refusal
presence_in kind one two starts count =
    cond (is_open starts 0) (absent_at (absent_in kind one two starts 0 count)) (Err (record { reason = Absent; line = 0 }))
