-- From the reader's data to the model: three columns are rows, a table says where each sheet starts, a verdict is an outcome.
-- Assumes nothing.
use Rattle.std.specs.Prelude.{ℕ, zero, suc, ◌≤◌, ◌≡◌, Bool, cond, List, [], ◌∷◌, length, get_or, Result, Ok, Err}
use Rattle.model.specs.Limits.{sheets, rows_most}
use Rattle.model.specs.Bounded.{among}
use Rattle.model.specs.Refusal.{Out, ok}
use Rattle.model.specs.Rows.{Row}
use Rattle.model.specs.Place.{opens, read_with}
use Rattle.model.specs.Expansion.{start_of}
use Rattle.model.specs.Closure.{cells}
unfoldable pub use Rattle.place.specs.Letters.{row_from}
use Rattle.outcome.specs.declared.Refusal.{Refusal}
use Rattle.outcome.specs.Refusals.{refused_in}

-- so many rows of the three columns, from row i on
unfoldable pub rows_at : List ℕ → List ℕ → List ℕ → ℕ → ℕ → List Row
rows_at kind one two i zero = []
rows_at kind one two i (suc n) = row_from (get_or kind i 0) (get_or one i 0) (get_or two i 0) ∷ rows_at kind one two (suc i) n

abbrev pub rows_of : List ℕ → List ℕ → List ℕ → ℕ → List Row
rows_of kind one two count = rows_at kind one two 0 count

-- the number of the row behind `S n`; 0 where no row opens sheet n
unfoldable pub start_in : List Row → ℕ → ℕ
start_in rs n = cond (among n (opens rs)) (start_of n rs) 0

abbrev pub starts_of : List Row → List ℕ
starts_of rs = cells sheets (start_in rs)

-- a verdict, with the columns that it speaks of
abbrev pub outcome_of : Result ℕ Refusal → List ℕ → List ℕ → List ℕ → Out (List Row)
outcome_of (Ok count) kind one two = ok (rows_of kind one two count)
outcome_of (Err r) kind one two = refused_in r

-- the columns and the table of starts together, and each with its length
pub record Store : Type 0 where
  pub kind : List ℕ
  pub one : List ℕ
  pub two : List ℕ
  pub start : List ℕ

abbrev pub store_of : List ℕ → List ℕ → List ℕ → List ℕ → Store
store_of kind one two start = record { kind = kind; one = one; two = two; start = start }

pub record Sized (s : Store) : Type 0 where
  pub kind : length s.kind ≡ rows_most
  pub one : length s.one ≡ rows_most
  pub two : length s.two ≡ rows_most
  pub start : length s.start ≡ sheets

-- where there are rows, there are at most 512, and all has kept its length
abbrev pub KeptOn : Store → Result ℕ Refusal → Type 0
KeptOn s (Ok count) = (count ≤ rows_most) × Sized s
KeptOn s (Err r) = Unit {0}

-- The verdict is the paper's, with or without A rows let through, and where there are rows the table has the start of each sheet.
pub record ReadAs (choices : Bool) (text kind one two start : List ℕ) (v : Result ℕ Refusal) : Type 0 where
  pub outcome : outcome_of v kind one two ≡ read_with choices text
  pub starts : (rs : List Row) → read_with choices text ≡ ok rs → start ≡ starts_of rs
  pub kept : KeptOn (store_of kind one two start) v
