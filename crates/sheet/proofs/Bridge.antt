-- What later code uses of the bridge: the columns row by row, and the table sheet by sheet. Assumes nothing.
use Prim.Native.Nat.{ℕ, zero, suc, ◌+◌, ◌-◌, ◌≤◌, ◌<◌}
use native.Mathlib.Nat.{add-zero, sub-zero, suc-sub-suc}
use native.Mathlib.Omega.{arith}
use mathlib.Core.Path.{◌≡◌, refl, sym, ◌∙◌, ap, subst}
use mathlib.Core.Bool.{Bool}
use mathlib.Core.List.{List}
use lib.ListN.{length, get_or, drop}
use Rattle.std.specs.Prelude.{Result, Ok, Err}
use Rattle.outcome.specs.declared.Refusal.{Refusal}
use Rattle.outcome.specs.Refusals.{refused_in}
use Rattle.model.specs.Limits.{sheets, rows_most}
use Rattle.model.specs.Refusal.{ok}
use Rattle.model.specs.Rows.{Row}
use Rattle.model.specs.Place.{read_with}
use Rattle.model.proofs.Closure.{cells_at}
pub use Rattle.place.proofs.Letters.{row_sheet, row_message, row_order, row_call, row_choice, row_block}
use Rattle.sheet.specs.Bridge.{rows_at, rows_of, start_in, starts_of, outcome_of, store_of, Sized, KeptOn, ReadAs}

pub rows_length : (kind one two : List ℕ) (i n : ℕ) → length (rows_at kind one two i n) ≡ n
unfolding rows_at
rows_length kind one two i zero = refl
rows_length kind one two i (suc n) = ap suc (rows_length kind one two (suc i) n)

-- the rows from a later one on
pub rows_drop : (kind one two : List ℕ) (j i n : ℕ) → drop j (rows_at kind one two i n) ≡ rows_at kind one two (i + j) (n - j)
unfolding rows_at
rows_drop kind one two zero i n = rw (add-zero i, sub-zero n)
rows_drop kind one two (suc j) i zero = let e : 0 ≡ 0 - suc j = omega arith in ap (rows_at kind one two (i + suc j)) e
rows_drop kind one two (suc j) i (suc n) =
    let e : suc i + j ≡ i + suc j = omega arith in
    rows_drop kind one two j (suc i) n ∙ rw (e, suc-sub-suc n j)

-- the table at a sheet
pub start_at : (rs : List Row) (n : ℕ) → n < sheets → get_or (starts_of rs) n 0 ≡ start_in rs n
start_at rs n h = cells_at sheets (start_in rs) n 0 h

-- a reading, by its verdict
module _ (choices : Bool) (text kind one two start : List ℕ) (v : Result ℕ Refusal) (p : ReadAs choices text kind one two start v) where
  pub refused_is : (r : Refusal) → v ≡ Err r → read_with choices text ≡ refused_in r
  refused_is r e = sym p.outcome ∙ ap (λ (x : Result ℕ Refusal). outcome_of x kind one two) e

  module _ (count : ℕ) (e : v ≡ Ok count) where
    pub rows_are : read_with choices text ≡ ok (rows_of kind one two count)
    rows_are = sym p.outcome ∙ ap (λ (x : Result ℕ Refusal). outcome_of x kind one two) e

    pub starts_are : start ≡ starts_of (rows_of kind one two count)
    starts_are = p.starts (rows_of kind one two count) rows_are

    kept_all : (count ≤ rows_most) × Sized (store_of kind one two start)
    kept_all =
        let q : KeptOn (store_of kind one two start) (Ok count) = subst (λ (x : Result ℕ Refusal). KeptOn (store_of kind one two start) x) e p.kept in
        q

    pub count_most : count ≤ rows_most
    count_most = kept_all.0

    -- the lengths, as a caller needs them that lends a column as a slice
    pub kind_long_holds : rows_most ≡ length kind
    kind_long_holds = sym kept_all.1.kind

    pub one_long_holds : rows_most ≡ length one
    one_long_holds = sym kept_all.1.one

    pub two_long_holds : rows_most ≡ length two
    two_long_holds = sym kept_all.1.two

    pub start_long : sheets ≡ length start
    start_long = sym kept_all.1.start
