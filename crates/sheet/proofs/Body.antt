-- The rows behind the heading, complete: sheet 0 is there, and so is every sheet that is called. Assumes nothing.
use Prim.Native.Nat.{ℕ, zero, suc, ◌*◌, ◌≤◌}
use Prim.Native.Char.{code}
use native.Mathlib.Omega.{arith}
use mathlib.Core.Path.{◌≡◌, refl, sym, ◌∙◌, ap, subst}
use mathlib.Core.Bool.{Bool, true, false, not, cond, ◌&&◌, ◌||◌}
use mathlib.Core.List.{List, ◌∷◌}
use mathlib.Core.Option.{Option, none, some}
use borrow.Author.Tests.{eqb-true}
use lib.Dec.{eqb}
use lib.ListN.{length, get_or, drop}
use Rattle.std.specs.Prelude.{Result, Ok, Err}
use Rattle.outcome.specs.declared.Reason.TheVariants.{Absent}
use Rattle.outcome.specs.declared.Refusal.{Refusal}
use Rattle.outcome.specs.Refusals.{refused_in}
use Rattle.model.specs.Limits.{rows_most, messages_most}
use Rattle.model.specs.Bounded.{among}
use Rattle.model.specs.Refusal.{Out, ok, refusal, and_then, absent_refusal}
use Rattle.model.specs.Text.{Line, Columns, lines_of}
use Rattle.model.specs.Rows.{Row}
use Rattle.model.specs.Place.{outside, line_of, rows_from, opens, absent_call, complete}
use Rattle.relation.specs.Width.{width}
use Rattle.place.specs.Stand.{is_open}
use Rattle.presence.specs.AbsentCalls.{calls_absent, absent_in, absent_at, presence_in}
use Rattle.sheet.specs.Bridge.{row_from, rows_at, rows_of, outcome_of, starts_of, store_of, Sized, KeptOn}
use Rattle.sheet.specs.Store.{BodyAs}
use Rattle.sheet.proofs.Reading.{read_from, fresh}
use Rattle.sheet.proofs.Simulation.{rows_refused_holds, rows_read, starts_same, open_same}

-- the verdict on so many rows, by the sheets that are there
abbrev pub verdict_on : Result (Unit {0}) Refusal → ℕ → Result ℕ Refusal
verdict_on (Ok u) count = Ok count
verdict_on (Err r) count = Err r

-- Calls by the columns, and by the rows: a sheet has a start exactly when it is present.
module _ (starts present : List ℕ) (agree : (n : ℕ) → is_open starts n ≡ among n present) where
  absent_row : (k a b i : ℕ) (rs : List Row)
      → absent_call present i (row_from k a b ∷ rs) ≡ cond (calls_absent k a b starts) (some (line_of i)) (absent_call present (suc i) rs)
  unfolding absent_call row_from calls_absent
  absent_row k a b i rs = go (eqb k (code "S")) (eqb k (code "M")) (eqb k (code "P")) (eqb k (code "C")) (eqb k (code "A")) refl refl refl refl refl
    where
      called : (t : Bool) → cond t (absent_call present (suc i) rs) (some (line_of i)) ≡ cond (not t || false) (some (line_of i)) (absent_call present (suc i) rs)
      called true = refl
      called false = refl

      chosen : (t : Bool) → cond t (absent_call present (suc i) rs) (some (line_of i)) ≡ cond (not t) (some (line_of i)) (absent_call present (suc i) rs)
      chosen true = refl
      chosen false = refl

      go : (s m p c d : Bool) → eqb k (code "S") ≡ s → eqb k (code "M") ≡ m → eqb k (code "P") ≡ p → eqb k (code "C") ≡ c → eqb k (code "A") ≡ d
          → absent_call present i (row_from k a b ∷ rs) ≡ cond (calls_absent k a b starts) (some (line_of i)) (absent_call present (suc i) rs)
      go true m p c d e f g h o = rw (eqb-true k (code "S") e)
      go false true p c d e f g h o = rw (eqb-true k (code "M") f)
      go false false true c d e f g h o = rw (eqb-true k (code "P") g)
      go false false false true d e f g h o = rw (eqb-true k (code "C") h, agree a) (called (among a present))
      go false false false false true e f g h o = rw (eqb-true k (code "A") o, agree a, agree b) (chosen (among a present && among b present))
      go false false false false false e f g h o = rw (e, f, g, h, o)

  absent_in_holds : (kind one two : List ℕ) (n i : ℕ) → absent_in kind one two starts i n ≡ absent_call present i (rows_at kind one two i n)
  unfolding absent_in absent_call rows_at
  absent_in_holds kind one two zero i = refl
  absent_in_holds kind one two (suc n) i =
      rw (absent_in_holds kind one two n (suc i)) (sym (absent_row (get_or kind i 0) (get_or one i 0) (get_or two i 0) i (rows_at kind one two (suc i) n)))

-- the verdict on the columns is that on their rows
complete_in : (kind one two starts : List ℕ) (count : ℕ) → ((n : ℕ) → is_open starts n ≡ among n (opens (rows_of kind one two count)))
    → outcome_of (verdict_on (presence_in kind one two starts count) count) kind one two ≡ complete (rows_of kind one two count)
unfolding presence_in absent_at complete
complete_in kind one two starts count agree =
    rw (absent_in_holds starts (opens (rows_of kind one two count)) agree kind one two count 0, agree 0)
    (go (among 0 (opens (rows_of kind one two count))) (absent_call (opens (rows_of kind one two count)) 0 (rows_of kind one two count)))
  where
    go : (t : Bool) (o : Option ℕ)
        → outcome_of (verdict_on (cond t (absent_at o) (Err (record { reason = Absent; line = 0 }))) count) kind one two
        ≡ cond t (elim o [ none ↦ ok (rows_of kind one two count) | some line ↦ refusal absent_refusal line ]) (refusal absent_refusal 0)
    go true none = refl
    go true (some line) = refl
    go false o = refl

complete_kept : (kind one two start : List ℕ) (count : ℕ) → (count ≤ rows_most) × Sized (store_of kind one two start)
    → KeptOn (store_of kind one two start) (verdict_on (presence_in kind one two start count) count)
unfolding presence_in absent_at
complete_kept kind one two start count h = go (is_open start 0) (absent_in kind one two start 0 count)
  where
    go : (t : Bool) (o : Option ℕ) → KeptOn (store_of kind one two start) (verdict_on (cond t (absent_at o) (Err (record { reason = Absent; line = 0 }))) count)
    go true none = h
    go true (some line) = tt
    go false o = tt

complete_rows : (rs qs : List Row) → complete rs ≡ ok qs → rs ≡ qs
unfolding complete
complete_rows rs qs = go (among 0 (opens rs)) (absent_call (opens rs) 0 rs)
  where
    go : (t : Bool) (o : Option ℕ)
        → ◌≡◌ {A = Out (List Row)} (cond t (elim o [ none ↦ ok rs | some line ↦ refusal absent_refusal line ]) (refusal absent_refusal 0)) (ok qs)
        → rs ≡ qs
    go true none h = cc
    go true (some line) h = cc
    go false o h = cc

pub no_rows : {C : Type 0} (o : Out (List Row)) (number line : ℕ) (rs : List Row) → o ≡ refusal number line → o ≡ ok rs → C
no_rows o number line rs e f = let z : ◌≡◌ {A = ℕ} 0 1 = cc in absurd (omega arith)

-- the rows refused, and the rows read and judged as a whole
module _ (choices : Bool) (c : Columns) (text : List ℕ) (first : ℕ) (kind one two start words : List ℕ) (long : length words ≡ 2 * messages_most * width) where
  abbrev lines : List Line
  lines = lines_of (drop first text)

  pub body_refused : (r : Refusal) → read_from choices c 0 (fresh words) lines ≡ refused_in r → BodyAs choices c text first (store_of kind one two start) (Err r)
  unfolding and_then
  body_refused r e =
      let o : and_then (rows_from choices c 0 outside lines) complete ≡ refused_in r = rw (rows_refused_holds choices c lines words long _ r.line e) in
      record { outcome = sym o; starts = λ rs h. no_rows _ _ r.line rs o h; kept = tt }

  pub body_complete : (count : ℕ) (r : Result ℕ Refusal) → read_from choices c 0 (fresh words) lines ≡ ok (record { rows = rows_of kind one two count; starts = start })
      → count ≤ rows_most → Sized (store_of kind one two start) → r ≡ verdict_on (presence_in kind one two start count) count → BodyAs choices c text first (store_of kind one two start) r
  unfolding and_then
  body_complete count r e few sized h =
      let o : and_then (rows_from choices c 0 outside lines) complete ≡ complete (rows_of kind one two count) = rw (rows_read choices c lines words long _ e) in
      record {
        outcome = ap (λ (x : Result ℕ Refusal). outcome_of x kind one two) h ∙ complete_in kind one two start count (open_same choices c lines words long _ e) ∙ sym o;
        starts = λ rs g. starts_same choices c lines words long _ e ∙ ap starts_of (complete_rows (rows_of kind one two count) rs (sym o ∙ g));
        kept = subst (λ (x : Result ℕ Refusal). KeptOn (store_of kind one two start) x) (sym h) (complete_kept kind one two start count (few, sized));
      }
