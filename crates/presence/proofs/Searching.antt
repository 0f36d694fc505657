-- The search for a call of a sheet that is not there. Assumes nothing.
use Prim.Native.Nat.{ℕ, suc, ◌+◌, ◌-◌, ◌≤◌, ◌<◌}
use Prim.Native.Char.{code}
use native.Mathlib.Nat.{sub-zero}
use native.Mathlib.Numerals.{add-one}
use native.Mathlib.Omega.{arith}
use mathlib.Core.Path.{◌≡◌, refl, sym, ◌∙◌}
use mathlib.Core.Bool.{Bool, true, false, not, cond, ◌||◌}
use mathlib.Core.List.{List}
use mathlib.Core.Option.{none, some}
use borrow.Author.Tests.{ne_eqb}
use lib.ListN.{get_or}
use Rattle.std.specs.Prelude.{Ok, Err}
use Rattle.model.specs.Place.{line_of}
use Rattle.place.specs.Stand.{is_open}
use Rattle.presence.specs.AbsentCalls.{calls_absent, absent_in, absent_at, presence_in}
use Rattle.outcome.specs.declared.Reason.TheVariants.{Absent}

-- calls of sheets that are not there
pub absent_call : (k m n : ℕ) (starts : List ℕ) (r : Bool) → r ≡ is_open starts m → k ≡ code "C" → not r ≡ calls_absent k m n starts
unfolding calls_absent
absent_call k m n starts r p e = rw (e, p) (go (is_open starts m))
  where
    go : (b : Bool) → not b ≡ (not b || false)
    go true = refl
    go false = refl

pub absent_first : (k m n : ℕ) (starts : List ℕ) (r : Bool) → r ≡ is_open starts m → k ≡ code "A" → r ≡ false → not r ≡ calls_absent k m n starts
unfolding calls_absent
absent_first k m n starts r p e h = rw (e, ← p, h)

pub absent_second : (k m n : ℕ) (starts : List ℕ) (r q : Bool) → r ≡ is_open starts m → k ≡ code "A" → r ≡ true → q ≡ is_open starts n
    → not q ≡ calls_absent k m n starts
unfolding calls_absent
absent_second k m n starts r q p e h f = rw (e, ← p, h, f)

pub absent_other : (k m n : ℕ) (starts : List ℕ) → (k ≡ code "C" → ⊥) → (k ≡ code "A" → ⊥) → false ≡ calls_absent k m n starts
unfolding calls_absent
absent_other k m n starts e f = rw (ne_eqb k (code "C") e, ne_eqb k (code "A") f)

-- no call up to row i is to an absent sheet
pub record Searching (kind one two starts : List ℕ) (count i : ℕ) : Type 0 where
  pub below : i ≤ count
  pub zero : is_open starts 0 ≡ true
  pub same : absent_in kind one two starts 0 count ≡ absent_in kind one two starts i (count - i)

pub search_zero : (kind one two starts : List ℕ) (count : ℕ) (r : Bool) → r ≡ is_open starts 0 → r ≡ false → Err (record { reason = Absent; line = 0 }) ≡ presence_in kind one two starts count
unfolding presence_in
search_zero kind one two starts count r e h = rw (← e, h)

pub search_begin : (kind one two starts : List ℕ) (count : ℕ) (r : Bool) → r ≡ is_open starts 0 → r ≡ true → Searching kind one two starts count 0
search_begin kind one two starts count r e h = record { below = omega arith; zero = sym e ∙ h; same = rw (sub-zero count) }

search_at : (kind one two starts : List ℕ) (count i : ℕ) → Searching kind one two starts count i → i < count
    → absent_in kind one two starts 0 count ≡ cond (calls_absent (get_or kind i 0) (get_or one i 0) (get_or two i 0) starts) (some (line_of i)) (absent_in kind one two starts (i + 1) (count - (i + 1)))
unfolding absent_in
search_at kind one two starts count i v h =
    let e : count - i ≡ suc (count - (i + 1)) = omega arith in
    v.same ∙ rw (e, add-one i)

pub search_more : (kind one two starts : List ℕ) (count i : ℕ) (r : Bool) → Searching kind one two starts count i → i < count
    → r ≡ calls_absent (get_or kind i 0) (get_or one i 0) (get_or two i 0) starts → r ≡ false → Searching kind one two starts count (i + 1)
search_more kind one two starts count i r v h e f =
    record { below = omega arith; zero = v.zero; same = search_at kind one two starts count i v h ∙ rw (← e, f) }

pub search_found : (kind one two starts : List ℕ) (count i : ℕ) (r : Bool) → Searching kind one two starts count i → i < count
    → r ≡ calls_absent (get_or kind i 0) (get_or one i 0) (get_or two i 0) starts → r ≡ true → Err (record { reason = Absent; line = i + 2 }) ≡ presence_in kind one two starts count
unfolding presence_in absent_at
search_found kind one two starts count i r v h e f =
    let s : absent_in kind one two starts 0 count ≡ some (line_of i) = search_at kind one two starts count i v h ∙ rw (← e, f) in
    rw (v.zero, s)

pub search_none : (kind one two starts : List ℕ) (count i : ℕ) → Searching kind one two starts count i → count ≤ i → Ok tt ≡ presence_in kind one two starts count
unfolding presence_in absent_at absent_in
search_none kind one two starts count i v h =
    let e : count - i ≡ 0 = omega arith in
    let s : absent_in kind one two starts 0 count ≡ none = v.same ∙ rw e in
    rw (v.zero, s)
