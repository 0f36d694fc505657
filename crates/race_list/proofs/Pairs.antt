-- Races put into an output one after the other, and what stands there then. Assumes nothing.
use mathlib.Core.Path.{◌≡◌, refl, sym, ◌∙◌, ap}
use mathlib.Core.Bool.{Bool, true, false, cond}
use mathlib.Core.List.{List, [], ◌∷◌, ◌++◌, append_assoc}
use Prim.Native.Nat.{ℕ, suc, ◌+◌, ◌*◌, ◌/◌, ◌<◌, ◌≤◌}
use native.Mathlib.Omega.{arith}
use lib.Dec.{ltb}
use lib.ListN.{length, set, take, drop, length-append, length-set}
use lib.Seq.{set_at, take-nil}
use borrow.Author.Tests.{lt-ltb, le-ltb}
use Rattle.model.specs.Holdings.{races_told}
use Rattle.race_list.specs.Listing.{with_race, with_races, Adds}

race_length : (output : List ℕ) (n : ℕ) (race : ℕ × ℕ) → length (with_race output n race) ≡ length output
unfolding with_race
race_length output n race = go (ltb (2 * n + 1) (length output))
  where
    go : (b : Bool) → length (cond b (set (set output (2 * n) race.0) (2 * n + 1) race.1) output) ≡ length output
    go true = length-set (set output (2 * n) race.0) (2 * n + 1) race.1 ∙ length-set output (2 * n) race.0
    go false = refl

pub races_length : (output : List ℕ) (n : ℕ) (races : List (ℕ × ℕ)) → length (with_races output n races) ≡ length output
unfolding with_races
races_length output n [] = refl
races_length output n (race ∷ races) = races_length (with_race output n race) (suc n) races ∙ race_length output n race

-- where the output holds the pair, it is put there; where it does not, nothing is
pub race_put : (output : List ℕ) (n e x : ℕ) → 2 * n + 1 < length output → set (set output (2 * n) e) (2 * n + 1) x ≡ with_race output n (e, x)
unfolding with_race
race_put output n e x h = sym (rw (lt-ltb (2 * n + 1) (length output) h))

race_left : (output : List ℕ) (n : ℕ) (race : ℕ × ℕ) → length output ≤ 2 * n + 1 → with_race output n race ≡ output
unfolding with_race
race_left output n race h = rw (le-ltb (2 * n + 1) (length output) h)

pub races_left : (output : List ℕ) (n : ℕ) (races : List (ℕ × ℕ)) → length output ≤ 2 * n + 1 → with_races output n races ≡ output
unfolding with_races
races_left output n [] h = refl
races_left output n (race ∷ races) h =
    ap (λ (l : List ℕ). with_races l (suc n) races) (race_left output n race h) ∙ races_left output (suc n) races (omega arith)

races_append : (output : List ℕ) (n : ℕ) (a b : List (ℕ × ℕ)) → with_races output n (a ++ b) ≡ with_races (with_races output n a) (n + length a) b
unfolding with_races
races_append output n [] b = let e : n ≡ n + 0 = omega arith in ap (λ (k : ℕ). with_races output k b) e
races_append output n (race ∷ a) b =
    let e : suc n + length a ≡ n + suc (length a) = omega arith in
    races_append (with_race output n race) (suc n) a b ∙ ap (λ (k : ℕ). with_races (with_races (with_race output n race) (suc n) a) k b) e

-- none added, and some after others
pub adds_none : (output : List ℕ) (n : ℕ) → Adds [] output n output n
unfolding with_races
adds_none output n = record { pairs = refl; next = omega arith }

pub adds_more : (a b : List (ℕ × ℕ)) (output mid exit : List ℕ) (n m k : ℕ) → Adds a output n mid m → Adds b mid m exit k → Adds (a ++ b) output n exit k
adds_more a b output mid exit n m k p q =
    record {
      pairs =
          q.pairs ∙ ap (λ (l : List ℕ). with_races l m b) p.pairs ∙ ap (λ (i : ℕ). with_races (with_races output n a) i b) p.next
          ∙ sym (races_append output n a b);
      next = q.next ∙ ap (λ (i : ℕ). i + length b) p.next ∙ omega (arith, length-append a b);
    }

pub adds_same : (races : List (ℕ × ℕ)) (output exit : List ℕ) (n m : ℕ) → Adds races output n exit m → length exit ≡ length output
adds_same races output exit n m a = ap length a.pairs ∙ races_length output n races

-- the races from number n on, after the numbers of those ahead of it
told_after : (races : List (ℕ × ℕ)) (ahead rest : List ℕ) (n : ℕ) → length ahead ≡ 2 * n
    → with_races (ahead ++ rest) n races ≡ ahead ++ (races_told (take (length rest / 2) races) ++ drop (2 * length (take (length rest / 2) races)) rest)
unfolding with_races races_told
told_after [] ahead rest n h = rw (take-nil (length rest / 2))
told_after (race ∷ races) ahead [] n h =
    races_left (ahead ++ []) n (race ∷ races) (omega (arith, length-append ahead []))
told_after (race ∷ races) ahead (a ∷ []) n h =
    races_left (ahead ++ a ∷ []) n (race ∷ races) (omega (arith, length-append ahead (a ∷ [])))
told_after (race ∷ races) ahead (a ∷ b ∷ rest) n h =
    let numbers : List ℕ = race.0 ∷ race.1 ∷ [] in
    let long : length (ahead ++ (race.0 ∷ [])) ≡ 2 * n + 1 = length-append ahead (race.0 ∷ []) ∙ omega arith in
    let longer : length (ahead ++ numbers) ≡ 2 * suc n = length-append ahead numbers ∙ omega arith in
    let put : with_race (ahead ++ a ∷ b ∷ rest) n race ≡ (ahead ++ numbers) ++ rest =
    sym (race_put (ahead ++ a ∷ b ∷ rest) n race.0 race.1 (omega (arith, length-append ahead (a ∷ b ∷ rest))))
    ∙ ap (λ (l : List ℕ). set l (2 * n + 1) race.1) (set_at ahead a (b ∷ rest) race.0 (2 * n) h ∙ sym (append_assoc ahead (race.0 ∷ []) (b ∷ rest)))
    ∙ set_at (ahead ++ (race.0 ∷ [])) b rest race.1 (2 * n + 1) long
    ∙ append_assoc ahead (race.0 ∷ []) (race.1 ∷ rest)
    ∙ sym (append_assoc ahead numbers rest) in
    let half : suc (suc (length rest)) / 2 ≡ suc (length rest / 2) = omega arith in
    let twice : 2 * suc (length (take (length rest / 2) races)) ≡ suc (suc (2 * length (take (length rest / 2) races))) = omega arith in
    ap (λ (l : List ℕ). with_races l (suc n) races) put
    ∙ told_after races (ahead ++ numbers) rest (suc n) longer
    ∙ append_assoc ahead numbers (races_told (take (length rest / 2) races) ++ drop (2 * length (take (length rest / 2) races)) rest)
    ∙ sym (rw (half, twice))

pub races_told_from : (races : List (ℕ × ℕ)) (output : List ℕ)
    → with_races output 0 races ≡ races_told (take (length output / 2) races) ++ drop (2 * length (take (length output / 2) races)) output
races_told_from races output = told_after races [] output 0 refl
