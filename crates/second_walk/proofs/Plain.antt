-- A walk of rows without an A row, from any state: it comes to the same on every list of options, and a refusal of it is named well.
-- Assumes nothing.
use Prim.Native.Nat.{ℕ, zero, suc, ◌+◌, ◌≤◌}
use native.Mathlib.Omega.{arith}
use mathlib.Core.Path.{◌≡◌, refl, subst}
use mathlib.Core.Bool.{Bool, true, false}
use mathlib.Core.List.{List, [], ◌∷◌}
use lib.Dec.{eqb, ltb}
use lib.ListN.{length, drop, length-drop}
use Rattle.model.specs.Limits.{rows_most, messages_most, levels, calls_most}
use Rattle.model.specs.Refusal.{Out, ok, refusal, and_then, messages_refusal, calls_refusal}
use Rattle.model.specs.Rows.{Row, sheet, message, order, block, call, choice}
use Rattle.model.specs.Place.{line_of}
use Rattle.model.specs.Expansion.{Ops, Progress, start_of, block_opened, call_made, message_met, order_met, walk_rows, call_at}
use Rattle.model.specs.Choice.{is_choice, Plain}
use Rattle.model.proofs.Bounded.{not_both}
use Rattle.model.proofs.Lines.{Well}

start_within : (n : ℕ) (file : List Row) → start_of n file ≤ length file
unfolding start_of
start_within n [] = omega arith
start_within n (sheet m ∷ rs) = go (eqb m n) (start_within n rs)
  where
    go : (b : Bool) → start_of n rs ≤ length rs → elim b [ true ↦ 1 | false ↦ suc (start_of n rs) ] ≤ suc (length rs)
    go true h = omega arith
    go false h = omega arith
start_within n (message a b ∷ rs) = omega (arith, start_within n rs)
start_within n (order x y ∷ rs) = omega (arith, start_within n rs)
start_within n (block ∷ rs) = omega (arith, start_within n rs)
start_within n (call m ∷ rs) = omega (arith, start_within n rs)
start_within n (choice k m ∷ rs) = omega (arith, start_within n rs)

drop_plain : (k : ℕ) (rs : List Row) → Plain rs → Plain (drop k rs)
drop_plain zero rs p = p
drop_plain (suc k) [] p = tt
drop_plain (suc k) (r ∷ rs) p = drop_plain k rs p.1

module _ {T : Type 0} (ops : Ops T) (options : List Bool) where
  -- both come to the same, and where it is a refusal its line is one of the file
  abbrev Alike : Out (Progress T) → Out (Progress T) → Type 0
  Alike o o' = (o ≡ o') × Well (line_of rows_most) o

  alike_then : (o o' : Out (Progress T)) (f g : Progress T → Out (Progress T)) → Alike o o' → ((s : Progress T) → Alike (f s) (g s))
      → Alike (and_then o f) (and_then o' g)
  unfolding and_then
  alike_then o o' f g a h = subst (λ (q : Out (Progress T)). Alike (and_then o f) (and_then q g)) a.0 (go o a.1)
    where
      go : (q : Out (Progress T)) → Well (line_of rows_most) q → Alike (and_then q f) (and_then q g)
      go (ok s) w = h s
      go (refusal number line) w = (refl, w)

  abbrev CallsAlike : (Bool → ℕ → ℕ → Progress T → Out (Progress T)) → (Bool → ℕ → ℕ → Progress T → Out (Progress T)) → Type 0
  CallsAlike C C' = (n line : ℕ) (s : Progress T) → line ≤ line_of rows_most → Alike (C false n line s) (C' false n line s)

  rows_alike : (C C' : Bool → ℕ → ℕ → Progress T → Out (Progress T)) → CallsAlike C C' → (rs : List Row) → Plain rs → (line : ℕ) (s : Progress T)
      → line + length rs ≤ line_of rows_most → Alike (walk_rows ops options C rs line s) (walk_rows ops [] C' rs line s)
  unfolding walk_rows is_choice
  rows_alike C C' calls [] p line s h = (refl, tt)
  rows_alike C C' calls (sheet n ∷ rs) p line s h = (refl, tt)
  rows_alike C C' calls (message a b ∷ rs) p line s h =
      go (ltb s.walk.count messages_most) (rows_alike C C' calls rs p.1 (suc line) (message_met ops a b s) (omega arith))
    where
      go : (c : Bool) → Alike (walk_rows ops options C rs (suc line) (message_met ops a b s)) (walk_rows ops [] C' rs (suc line) (message_met ops a b s))
          → Alike (elim c [ true ↦ walk_rows ops options C rs (suc line) (message_met ops a b s) | false ↦ refusal messages_refusal line ])
          (elim c [ true ↦ walk_rows ops [] C' rs (suc line) (message_met ops a b s) | false ↦ refusal messages_refusal line ])
      go true a = a
      go false a = (refl, record { behind = omega arith; known = omega arith; within = omega arith })
  rows_alike C C' calls (order x y ∷ rs) p line s h = rows_alike C C' calls rs p.1 (suc line) (order_met ops x y s) (omega arith)
  rows_alike C C' calls (block ∷ rs) p line s h = rows_alike C C' calls rs p.1 (suc line) (block_opened ops s) (omega arith)
  rows_alike C C' calls (call n ∷ rs) p line s h =
      alike_then (C false n line s) (C' false n line s) (λ t. walk_rows ops options C rs (suc line) (block_opened ops t)) (λ t. walk_rows ops [] C' rs (suc line) (block_opened ops t))
      (calls n line s (omega arith)) (λ t. rows_alike C C' calls rs p.1 (suc line) (block_opened ops t) (omega arith))
  rows_alike C C' calls (choice m n ∷ rs) p line s h = not_both true refl p.0

  module _ (file : List Row) (plain : Plain file) (few : length file ≤ rows_most) where
    body_within : (n : ℕ) → line_of (start_of n file) + length (drop (start_of n file) file) ≤ line_of rows_most
    body_within n = omega (arith, length-drop (start_of n file) file, start_within n file)

    calls_alike : (left : ℕ) → CallsAlike (call_at ops options left file) (call_at ops [] left file)
    unfolding call_at
    calls_alike zero n line s h = (refl, record { behind = omega arith; known = omega arith; within = h })
    calls_alike (suc left) n line s h =
        go (ltb s.walk.calls calls_most)
        (rows_alike (call_at ops options left file) (call_at ops [] left file) (calls_alike left) (drop (start_of n file) file) (drop_plain (start_of n file) file plain)
        (line_of (start_of n file)) (block_opened ops (call_made ops false s)) (body_within n))
      where
        body : List Bool → Out (Progress T)
        body l = walk_rows ops l (call_at ops l left file) (drop (start_of n file) file) (line_of (start_of n file)) (block_opened ops (call_made ops false s))

        go : (c : Bool) → Alike (body options) (body [])
            → Alike (elim c [ true ↦ body options | false ↦ refusal calls_refusal line ]) (elim c [ true ↦ body [] | false ↦ refusal calls_refusal line ])
        go true a = a
        go false a = (refl, record { behind = omega arith; known = omega arith; within = h })

    abbrev walked : List Bool → Progress T → Out (Progress T)
    walked l s = walk_rows ops l (call_at ops l levels file) (drop (start_of 0 file) file) (line_of (start_of 0 file)) s

    walked_alike : (s : Progress T) → Alike (walked options s) (walked [] s)
    walked_alike s =
        rows_alike (call_at ops options levels file) (call_at ops [] levels file) (calls_alike levels) (drop (start_of 0 file) file) (drop_plain (start_of 0 file) file plain)
        (line_of (start_of 0 file)) s (body_within 0)

    pub walked_plain : (s : Progress T) → walked options s ≡ walked [] s
    walked_plain s = (walked_alike s).0

    pub walked_well : (s : Progress T) → Well (line_of rows_most) (walked options s)
    walked_well s = (walked_alike s).1
