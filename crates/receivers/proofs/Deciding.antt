-- One rule decides of its own pairs, and rule by rule, from the last to the first, the sets are those that the model permits. Assumes nothing.
use Prim.Native.Nat.{ℕ, suc, ◌+◌, ◌-◌, ◌^◌, ◌<◌, ◌≤◌}
use native.Mathlib.Omega.{arith}
use mathlib.Core.Path.{◌≡◌, refl, sym, ◌∙◌, ap, subst}
use mathlib.Core.Bool.{Bool, true, false, not, cond, ◌&&◌, ◌||◌}
use mathlib.Core.List.{List, [], ◌∷◌}
use borrow.Author.Tests.{eq-eqb, ne_eqb, eqb-true, eqb-false, not-true, not-false}
use lib.Bits.{bit_and, bit_or}
use lib.Dec.{eqb}
use lib.ListN.{length, get_or, take, drop, set, length-set, length-take, drop_of_length-le}
use lib.Seq.{drop-cons, get_or-take, get_or-set_same, get_or-set_other}
use Rattle.model.specs.Limits.{boards}
use Rattle.model.specs.Senders.{pair_of, in_set, permits}
use Rattle.relation.specs.Rows.{has}
use Rattle.relation.proofs.Words.{has_not}
use Rattle.coverage.specs.Rules.{rules_as}
use Rattle.coverage.specs.declared.Rule.{Rule}
use Rattle.coverage.proofs.Covered.{set_or, set_and, empty_set, pair_covers}
use Rattle.receivers.specs.Permitted.{Decided, PermittedTo, PermittedBy}

or_decides : (x y : Bool) → (x || y) ≡ cond y true x
or_decides true true = refl
or_decides true false = refl
or_decides false true = refl
or_decides false false = refl

and_decides : (x y : Bool) → (x && not y) ≡ cond y false x
and_decides true true = refl
and_decides true false = refl
and_decides false true = refl
and_decides false false = refl

-- the boards that a set does not have
set_not : (a b : ℕ) → b < boards → a < 2 ^ boards → in_set (2 ^ boards - 1 - a) b ≡ not (in_set a b)
unfolding in_set has
set_not a b h l = has_not b boards a h l

module _ (receivers from to verdict sender : ℕ) (r : Bool) (e : r ≡ in_set from sender) where
  pub decided_other : not r ≡ true → Decided receivers from to verdict sender receivers
  decided_other t = record { says = λ b h. rw (← e, not-true r t) }

  pub decided_permitted : not r ≡ false → verdict ≡ 1 → Decided receivers from to verdict sender (bit_or receivers to)
  decided_permitted t v =
      record { says = λ b h. rw (← e, not-false r t, eq-eqb verdict 1 v, set_or receivers to b) (or_decides (in_set receivers b) (in_set to b)) }

  pub decided_forbidden : not r ≡ false → (verdict ≡ 1 → ⊥) → to < 2 ^ boards → Decided receivers from to verdict sender (bit_and receivers (2 ^ boards - 1 - to))
  decided_forbidden t v l =
      record {
        says = λ b h. rw (← e, not-false r t, ne_eqb verdict 1 v, set_and receivers (2 ^ boards - 1 - to) b, set_not to b h l)
            (and_decides (in_set receivers b) (in_set to b));
      }

-- The sets are those of the rules from number i on.
module _ (rules : List Rule) (count sender : ℕ) where
  pub record Going (i receivers : ℕ) : Type 0 where
    pub below : i ≤ count
    pub left : PermittedTo (rules_as (drop i (take count rules))) sender receivers

  pub going_start : Going count 0
  unfolding permits
  going_start =
      let none : drop count (take count rules) ≡ [] = drop_of_length-le (take count rules) {i = count} (simp length-take (omega arith)) in
      record {
        below = omega arith;
        left = record { says = λ b h. empty_set b ∙ sym (ap (λ (rs : List Rule). permits (rules_as rs) (pair_of sender b)) none) };
      }

  module _ (i receivers : ℕ) (j : Going i receivers) where
    pub going_on : (d : Rule) (more : ℕ) → Decided receivers (get_or rules (i - 1) d).from (get_or rules (i - 1) d).to (get_or rules (i - 1) d).verdict sender more
        → 0 < i → count ≤ length rules → Going (i - 1) more
    unfolding permits
    going_on d more decides p f =
        let r : Rule = get_or rules (i - 1) d in
        let up : suc (i - 1) ≡ i = omega arith in
        let first : drop (i - 1) (take count rules) ≡ r ∷ drop i (take count rules) =
        drop-cons (take count rules) (i - 1) d (simp length-take (omega (arith, j.below)))
        ∙ ap (λ (x : Rule). x ∷ drop (suc (i - 1)) (take count rules)) (get_or-take count rules (i - 1) d (omega (arith, j.below)))
        ∙ ap (λ (k : ℕ). r ∷ drop k (take count rules)) up in
        record {
          below = omega (arith, j.below);
          left = record {
            says = λ b h. decides.says b h
                ∙ ap (λ (x : Bool). cond (in_set r.from sender && in_set r.to b) (eqb r.verdict 1) x) (j.left.says b h)
                ∙ ap (λ (c : Bool). cond c (eqb r.verdict 1) (permits (rules_as (drop i (take count rules))) (pair_of sender b))) (sym (pair_covers r sender b h))
                ∙ sym (ap (λ (rs : List Rule). permits (rules_as rs) (pair_of sender b)) first);
          };
        }

    pub going_end : i ≤ 0 → PermittedTo (rules_as (take count rules)) sender receivers
    going_end n = let e : i ≡ 0 = omega arith in subst (λ (k : ℕ). PermittedTo (rules_as (drop k (take count rules))) sender receivers) e j.left

-- The senders below one have their sets.
module _ (rules : List Rule) (count : ℕ) where
  pub record Filling (sender : ℕ) (sets : List ℕ) : Type 0 where
    pub below : sender ≤ boards
    pub long : length sets ≡ boards
    pub each : (a : ℕ) → a < sender → PermittedTo (rules_as (take count rules)) a (get_or sets a 0)

  pub filling_start : (sets : List ℕ) → length sets ≡ boards → Filling 0 sets
  filling_start sets l = record { below = omega arith; long = l; each = λ a h. absurd (omega arith) }

  pub filling_more : (sender : ℕ) (sets : List ℕ) → Filling sender sets → (r : ℕ) → PermittedTo (rules_as (take count rules)) sender r → sender < boards
      → Filling (sender + 1) (set sets sender r)
  filling_more sender sets f r p l =
      record {
        below = omega arith;
        long = length-set sets sender r ∙ f.long;
        each = λ a h. go a h (eqb a sender) refl;
      }
    where
      go : (a : ℕ) → a < sender + 1 → (b : Bool) → eqb a sender ≡ b → PermittedTo (rules_as (take count rules)) a (get_or (set sets sender r) a 0)
      go a h true e =
          let s : a ≡ sender = eqb-true a sender e in
          rw s (rw (get_or-set_same sets sender r 0 (omega (arith, f.long))) p)
      go a h false e =
          let d : a ≡ sender → ⊥ = eqb-false a sender e in
          rw (get_or-set_other sets sender a r 0 d) (f.each a (omega arith))

  pub filled : (sender : ℕ) (sets : List ℕ) → Filling sender sets → boards ≤ sender → PermittedBy (rules_as (take count rules)) sets
  filled sender sets f l = record { each = λ a h. f.each a (omega arith) }
