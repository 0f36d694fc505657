-- One rule of a search, as the code goes: the receivers that are added, the rule that is noted. Assumes nothing.
use Prim.Native.Nat.{ℕ, ◌+◌}
use mathlib.Core.Path.{◌≡◌, ◌∙◌, ap}
use mathlib.Core.Bool.{Bool, true, false, not, ◌&&◌}
use borrow.Author.Tests.{eq-eqb, ne_eqb, not-true}
use lib.Bits.{bit_and, bit_or}
use Rattle.model.specs.Senders.{in_set}
use Rattle.coverage.specs.Search.{joined_by, noted_by, met_by}
use Rattle.coverage.specs.declared.Rule.{Rule}
use Rattle.coverage.specs.declared.Search.{Search}

-- a rule with the sender, and one without
pub joined_with : (s : Search) (from to : ℕ) (r : Bool) → r ≡ in_set from s.sender → r ≡ true
    → record { sender = s.sender; receiver = s.receiver; once = bit_or s.once to; twice = bit_or s.twice (bit_and s.once to); first = s.first; second = s.second }
    ≡ joined_by s from to
unfolding joined_by
joined_with s from to r p h = rw (← p, h)

pub joined_without : (s : Search) (from to : ℕ) (r : Bool) → r ≡ in_set from s.sender → r ≡ false → s ≡ joined_by s from to
unfolding joined_by
joined_without s from to r p h = rw (← p, h)

-- the first rule with the pair, the second, and any other
pub noted_first : (s : Search) (n : ℕ) → s.first ≡ 0
    → record { sender = s.sender; receiver = s.receiver; once = s.once; twice = s.twice; first = n; second = s.second } ≡ noted_by s n
unfolding noted_by
noted_first s n h = rw (eq-eqb s.first 0 h)

pub noted_second : (s : Search) (n : ℕ) → (s.first ≡ 0 → ⊥) → s.second ≡ 0
    → record { sender = s.sender; receiver = s.receiver; once = s.once; twice = s.twice; first = s.first; second = n } ≡ noted_by s n
unfolding noted_by
noted_second s n h k = rw (ne_eqb s.first 0 h, eq-eqb s.second 0 k)

pub noted_other : (s : Search) (n : ℕ) → (s.first ≡ 0 → ⊥) → (s.second ≡ 0 → ⊥) → s ≡ noted_by s n
unfolding noted_by
noted_other s n h k = rw (ne_eqb s.first 0 h, ne_eqb s.second 0 k)

-- a rule without the sender
pub met_outside : (s : Search) (number : ℕ) (rule : Rule) (r : Bool) → r ≡ in_set rule.from s.sender → not r ≡ true → s ≡ met_by s number rule
unfolding met_by joined_by
met_outside s number rule r p h = rw (← p, not-true r h)

-- a rule with the pair, and one without
module _ (s t : Search) (number : ℕ) (rule : Rule) (c : Bool) (p : t ≡ joined_by s rule.from rule.to)
    (q : c ≡ (in_set rule.from s.sender && in_set rule.to s.receiver)) where
  pub met_with : (u : Search) → u ≡ noted_by t (number + 2) → c ≡ true → u ≡ met_by s number rule
  unfolding met_by
  met_with u e h = e ∙ ap (λ (x : Search). noted_by x (number + 2)) p ∙ rw (← q, h)

  pub met_without : c ≡ false → t ≡ met_by s number rule
  unfolding met_by
  met_without h = p ∙ rw (← q, h)
