-- A store at the place after what is written. Assumes nothing.
use Prim.Native.Nat.{ℕ, suc, ◌+◌, ◌<◌}
use native.Mathlib.Numerals.{add-one}
use mathlib.Core.Path.{◌≡◌, sym, ◌∙◌, ap}
use mathlib.Core.List.{List, [], ◌∷◌, ◌++◌}
use lib.ListN.{length, get_or, set, drop}
use lib.Seq.{set_at, drop-cons, append_snoc}

-- the list given is written up to place n, and a goes there
pub set_next : (front given : List ℕ) (n a : ℕ) → length front ≡ n → n < length given
    → set (front ++ drop n given) n a ≡ (front ++ (a ∷ [])) ++ drop (n + 1) given
set_next front given n a e h =
    ap (λ (l : List ℕ). set (front ++ l) n a) (drop-cons given n 0 h)
    ∙ set_at front (get_or given n 0) (drop (suc n) given) a n e
    ∙ sym (append_snoc front a (drop (suc n) given))
    ∙ ap (λ (k : ℕ). (front ++ (a ∷ [])) ++ drop k given) (sym (add-one n))
