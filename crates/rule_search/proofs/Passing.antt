-- What the loop of the search keeps, rule by rule: what is left to search is the search over all. Assumes nothing.
use Rattle.std.proofs.Common.{◌≡◌, ℕ, ◌+◌, ◌<◌, ◌≤◌, List, length, get_or, drop, ap, add-one}
use lib.Seq.{drop-cons}
use Rattle.std.proofs.Math.ListN.{drop_of_length-le}
use Rattle.coverage.specs.declared.Rule.{Rule}
use Rattle.coverage.specs.declared.Search.{Search}
use Rattle.coverage.specs.Search.{searched, met_by}

pub searched_next : (rs : List Rule) (i : ℕ) (d : Rule) (s t whole : Search) → i < length rs → searched i (drop i rs) s ≡ whole → t ≡ met_by s i (get_or rs i d)
    → searched (i + 1) (drop (i + 1) rs) t ≡ whole
unfolding searched
searched_next rs i d s t whole inside left here =
    rw (here, add-one, ← ap (λ (l : List Rule). searched i l s) (drop-cons rs i d inside)) left

pub searched_end : (rs : List Rule) (i : ℕ) (s whole : Search) → length rs ≤ i → searched i (drop i rs) s ≡ whole → s ≡ whole
unfolding searched
searched_end rs i s whole past left = rw (← left, drop_of_length-le rs past)
