-- `search_in` meets its contract: what is left to search, from the rule that a turn begins with, is the search over all.
use Rattle.std.proofs.Common.{◌≡◌}
use lib.ListN.{drop}
use Rattle.coverage.specs.Search.{searched}
use Rattle.rule_search.proofs.search_in.Given as goal

abbrev pub invariant-loop-i : goal.invariant-loop-i
invariant-loop-i l = searched l.i (drop l.i l.rules) l.s ≡ searched 0 l.rules l.initial.s
