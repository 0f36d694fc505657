-- `choice_lists::walk_lists` meets its contract: its loop keeps `Judging`, and goes from place to place. Assumes nothing.
use Prim.Native.Nat.{◌-◌, ◌*◌}
use mathlib.Core.Path.{◌≡◌}
use lib.ListN.{length}
use Rattle.model.specs.Limits.{lists_most, messages_most}
use Rattle.relation.specs.Width.{width}
use Rattle.sheet.specs.Bridge.{rows_of}
use Rattle.choice_lists.proofs.Judging.{Judging}
use Rattle.choice_lists.proofs.walk_lists.Given as goal

abbrev pub invariant-loop-counted : goal.invariant-loop-counted
invariant-loop-counted l = Judging (rows_of l.rows.kind.now l.rows.one.now l.rows.two.now l.rows.count) l.code l.list l.first × (length l.boards ≡ 2 * messages_most) × (length l.words ≡ 2 * messages_most * width)

abbrev pub decreases-loop-counted : goal.decreases-loop-counted
decreases-loop-counted l = lists_most - l.list
