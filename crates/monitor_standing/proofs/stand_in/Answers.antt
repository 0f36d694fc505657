-- `monitor_standing::stand_in` meets its contract. Assumes nothing.
use Rattle.monitor.proofs.Parts.{masks_wanted, stands}
use Rattle.monitor_standing.proofs.Parts.{stands_stuck, stands_elsewhere}
use borrow.Author.Rules.{rules}
use Rattle.monitor_standing.proofs.stand_in.Goals as goal

pub board_masks-requires : goal.board_masks-requires
board_masks-requires c = search (masks_wanted, rules)

pub invariant_of-scenario : goal.invariant_of-scenario
invariant_of-scenario c = search (stands, rules)

pub returns-in-Stuck : goal.returns-in-Stuck
returns-in-Stuck c = search stands_stuck

pub returns-in_default : goal.returns-in_default
returns-in_default c = search (stands_elsewhere, c.in_default.not-Stuck)
